-- The number that two words stand for. Assumes nothing.
use Rattle.std.specs.Prelude.{ℕ, ◌+◌, ◌*◌, ◌^◌}
use Rattle.word_wide.specs.declared.Wide.{Wide}

abbrev pub value : Wide → ℕ
value w = w.hi * 2 ^ 64 + w.lo
