-- The width of the words that hold a format's patterns. Assumes nothing.
use Rattle.std.specs.Prelude.{ℕ, ◌+◌}
use Rattle.ieee.specs.Format.{Format}

abbrev pub bits_of : Format → ℕ
bits_of f = f.frac + f.expo + 1
