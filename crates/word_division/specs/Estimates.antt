-- The number that an estimated quotient digit divides. Assumes nothing.
use Rattle.std.specs.Prelude.{ℕ, ◌+◌, ◌*◌, ◌/◌, ◌^◌}
use Rattle.word_division.specs.declared.digit.Estimate.{Estimate}

-- the digit times the upper half of the divisor d, plus the rest: the upper part of the dividend
abbrev pub divided : Estimate → ℕ → ℕ
divided e d = e.digit * (d / 2 ^ 32) + e.rest
