-- A format by its two numbers, and formats that fit in a word of 64 bits. Assumes nothing.
use Rattle.std.specs.Prelude.{ℕ, ◌+◌, ◌≤◌}
use Rattle.ieee.specs.Format.{Format, Fair}

abbrev pub format : ℕ → ℕ → Format
format p e = record { frac = p; expo = e }

-- a fair format whose patterns fit in a word and whose exponents are small beside those of the rounding step
pub record Fits (p e : ℕ) : Type 0 where
  pub fair : Fair (format p e)
  pub word : p + e ≤ 63
  pub small : e ≤ 16
