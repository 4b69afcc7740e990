-- scalbn of NaNs, infinities and zeros, row by row (IEEE 754-2019, clauses 6.1 to 6.3). Assumes nothing.
use Rattle.std.specs.Prelude.{ℕ, ◌≡◌, ℤ}
use Rattle.ieee.specs.Format.{Format, canonical}
use Rattle.ieee.specs.Pattern.{Pattern, nan, infinite, finite, kind}

-- the answer r to x and n, under any attribute; all other numbers are held to the rule of rounding
pub record ScalbnRows (f : Format) (x : ℕ) (n : ℤ) (r : ℕ) : Type 0 where
  pub of_nan : kind f x ≡ nan → r ≡ canonical f
  pub of_infinity : kind f x ≡ infinite → r ≡ x
  pub of_zero : Pattern f x → kind f x ≡ finite 0 → r ≡ x
