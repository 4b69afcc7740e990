-- sqrt of NaNs, infinities, zeros and numbers below zero, row by row (IEEE 754-2019, clauses 6.2, 6.3 and 7.2). Assumes nothing.
use Rattle.std.specs.Prelude.{ℕ, suc, ◌≡◌, true, false}
use Rattle.ieee.specs.Format.{Format, canonical}
use Rattle.ieee.specs.Pattern.{Pattern, minus, nan, infinite, finite, kind}

-- the root o; that of a number above zero is held to the rule of rounding
pub record SqrtRows (f : Format) (o : ℕ → ℕ) : Type 0 where
  pub of_nan : (x : ℕ) → kind f x ≡ nan → o x ≡ canonical f
  pub of_infinity : (x : ℕ) → kind f x ≡ infinite → minus f x ≡ false → o x ≡ x
  pub of_minus_infinity : (x : ℕ) → kind f x ≡ infinite → minus f x ≡ true → o x ≡ canonical f
  pub of_zero : (x : ℕ) → Pattern f x → kind f x ≡ finite 0 → o x ≡ x
  pub of_minus : (x u : ℕ) → kind f x ≡ finite (suc u) → minus f x ≡ true → o x ≡ canonical f
