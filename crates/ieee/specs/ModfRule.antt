-- What modf is held to (ISO C, F.10.3.18): the two parts of a number, and the rows of NaNs, infinities and zeros. Assumes nothing.
use Rattle.std.specs.Prelude.{ℕ, ◌*◌, ◌^◌, ◌<◌, ◌≡◌, ◌+ℤ◌}
use Rattle.ieee.specs.Format.{Format, low, inf, canonical, units}
use Rattle.ieee.specs.Pattern.{Pattern, minus, magnitude, signed, nan, infinite, finite, kind, value}

-- ---- a number
-- r is less than one and w a whole number of ones, both with the sign of x, and they add to x exactly
pub record Parted (f : Format) (x r w : ℕ) : Type 0 where
  pub k : ℕ
  pub pattern : Pattern f r
  pub whole_pattern : Pattern f w
  pub whole_finite : magnitude f w < inf f
  pub small : units f (magnitude f r) < 2 ^ low f
  pub counts : units f (magnitude f w) ≡ k * 2 ^ low f
  pub adds : value f r +ℤ value f w ≡ value f x
  pub sign : minus f r ≡ minus f x
  pub whole_sign : minus f w ≡ minus f x

-- ---- rows: what the operation o with its whole part w makes of NaNs, infinities and zeros
pub record ModfRows (f : Format) (o w : ℕ → ℕ) : Type 0 where
  pub of_nan : (x : ℕ) → kind f x ≡ nan → (o x ≡ canonical f) × (w x ≡ canonical f)
  pub of_infinity : (x : ℕ) → kind f x ≡ infinite → (o x ≡ signed f (minus f x) 0) × (w x ≡ x)
  pub of_zero : (x : ℕ) → Pattern f x → kind f x ≡ finite 0 → (o x ≡ x) × (w x ≡ x)
