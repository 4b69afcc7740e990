-- fma of NaNs, infinities and zeros, row by row (IEEE 754-2019, clauses 6.1 to 6.3 and 7.2). Assumes nothing.
use Rattle.std.specs.Prelude.{ℕ, suc, ◌*◌, ◌^◌, ◌<◌, ◌≡◌, true, false, pos, ◌+ℤ◌, ◌*ℤ◌}
use Rattle.ieee.specs.Format.{Format, low, inf, canonical}
use Rattle.ieee.specs.Pattern.{Pattern, signed, value, nan, infinite, finite, kind}
use Rattle.ieee.specs.Round.{Attribute, ties_to_even, ties_to_away, toward_zero, toward_positive, toward_negative}
use Rattle.ieee.specs.Fma.{InfiniteProduct, product_sign, against}

-- rounding toward negative
abbrev pub Down : Attribute → Type 0
Down ties_to_even = ⊥
Down ties_to_away = ⊥
Down toward_zero = ⊥
Down toward_positive = ⊥
Down toward_negative = Unit {0}

-- the answer r to x, y and z under an attribute; all other sums of numbers are held to the rule of rounding
pub record FmaRows (f : Format) (a : Attribute) (x y z r : ℕ) : Type 0 where
  pub nan_first : kind f x ≡ nan → r ≡ canonical f
  pub nan_second : kind f y ≡ nan → r ≡ canonical f
  pub nan_third : kind f z ≡ nan → r ≡ canonical f
  pub zero_by_infinity : kind f x ≡ finite 0 → kind f y ≡ infinite → r ≡ canonical f
  pub infinity_by_zero : kind f x ≡ infinite → kind f y ≡ finite 0 → r ≡ canonical f
  pub opposite_infinities : InfiniteProduct f x y → kind f z ≡ infinite → against f x y z ≡ true → r ≡ canonical f
  pub like_infinities : InfiniteProduct f x y → kind f z ≡ infinite → against f x y z ≡ false → r ≡ signed f (product_sign f x y) (inf f)
  pub infinite_product : (w : ℕ) → InfiniteProduct f x y → kind f z ≡ finite w → r ≡ signed f (product_sign f x y) (inf f)
  pub infinite_third : (u v : ℕ) → Pattern f z → kind f x ≡ finite u → kind f y ≡ finite v → kind f z ≡ infinite → r ≡ z
  -- a zero product leaves z; with a zero z, like signs keep theirs, and unlike signs give +0, or -0 when rounding down
  pub zero_product : (u v w : ℕ) → Pattern f z → kind f x ≡ finite u → kind f y ≡ finite v → u * v ≡ 0 → kind f z ≡ finite (suc w) → r ≡ z
  pub like_zeros : (u v : ℕ) → kind f x ≡ finite u → kind f y ≡ finite v → u * v ≡ 0 → kind f z ≡ finite 0 → against f x y z ≡ false → r ≡ signed f (product_sign f x y) 0
  pub unlike_zeros : (u v : ℕ) → kind f x ≡ finite u → kind f y ≡ finite v → u * v ≡ 0 → kind f z ≡ finite 0 → against f x y z ≡ true → (Down a → ⊥) → r ≡ 0
  pub unlike_zeros_down : (u v : ℕ) → kind f x ≡ finite u → kind f y ≡ finite v → u * v ≡ 0 → kind f z ≡ finite 0 → against f x y z ≡ true → Down a → r ≡ signed f true 0
  -- and a zero sum of terms that are not zero gives the same
  pub zero_sum : (u v w : ℕ) → kind f x ≡ finite u → kind f y ≡ finite v → kind f z ≡ finite w → 0 < u * v
      → value f x *ℤ value f y +ℤ value f z *ℤ pos (2 ^ low f) ≡ pos 0 → (Down a → ⊥) → r ≡ 0
  pub zero_sum_down : (u v w : ℕ) → kind f x ≡ finite u → kind f y ≡ finite v → kind f z ≡ finite w → 0 < u * v
      → value f x *ℤ value f y +ℤ value f z *ℤ pos (2 ^ low f) ≡ pos 0 → Down a → r ≡ signed f true 0
