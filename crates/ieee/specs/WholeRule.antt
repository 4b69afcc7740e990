-- What trunc, floor and ceil are held to (IEEE 754-2019, clause 5.9; ISO C, F.10.6): the whole number that each gives for a number, and the rows of NaNs, infinities and zeros. Assumes nothing.
use Rattle.std.specs.Prelude.{ℕ, suc, ◌*◌, ◌^◌, ◌≤◌, ◌<◌, ◌≡◌, true, false, ℤ, pos, neg_ℤ, ◌+ℤ◌, ◌-ℤ◌, ◌*ℤ◌, ◌≤ℤ◌, ◌<ℤ◌}
use Rattle.ieee.specs.Format.{Format, low, inf, canonical, units}
use Rattle.ieee.specs.Pattern.{Pattern, minus, magnitude, signed, nan, infinite, finite, kind, value}

-- ---- a number
-- r is x cut to a whole number of ones: |k| ≤ |x| < |k| + 1 with the sign kept, and nothing rounded
pub record Truncated (f : Format) (x r : ℕ) : Type 0 where
  pub k : ℕ
  pub pattern : Pattern f r
  pub finite : magnitude f r < inf f
  pub counts : units f (magnitude f r) ≡ k * 2 ^ low f
  pub least : k * 2 ^ low f ≤ units f (magnitude f x)
  pub most : units f (magnitude f x) < suc k * 2 ^ low f
  pub sign : minus f r ≡ minus f x

-- r is the greatest whole number of ones not above x: k ≤ x < k + 1
pub record Floored (f : Format) (x r : ℕ) : Type 0 where
  pub k : ℤ
  pub pattern : Pattern f r
  pub finite : magnitude f r < inf f
  pub counts : value f r ≡ k *ℤ pos (2 ^ low f)
  pub least : (k *ℤ pos (2 ^ low f)) ≤ℤ value f x
  pub most : value f x <ℤ ((k +ℤ pos 1) *ℤ pos (2 ^ low f))
  pub sign : minus f r ≡ minus f x

-- r is the least whole number of ones not below x: k - 1 < x ≤ k
pub record Ceiled (f : Format) (x r : ℕ) : Type 0 where
  pub k : ℤ
  pub pattern : Pattern f r
  pub finite : magnitude f r < inf f
  pub counts : value f r ≡ k *ℤ pos (2 ^ low f)
  pub least : ((k -ℤ pos 1) *ℤ pos (2 ^ low f)) <ℤ value f x
  pub most : value f x ≤ℤ (k *ℤ pos (2 ^ low f))
  pub sign : minus f r ≡ minus f x

-- ---- rows: what the operation o makes of NaNs, infinities and zeros
pub record WholeRows (f : Format) (o : ℕ → ℕ) : Type 0 where
  pub of_nan : (x : ℕ) → kind f x ≡ nan → o x ≡ canonical f
  pub of_infinity : (x : ℕ) → kind f x ≡ infinite → o x ≡ x
  pub of_zero : (x : ℕ) → Pattern f x → kind f x ≡ finite 0 → o x ≡ x

-- floor has two rows more: a value in (0, 1) gives +0, and a value in (-1, 0) gives -1
pub record FloorRows (f : Format) (o : ℕ → ℕ) : Type 0 where
  pub rows : WholeRows f o
  pub above_zero : (x u : ℕ) → kind f x ≡ finite u → u < 2 ^ low f → minus f x ≡ false → o x ≡ 0
  pub below_zero : (x u : ℕ) → kind f x ≡ finite u → 0 < u → u < 2 ^ low f → minus f x ≡ true → value f (o x) ≡ neg_ℤ (pos (2 ^ low f))

-- and so has ceil: a value in (0, 1) gives 1, and a value in (-1, 0) gives -0
pub record CeilRows (f : Format) (o : ℕ → ℕ) : Type 0 where
  pub rows : WholeRows f o
  pub above_zero : (x u : ℕ) → kind f x ≡ finite u → 0 < u → u < 2 ^ low f → minus f x ≡ false → value f (o x) ≡ pos (2 ^ low f)
  pub below_zero : (x u : ℕ) → kind f x ≡ finite u → u < 2 ^ low f → minus f x ≡ true → o x ≡ signed f true 0
