-- What fmod is held to (ISO C, 7.12.10.1 and F.10.7.1): what is left of two numbers, and the rows of NaNs, infinities and zeros. Assumes nothing.
use Rattle.std.specs.Prelude.{ℕ, suc, ◌+◌, ◌*◌, ◌<◌, ◌≡◌}
use Rattle.ieee.specs.Format.{Format, inf, canonical, units}
use Rattle.ieee.specs.Pattern.{Pattern, minus, magnitude, nan, infinite, finite, kind}

-- ---- two numbers
-- r is what is left of x: |x| = n |y| + |r| with |r| < |y|, the sign of x, nothing rounded
pub record Left (f : Format) (x y r : ℕ) : Type 0 where
  pub n : ℕ
  pub pattern : Pattern f r
  pub finite : magnitude f r < inf f
  pub counts : units f (magnitude f x) ≡ n * units f (magnitude f y) + units f (magnitude f r)
  pub small : units f (magnitude f r) < units f (magnitude f y)
  pub sign : minus f r ≡ minus f x

-- ---- rows: what the operation o makes of NaNs, infinities and zeros
pub record FmodRows (f : Format) (o : ℕ → ℕ → ℕ) : Type 0 where
  pub nan_x : (x y : ℕ) → kind f x ≡ nan → o x y ≡ canonical f
  pub infinite_x : (x y : ℕ) → kind f x ≡ infinite → o x y ≡ canonical f
  pub nan_y : (x y : ℕ) → kind f y ≡ nan → o x y ≡ canonical f
  pub zero_y : (x y : ℕ) → kind f y ≡ finite 0 → o x y ≡ canonical f
  pub infinite_y : (x y u : ℕ) → kind f x ≡ finite u → kind f y ≡ infinite → o x y ≡ x
  pub below_y : (x y u v : ℕ) → Pattern f x → kind f x ≡ finite u → kind f y ≡ finite v → u < v → o x y ≡ x
  pub zero_x : (x y v : ℕ) → Pattern f x → kind f x ≡ finite 0 → kind f y ≡ finite (suc v) → o x y ≡ x
  pub zero_left : (x y u v : ℕ) → kind f x ≡ finite u → kind f y ≡ finite (suc v) → magnitude f (o x y) ≡ 0 → minus f (o x y) ≡ minus f x
