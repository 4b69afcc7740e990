-- What remquo is held to (IEEE 754-2019, remainder, clause 5.3.1; ISO C, F.10.7.3): what is left of two numbers by the nearest multiple, with its quotient, and the rows of NaNs, infinities and zeros. Assumes nothing.
use Rattle.std.specs.Prelude.{ℕ, suc, ◌*◌, ◌%◌, ◌^◌, ◌≤◌, ◌<◌, ◌≡◌, ℤ, pos, ◌+ℤ◌, ◌*ℤ◌}
use Rattle.ieee.specs.Format.{Format, inf, canonical, units}
use Rattle.ieee.specs.Pattern.{Pattern, minus, magnitude, unlike, nan, infinite, finite, kind, with_sign, value}
use Rattle.ieee.specs.Rule.{distance}

-- ---- two numbers
-- n is nearest to u / d, and even where another is as near
pub record NearestTo (u d n : ℕ) : Type 0 where
  pub half : 2 * distance u (n * d) ≤ d
  pub tie : 2 * distance u (n * d) ≡ d → n % 2 ≡ 0

-- x = n y + r with 2|r| ≤ |y|, and n even where they are equal; a zero has the sign of x; the quotient is n modulo 2 ^ 31, with the sign of n
pub record NearestLeft (f : Format) (x y r : ℕ) (q : ℤ) : Type 0 where
  -- n without its sign, which is minus where the signs of x and y differ
  pub n : ℕ
  pub pattern : Pattern f r
  pub finite : magnitude f r < inf f
  pub counts : value f x ≡ with_sign (unlike (minus f x) (minus f y)) n *ℤ value f y +ℤ value f r
  pub half : 2 * units f (magnitude f r) ≤ units f (magnitude f y)
  pub tie : 2 * units f (magnitude f r) ≡ units f (magnitude f y) → n % 2 ≡ 0
  pub zero_sign : magnitude f r ≡ 0 → minus f r ≡ minus f x
  pub quotient : q ≡ with_sign (unlike (minus f x) (minus f y)) (n % 2 ^ 31)

-- ---- rows: what the operation o with its quotient q makes of NaNs, infinities and zeros
-- the answer to x and y is r, with the quotient n
abbrev pub AnswerIs : (ℕ → ℕ → ℕ) → (ℕ → ℕ → ℤ) → ℕ → ℕ → ℕ → ℤ → Type 0
AnswerIs o q x y r n = (o x y ≡ r) × (q x y ≡ n)

pub record RemquoRows (f : Format) (o : ℕ → ℕ → ℕ) (q : ℕ → ℕ → ℤ) : Type 0 where
  pub nan_x : (x y : ℕ) → kind f x ≡ nan → AnswerIs o q x y (canonical f) (pos 0)
  pub infinite_x : (x y : ℕ) → kind f x ≡ infinite → AnswerIs o q x y (canonical f) (pos 0)
  pub nan_y : (x y : ℕ) → kind f y ≡ nan → AnswerIs o q x y (canonical f) (pos 0)
  pub zero_y : (x y : ℕ) → kind f y ≡ finite 0 → AnswerIs o q x y (canonical f) (pos 0)
  pub infinite_y : (x y u : ℕ) → kind f x ≡ finite u → kind f y ≡ infinite → AnswerIs o q x y x (pos 0)
  pub below_half_y : (x y u v : ℕ) → Pattern f x → kind f x ≡ finite u → kind f y ≡ finite (suc v) → 2 * u ≤ suc v → AnswerIs o q x y x (pos 0)
  pub zero_x : (x y v : ℕ) → Pattern f x → kind f x ≡ finite 0 → kind f y ≡ finite (suc v) → AnswerIs o q x y x (pos 0)
  pub zero_left : (x y u v : ℕ) → kind f x ≡ finite u → kind f y ≡ finite (suc v) → magnitude f (o x y) ≡ 0 → minus f (o x y) ≡ minus f x
  pub zero_quotient : (x y u v n : ℕ) → kind f x ≡ finite u → kind f y ≡ finite (suc v) → NearestTo u (suc v) n → n % 2 ^ 31 ≡ 0 → q x y ≡ pos 0
