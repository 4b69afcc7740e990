-- What nextafter is held to (ISO C, 7.12.11.3; IEEE 754-2019, clause 5.3.1): the next number toward another, and the rows of NaNs. Assumes nothing.
use Rattle.std.specs.Prelude.{ℕ, ◌≤◌, ◌≡◌, ◌≤ℤ◌, ◌<ℤ◌}
use Rattle.ieee.specs.Format.{Format, inf, canonical}
use Rattle.ieee.specs.Pattern.{Pattern, minus, magnitude, nan, kind, value}

-- a number or an infinity, whose value is what the next number would be: so the values have the order of the numbers
pub record Ordered (f : Format) (x : ℕ) : Type 0 where
  pub pattern : Pattern f x
  pub not_nan : magnitude f x ≤ inf f

-- no number of the format, and no infinity, lies strictly between x and y
abbrev pub NoneBetween : Format → ℕ → ℕ → Type 0
NoneBetween f x y = (q : ℕ) → Ordered f q → value f x <ℤ value f q → value f q <ℤ value f y → ⊥

-- r is y where x equals y, and otherwise next to x on the side of y; stepping to a zero keeps the sign
pub record Next (f : Format) (x y r : ℕ) : Type 0 where
  pub ordered : Ordered f r
  pub same : value f x ≡ value f y → r ≡ y
  pub up : value f x <ℤ value f y → (value f x <ℤ value f r) × (value f r ≤ℤ value f y) × NoneBetween f x r
  pub down : value f y <ℤ value f x → (value f r <ℤ value f x) × (value f y ≤ℤ value f r) × NoneBetween f r x
  pub zero_sign : (value f x ≡ value f y → ⊥) → magnitude f r ≡ 0 → minus f r ≡ minus f x

-- ---- rows
pub record NextafterRows (f : Format) (o : ℕ → ℕ → ℕ) : Type 0 where
  pub nan_x : (x y : ℕ) → kind f x ≡ nan → o x y ≡ canonical f
  pub nan_y : (x y : ℕ) → kind f y ≡ nan → o x y ≡ canonical f
