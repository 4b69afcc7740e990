-- The digits of a number, as few as possible, with its sign before them. Assumes nothing.
use Rattle.std.specs.Prelude.{ℕ, suc, ◌-◌, ◌^◌, ◌≤◌, ◌<◌, List, ◌∷◌, ℤ, pos, negsuc}
use Rattle.text_numbers.specs.Digits.{digits_of}

-- k is the fewest decimal digits that hold n; zero takes one
pub record Fewest (n k : ℕ) : Type 0 where
  pub some : 1 ≤ k
  pub hold : n < 10 ^ k
  pub all : 1 < k → 10 ^ (k - 1) ≤ n

-- a number with its sign: a minus before the digits of a negative number
abbrev pub signed_digits : ℤ → ℕ → List ℕ
signed_digits (pos n) k = digits_of 10 k n
signed_digits (negsuc n) k = 45 ∷ digits_of 10 k (suc n)
