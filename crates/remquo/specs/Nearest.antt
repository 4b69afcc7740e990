-- Which of two multiples is nearest, by the remainder of a division; and what a division to the nearest gives. Assumes nothing.
use Rattle.std.specs.Prelude.{ℕ, ℤ, ◌≡◌, ◌+◌, ◌-◌, ◌*◌, ◌%◌, Bool, cond, ◌&&◌, ◌||◌, ◌==◌, nat_lt}
use Rattle.ieee.specs.Format.{Format}
use Rattle.ieee.specs.Pattern.{Pattern}
use Rattle.ieee.specs.Remquo.{remquo_of, quotient_of}

-- the remainder r is past the middle of the divisor d, or at it where the quotient q is odd
abbrev pub goes_up : ℕ → ℕ → ℕ → Bool
goes_up r d q = nat_lt d (2 * r) || (2 * r == d && q % 2 == 1)

-- the number of the nearest multiple, and its distance
abbrev pub counted : ℕ → ℕ → ℕ → ℕ
counted r d q = q + cond (goes_up r d q) 1 0

abbrev pub left_over : ℕ → ℕ → ℕ → ℕ
left_over r d q = cond (goes_up r d q) (d - r) r

-- v and q are the remainder of x by y and the quotient
pub record Divides (f : Format) (x y v : ℕ) (q : ℤ) : Type 0 where
  pub value : v ≡ remquo_of f x y
  pub quotient : q ≡ quotient_of f x y
  pub pattern : Pattern f v
