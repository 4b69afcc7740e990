-- The state of a reducer, over words of w bits: R is 2 ^ w, n the divisor, x the remainder so far. Assumes nothing.
use Rattle.std.specs.Prelude.{ℕ, ◌+◌, ◌-◌, ◌*◌, ◌/◌, ◌%◌, ◌^◌, ◌<◌, ◌≡◌}

-- R R / 2
unfoldable pub half : ℕ → ℕ
half w = 2 ^ (2 * w - 1)

-- the words m and r and the two-word number t hold x for the divisor n: with q and r of R R / 2 = q m + r, t is 2 x q
pub record Holds (w n x m r t : ℕ) : Type 0 where
  pub above : 2 ^ (w - 3) < n
  pub below : n < 2 ^ (w - 2)
  pub small : x < 2 * n
  pub twice : m ≡ 2 * n
  pub rest : r ≡ half w % m
  pub product : t ≡ 2 * x * (half w / m)

-- the remainder that they hold
abbrev pub held_of : ℕ → ℕ → ℕ → ℕ
held_of w m t = t / (2 * (half w / m))

abbrev pub Reduces : ℕ → ℕ → ℕ → ℕ → Type 0
Reduces w m r t = Holds w (m / 2) (held_of w m t) m r t

-- a step by 2 ^ k with the quotient a: what was held, times 2 ^ k, is a n plus what is held then
pub record Stepped (w k m r t a m' r' t' : ℕ) : Type 0 where
  pub quotient : a ≡ t * 2 ^ k / half w
  pub parts : held_of w m t * 2 ^ k ≡ a * (m / 2) + held_of w m' t'
  pub holds : Holds w (m / 2) (held_of w m' t') m' r' t'

-- x times 2 ^ i is a multiple of n, plus h
pub record Left (n x i h : ℕ) : Type 0 where
  pub quotient : ℕ
  pub parts : x * 2 ^ i ≡ quotient * n + h

-- y is a power of two
pub record Power (y : ℕ) : Type 0 where
  pub exponent : ℕ
  pub is : y ≡ 2 ^ exponent
