-- Squares, and the whole square root. Assumes nothing.
use mathlib.Core.Path.{◌≡◌}
use Prim.Native.Nat.{ℕ, zero, suc, ◌+◌, ◌*◌, ◌≤◌, ◌<◌}
use native.Mathlib.Nat.{mul-le-mul}
use native.Mathlib.Omega.{arith, by_contra, both_ways}
use Rattle.algebra.proofs.Products.{order, amgm}

pub sq_le : (a b : ℕ) → a * a ≤ b * b → a ≤ b
sq_le a b h = by_contra a b (λ l. omega (arith, mul-le-mul l l))

pub sq_lt : (a b : ℕ) → a * a < b * b → a < b
sq_lt a b h = by_contra (suc a) b (λ l. let l' : b ≤ a = omega arith in omega (arith, mul-le-mul l' l'))

-- the sum of a number at most √n and one below it is below twice √n
pub sum_below : (p q n : ℕ) → p * p ≤ n → q * q < n → (p + q) * (p + q) < 4 * n
sum_below p q n a b = omega (arith, amgm p q)

-- and of a number at least √n and one above it, above twice √n
pub sum_above : (p q n : ℕ) → n ≤ p * p → n < q * q → 4 * n < (p + q) * (p + q)
sum_above p q n a b = omega (arith, product)
  where
    product : n ≤ p * q
    product =
        order p q
        (λ l. let s : p ≤ p = omega arith in omega (arith, mul-le-mul s l))
        (λ l. let s : q ≤ q = omega arith in let t : q ≤ p = omega arith in omega (arith, mul-le-mul t s))

-- the whole square root of n: it exists and is unique
pub record Root (n r : ℕ) : Type 0 where
  pub low : r * r ≤ n
  pub high : n < (r + 1) * (r + 1)

pub root_exists : (n : ℕ) → (r : ℕ) × Root n r
root_exists zero = (0, omega arith)
root_exists (suc n) = next (root_exists n)
  where
    next : (r : ℕ) × Root n r → (r : ℕ) × Root (suc n) r
    next (r, p) = order ((r + 1) * (r + 1)) (suc n) (λ l. (r + 1, omega (arith, p))) (λ l. (r, omega (arith, p)))

pub root_unique : (n r s : ℕ) → Root n r → Root n s → r ≡ s
root_unique n r s p q = both_ways r s (le r s p q) (le s r q p)
  where
    le : (r s : ℕ) → Root n r → Root n s → r ≤ s
    le r s p q = by_contra r s (λ l. omega (arith, mul-le-mul l l))
