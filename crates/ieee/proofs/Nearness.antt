-- Comparing with the sum of two numbers is comparing the distances to them, for ratios and for roots. Assumes nothing.
use Prim.Native.Nat.{ℕ, suc, ◌+◌, ◌-◌, ◌*◌, ◌≤◌, ◌<◌}
use mathlib.Core.Path.{subst}
use mathlib.Core.Logic.{◌↔◌}
use native.Mathlib.Nat.{mul-le-mul}
use native.Mathlib.Omega.{arith, both_ways, by_contra}
use lib.IntN.{pos}
use Rattle.algebra.proofs.Products.{order, cross, times, times_le}
use Rattle.algebra.proofs.Roots.{sq_le, sq_lt, sum_below, sum_above, Root, root_exists}
use Rattle.ieee.specs.Exact.{Exact, ratio, root, Over, Under}
use Rattle.ieee.specs.Rule.{Within, AsNear}
use Rattle.ieee.proofs.Sides.{Sound}

-- ---- for a root: from the sum to the distances
within_lower : (n u v a b : ℕ) → u < v → 4 * n ≤ (u + v) * (u + v) → Within n (pos v) a b → Within n (pos u) a b
within_lower n u v a b l h w = (omega (arith, mul-le-mul less less), by_contra (n * (b * b)) ((u * b + a) * (u * b + a)) high)
  where
    less : u * b - a ≤ v * b - a
    less = omega (arith, times_le b l)

    high : (u * b + a) * (u * b + a) < n * (b * b) → ⊥
    high k =
        let s = sum_below (v * b - a) (u * b + a) (n * (b * b)) w.0 k in
        let t : (u + v) * b ≤ v * b - a + (u * b + a) = omega arith in
        omega (arith, s, mul-le-mul t t, times_le (b * b) h)

within_higher : (n u v a b : ℕ) → v < u → (u + v) * (u + v) ≤ 4 * n → Within n (pos v) a b → Within n (pos u) a b
within_higher n u v a b l h w = (by_contra ((u * b - a) * (u * b - a)) (n * (b * b)) low, omega (arith, mul-le-mul more more))
  where
    more : v * b + a ≤ u * b + a
    more = omega (arith, times_le b l)

    low : n * (b * b) < (u * b - a) * (u * b - a) → ⊥
    low k =
        let s = sum_above (v * b + a) (u * b - a) (n * (b * b)) w.1 k in
        let t : v * b + a + (u * b - a) ≤ (u + v) * b = omega (arith, sq_lt 0 (u * b - a) (omega arith)) in
        omega (arith, s, mul-le-mul t t, times_le (b * b) h)

-- ---- from the distances to the sum: a bound on one distance that the other exceeds, half the gap or, where the root lies beyond v, up to its whole part
lower_within : (n u v : ℕ) → u < v → ((a b : ℕ) → 0 < b → Within n (pos v) a b → Within n (pos u) a b) → 4 * n ≤ (u + v) * (u + v)
lower_within n u v l near = by_contra (4 * n) ((u + v) * (u + v)) (λ h. order (n * (2 * 2)) ((v * 2 + (v - u)) * (v * 2 + (v - u))) (inside h) (beyond (root_exists (4 * n)) h))
  where
    inside : (u + v) * (u + v) < 4 * n → n * (2 * 2) ≤ (v * 2 + (v - u)) * (v * 2 + (v - u)) → ⊥
    inside h k =
        let e : v * 2 - (v - u) ≤ u + v = omega arith in
        let t : u * 2 + (v - u) ≤ u + v = omega arith in
        omega (arith, (near (v - u) 2 (omega arith) (omega (arith, mul-le-mul e e), k)).1, mul-le-mul t t)

    beyond : (r : ℕ) × Root (4 * n) r → (u + v) * (u + v) < 4 * n → (v * 2 + (v - u)) * (v * 2 + (v - u)) < n * (2 * 2) → ⊥
    beyond (r, p) h k =
        let past : v * 2 + (v - u) < r + 1 = sq_lt (v * 2 + (v - u)) (r + 1) (omega (arith, p.high)) in
        let a : ℕ = r + 1 - v * 2 in
        let low : v * 2 - a ≤ r = omega arith in
        let top : r + 1 ≤ v * 2 + a = omega arith in
        let w = near a 2 (omega arith) (omega (arith, mul-le-mul low low, p.low), omega (arith, mul-le-mul top top, p.high)) in
        omega (arith, sq_le r (u * 2 + a) (omega (arith, w.1, p.low)))

higher_within : (n u v : ℕ) → v < u → ((a b : ℕ) → 0 < b → Within n (pos v) a b → Within n (pos u) a b) → (u + v) * (u + v) ≤ 4 * n
higher_within n u v l near = by_contra ((u + v) * (u + v)) (4 * n) (λ h. order ((v * 2 - (u - v)) * (v * 2 - (u - v))) (n * (2 * 2)) (inside h) (beyond (root_exists (4 * n)) h))
  where
    inside : 4 * n < (u + v) * (u + v) → (v * 2 - (u - v)) * (v * 2 - (u - v)) ≤ n * (2 * 2) → ⊥
    inside h k =
        let e : u + v ≤ v * 2 + (u - v) = omega arith in
        let t : u + v ≤ u * 2 - (u - v) = omega arith in
        omega (arith, (near (u - v) 2 (omega arith) (k, omega (arith, mul-le-mul e e))).0, mul-le-mul t t)

    beyond : (r : ℕ) × Root (4 * n) r → 4 * n < (u + v) * (u + v) → n * (2 * 2) < (v * 2 - (u - v)) * (v * 2 - (u - v)) → ⊥
    beyond (r, p) h k =
        let past : r < v * 2 - (u - v) = sq_lt r (v * 2 - (u - v)) (omega (arith, p.low)) in
        let a : ℕ = v * 2 - r in
        let low : v * 2 - a ≤ r = omega arith in
        let top : r + 1 ≤ v * 2 + a = omega arith in
        let w = near a 2 (omega arith) (omega (arith, mul-le-mul low low, p.low), omega (arith, mul-le-mul top top, p.high)) in
        omega (arith, sq_lt (u * 2 - a) (r + 1) (omega (arith, w.0, p.high)))

-- ---- for both
-- u is at least as near to x as v, by their sum
pub record BySum (x : Exact) (u v : ℕ) : Type 0 where
  pub below : u < v → Under x (u + v)
  pub above : v < u → Over x (u + v)

near_sum : (x : Exact) → Sound x → (u v : ℕ) → AsNear x u v → BySum x u v
near_sum (ratio n d) p u v a = record { below = λ h. omega (arith, cross h p); above = λ h. omega (arith, cross h p) }
near_sum (root n) p u v a = record { below = λ h. lower_within n u v h a; above = λ h. higher_within n u v h a }

sum_near : (x : Exact) (u v : ℕ) → BySum x u v → AsNear x u v
sum_near (ratio n d) u v s =
    order (suc u) v
    (λ h. let k = s.below h in omega (arith, times_le d h))
    (λ h. order (suc v) u (λ l. let k = s.above l in omega (arith, times_le d l)) (λ l. omega (arith, times d (both_ways u v (omega arith) (omega arith)))))
sum_near (root n) u v s = λ a b p w.
    order (suc u) v
    (λ h. within_lower n u v a b h (s.below h) w)
    (λ h. order (suc v) u (λ l. within_higher n u v a b l (s.above l) w) (λ l. subst (λ k. Within n (pos k) a b) (both_ways v u (omega arith) (omega arith)) w))

pub near_by_sum : (x : Exact) → Sound x → (u v : ℕ) → AsNear x u v ↔ BySum x u v
near_by_sum x p u v = (near_sum x p u v, sum_near x u v)
