-- What `omega` lacks for products: each lemma yields one fact whose monomials `omega` reads as unknowns, as in `omega (arith, cross h l)`.
-- Assumes nothing.
use mathlib.Core.Path.{◌≡◌, ap}
use Prim.Native.Nat.{ℕ, zero, suc, ◌+◌, ◌*◌, ◌-◌, ◌≤◌, ◌<◌}
use native.Mathlib.Nat.{mul-le-mul_right}
use native.Mathlib.Omega.{arith, by_contra, both_ways}

-- case analysis on an order: `order a b (λ h. ..) (λ h. ..)`
pub order : (a b : ℕ) {G : Type 0} → (a ≤ b → G) → (b < a → G) → G
order zero b f g = f (omega arith)
order (suc a) zero f g = g (omega arith)
order (suc a) (suc b) f g = order a b (λ h. f (omega arith)) (λ h. g (omega arith))

-- b as a plus a difference
pub le_split : {a b : ℕ} → a ≤ b → (d : ℕ) × (a + d ≡ b)
le_split {a} {b} h = (b - a, omega arith)

-- the product of two orders: 0 ≤ (b - a) * (d - c), multiplied out; at `<` the `suc` is multiplied out too
pub cross : {a b c d : ℕ} → a ≤ b → c ≤ d → a * d + b * c ≤ a * c + b * d
cross h l =
    let (x, p) = le_split h in
    let (y, q) = le_split l in
    rw (← p, ← q) (omega arith)

-- an equation or an order, times a factor
pub times : {a b : ℕ} (t : ℕ) → a ≡ b → a * t ≡ b * t
times t e = ap (λ u. u * t) e

pub times_le : {a b : ℕ} (t : ℕ) → a ≤ b → a * t ≤ b * t
times_le t h = mul-le-mul_right t h

-- a difference in a product, as a sum: (a - b) * t + b * t ≡ a * t
pub diff : {a b : ℕ} (t : ℕ) → b ≤ a → (a - b) * t + b * t ≡ a * t
diff {a} {b} t h = let e : a - b + b ≡ a = omega arith in omega (arith, times t e)

-- 0 ≤ (a - b)²
pub amgm : (a b : ℕ) → 2 * (a * b) ≤ a * a + b * b
amgm a b = order a b (λ h. omega (arith, cross h h)) (λ h. omega (arith, cross h h))

-- an order between products, divided out
pub mul_le_cancel : (a b t : ℕ) → 0 < t → a * t ≤ b * t → a ≤ b
mul_le_cancel a b t p h = by_contra a b (λ l. omega (arith, cross l p))

pub mul_lt_cancel : (a b t : ℕ) → a * t < b * t → a < b
mul_lt_cancel a b t h = by_contra (suc a) b (λ l. omega (arith, times_le t l))

pub mul_eq_cancel : (a b t : ℕ) → 0 < t → a * t ≡ b * t → a ≡ b
mul_eq_cancel a b t p e = both_ways a b (mul_le_cancel a b t p (omega arith)) (mul_le_cancel b a t p (omega arith))
