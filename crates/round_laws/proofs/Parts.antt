-- The four locations of a remainder. Assumes nothing.
use Prim.Native.Nat.{ℕ, ◌*◌, ◌/◌, ◌%◌, ◌^◌, ◌≤◌, ◌<◌}
use mathlib.Core.Path.{◌≡◌, ap, ◌∙◌}
use mathlib.Core.Bool.{Bool, true, false, cond}
use native.Mathlib.Omega.{arith}
use lib.Dec.{leb, eqb}
use borrow.Author.Tests.{eq-eqb, ne_eqb, le-leb, lt-leb}
use Rattle.algebra.proofs.Quotients.{div_is}
use Rattle.round_laws.specs.Location.{part, high_part}

-- a location, by the outcomes of its three tests
pub tells : {p q r p' q' r' : Bool} → p ≡ p' → q ≡ q' → r ≡ r' → ◌≡◌ {A = ℕ} (cond p 0 (cond q (cond r 2 3) 1)) (cond p' 0 (cond q' (cond r' 2 3) 1))
tells a b c = λ i. cond (a i) 0 (cond (b i) (cond (c i) 2 3) 1)

pub part_at : (r d : ℕ) → r ≡ 0 → part r d ≡ 0
part_at r d e = ap (λ t. cond t 0 (cond (leb d (2 * r)) (cond (leb (2 * r) d) 2 3) 1)) (eq-eqb r 0 e)

pub part_before : (r d : ℕ) → 0 < r → 2 * r < d → part r d ≡ 1
part_before r d p h = tells (ne_eqb r 0 (λ e. omega arith)) (lt-leb d (2 * r) h) (le-leb (2 * r) d (omega arith))

pub part_middle : (r d : ℕ) → 0 < r → 2 * r ≡ d → part r d ≡ 2
part_middle r d p h = tells (ne_eqb r 0 (λ e. omega arith)) (le-leb d (2 * r) (omega arith)) (le-leb (2 * r) d (omega arith))

pub part_beyond : (r d : ℕ) → d < 2 * r → part r d ≡ 3
part_beyond r d h = tells (ne_eqb r 0 (λ e. omega arith)) (le-leb d (2 * r) (omega arith)) (lt-leb (2 * r) d h)

-- a number below half of d has quotient 0 and lies before the middle
pub all_gone : (s k : ℕ) → 0 < s → 2 * s < 2 ^ k → (s / 2 ^ k ≡ 0) × (part (s % 2 ^ k) (2 ^ k) ≡ 1) × (high_part (s % 2 ^ k) (2 ^ k) ≡ false)
all_gone s k p h =
    let (q, r) = div_is s (2 ^ k) 0 s (omega arith) (omega arith) in
    (q, ap (λ n. part n (2 ^ k)) r ∙ part_before s (2 ^ k) p h, ap (λ n. high_part n (2 ^ k)) r ∙ lt-leb (3 * 2 ^ k) (4 * s) (omega arith))

-- a location is at most 3
pub location_most : (a b c : Bool) → cond a 0 (cond b (cond c 2 3) 1) ≤ 3
location_most true b c = omega arith
location_most false true true = omega arith
location_most false true false = omega arith
location_most false false c = omega arith

pub part_le : (r d : ℕ) → part r d ≤ 3
part_le r d = location_most (eqb r 0) (leb d (2 * r)) (leb (2 * r) d)
