-- A round never overshoots, and squares the error. Assumes nothing.
use mathlib.Core.Path.{refl}
use Prim.Native.Nat.{ℕ, zero, suc, ◌+◌, ◌*◌, ◌≤◌, ◌<◌}
use native.Mathlib.Nat.{mul-le-mul}
use native.Mathlib.Omega.{arith}
use Rattle.algebra.proofs.Products.{cross, times_le, mul_le_cancel, mul_lt_cancel}
use Rattle.algebra.proofs.Roots.{sq_le, sq_lt}
use Rattle.sqrt_laws.specs.Near.{Near, NearBelow}
use Rattle.sqrt_laws.proofs.Cubes.{round_le, round_ge}
use Rattle.sqrt_laws.proofs.Roundoffs.{RoundedDown, Sides, sides, rest}

pub step : (Q m r s d u r' k k' : ℕ) → 50 ≤ Q → 0 < r → r ≤ 4 * Q → 0 < m → m ≤ 4 * Q → RoundedDown Q m r s d u → r' * (2 * Q) ≤ r * u → r * u < (r' + 1) * (2 * Q)
    → Near Q m r k → k' ≤ Q → 2 * (k * k) + 11 * Q ≤ 2 * (k' * Q) → NearBelow Q m r' k'
step Q m r s d u r' k k' p r0 hr m0 hm c l h n small' hk =
    let (w, e) = rest Q m r k n in
    let v : Sides Q m r u w = sides Q m r s d u w (omega arith) hr c e in
    let pos : 0 < 16 * (Q * (Q * Q)) = omega (arith, mul-le-mul p (mul-le-mul p p)) in
    let up : 2 * (16 * (Q * (Q * Q))) * r' < r * w = omega (arith, times_le (16 * (Q * Q)) l, cross r0 v.w_lo, times_le r v.w_lo) in
    let dn : r * w ≤ 2 * (16 * (Q * (Q * Q))) * (r' + 5) = omega (arith, times_le (16 * (Q * Q)) h, times_le r v.w_hi, times_le (16 * (Q * Q)) hr) in
    let b : m * (r' * r') < 16 * (Q * (Q * Q)) = round_le m r r' (16 * (Q * (Q * Q))) (m * (r * r)) w m0 pos refl e up in
    let mr : m * r' ≤ 8 * (Q * Q) = sq_le (m * r') (8 * (Q * Q)) (omega (arith, times_le m b, times_le (16 * (Q * (Q * Q))) hm)) in
    let g = round_ge m r (r' + 5) (16 * (Q * (Q * Q))) (m * (r * r)) w (k * (16 * (Q * Q))) pos refl e dn n.lo n.hi (omega (arith, times_le (16 * (Q * Q)) n.small)) in
    let lo' : 16 * (Q * (Q * Q)) ≤ m * (r' * r') + k' * (16 * (Q * Q)) = mul_le_cancel (16 * (Q * (Q * Q))) (m * (r' * r') + k' * (16 * (Q * Q))) (16 * (Q * (Q * Q))) pos
    (omega (arith, g, times_le (160 * (Q * (Q * Q))) mr, times_le (400 * (Q * (Q * Q))) hm, times_le (128 * (Q * (Q * (Q * Q)))) hk, times_le (Q * (Q * (Q * Q))) p)) in
    record { near = record { lo = lo'; hi = omega arith; small = small' }; below = b }

-- ---- from a half word to a word: the first rounds drop the low digit of m
pub widen : (q mh l r k : ℕ) → 1 ≤ k → r ≤ 4 * q → l < 4 * q → NearBelow q mh r k → Near (q * (4 * q)) (mh * (4 * q) + l) (r * (4 * q)) (k * (4 * q))
widen q mh l r k k1 hr hl n =
    let a = mul-le-mul hl (mul-le-mul hr hr) in
    record {
      lo = omega (arith, times_le (64 * (q * (q * q))) n.near.lo);
      hi = omega (arith, times_le (64 * (q * (q * q))) n.below, times_le (16 * (q * q)) a, times_le (1024 * (q * (q * (q * (q * q))))) k1);
      small = omega (arith, times_le (4 * q) n.near.small);
    }

-- r is a digit
pub digit : (Q m r k : ℕ) → Q ≤ m → NearBelow Q m r k → r < 4 * Q
digit Q m r k hm n = sq_lt r (4 * Q) (mul_lt_cancel (r * r) (4 * Q * (4 * Q)) Q (omega (arith, times_le (r * r) hm, n.below)))

pub positive : (Q m r k : ℕ) → k < Q → Near Q m r k → 0 < r
positive Q m zero k hk n = absurd (omega (arith, n.lo, times_le (16 * (Q * Q)) hk, mul-le-mul {n₁ = 1} {m₁ = 1} {n₂ = Q} {m₂ = Q} (omega arith) (omega arith)))
positive Q m (suc r) k hk n = omega arith
