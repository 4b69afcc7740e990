-- The cost of truncation in a round: two units, on 3 - m r². Assumes nothing.
use mathlib.Core.Path.{◌≡◌}
use Prim.Native.Nat.{ℕ, ◌+◌, ◌*◌, ◌≤◌, ◌<◌}
use native.Mathlib.Nat.{mul-le-mul}
use native.Mathlib.Omega.{arith}
use Rattle.algebra.proofs.Products.{le_split, times, times_le, mul_le_cancel}
use Rattle.sqrt_laws.specs.Near.{Near}

-- ---- the truncations: s = m r / B, d = s r / B, u = 3 Q - 2 - d, B = 4 Q
pub record RoundedDown (Q m r s d u : ℕ) : Type 0 where
  pub s_lo : s * (4 * Q) ≤ m * r
  pub s_hi : m * r < (s + 1) * (4 * Q)
  pub d_lo : d * (4 * Q) ≤ s * r
  pub d_hi : s * r < (d + 1) * (4 * Q)
  pub u_is : u + d + 2 ≡ 3 * Q

pub record Sides (Q m r u w : ℕ) : Type 0 where
  pub w_is : w + m * (r * r) ≡ 3 * (16 * (Q * (Q * Q)))
  pub w_lo : u * (16 * (Q * Q)) < w
  pub w_hi : w ≤ (u + 2) * (16 * (Q * Q))

pub sides : (Q m r s d u w : ℕ) → 0 < Q → r ≤ 4 * Q → RoundedDown Q m r s d u → w + m * (r * r) ≡ 3 * (16 * (Q * (Q * Q))) → Sides Q m r u w
sides Q m r s d u w p hr c e =
    let a : d * (16 * (Q * Q)) ≤ m * (r * r) = omega (arith, times_le r c.s_lo, times_le (4 * Q) c.d_lo) in
    let b : m * (r * r) < (d + 2) * (16 * (Q * Q)) = omega (arith, times_le r c.s_hi, times_le (4 * Q) c.d_hi, times_le (4 * Q) hr) in
    let i : u * (16 * (Q * Q)) + (d + 2) * (16 * (Q * Q)) ≡ 3 * (16 * (Q * (Q * Q))) = omega (arith, times (16 * (Q * Q)) c.u_is) in
    record { w_is = e; w_lo = omega arith; w_hi = omega arith }

pub rest : (Q m r k : ℕ) → Near Q m r k → (w : ℕ) × (w + m * (r * r) ≡ 3 * (16 * (Q * (Q * Q))))
rest Q m r k n =
    let (w, e) = le_split {a = m * (r * r)} {b = 3 * (16 * (Q * (Q * Q)))} (omega (arith, n.hi, times_le (16 * (Q * Q)) n.small)) in
    (w, omega arith)

-- u is not negative
pub twice : (Q m r k : ℕ) → Near Q m r k → m * (r * r) ≤ 2 * (16 * (Q * (Q * Q)))
twice Q m r k n = omega (arith, n.hi, times_le (16 * (Q * Q)) n.small)

pub room : (Q m r s d : ℕ) → 2 ≤ Q → s * (4 * Q) ≤ m * r → d * (4 * Q) ≤ s * r → m * (r * r) ≤ 2 * (16 * (Q * (Q * Q))) → d + 2 ≤ 3 * Q
room Q m r s d p a b n =
    let c : d ≤ 2 * Q = mul_le_cancel d (2 * Q) (16 * (Q * Q)) (omega (arith, mul-le-mul p p)) (omega (arith, times_le r a, times_le (4 * Q) b)) in
    omega arith
