-- The last step gives the root within a few units; truncated to a whole number, it is the root or one less. Assumes nothing.
use mathlib.Core.Path.{◌≡◌, refl}
use Prim.Native.Nat.{ℕ, ◌+◌, ◌*◌, ◌≤◌, ◌<◌}
use native.Mathlib.Nat.{mul-le-mul}
use native.Mathlib.Omega.{arith, by_contra}
use Rattle.algebra.proofs.Products.{le_split, times_le, mul_le_cancel, mul_lt_cancel}
use Rattle.sqrt_laws.specs.Near.{Near, Almost, Within}
use Rattle.sqrt_laws.proofs.Cubes.{final_le, final_ge}
use Rattle.sqrt_laws.proofs.Roundoffs.{RoundedDown, Sides, sides, rest}

-- ---- the last step: Y = s u / B is the root within 4 and c m
pub record Ends (Q m Y c : ℕ) : Type 0 where
  pub lo : 4 * (Y * Y) ≤ m * Q
  pub hi : m * Q ≤ 4 * ((Y + 4) * (Y + 4)) + c * m

pub last : (Q m r s d u Y k c : ℕ) → 0 < Q → r ≤ 4 * Q → m < 4 * Q → RoundedDown Q m r s d u → Y * (4 * Q) ≤ s * u → s * u < (Y + 1) * (4 * Q)
    → Near Q m r k → k * k ≤ c * Q → Ends Q m Y c
last Q m r s d u Y k c p hr hm t l h n hk =
    let (w, e) = rest Q m r k n in
    let v : Sides Q m r u w = sides Q m r s d u w p hr t e in
    let s4 : s < 4 * Q = mul_lt_cancel s (4 * Q) (4 * Q) (omega (arith, t.s_lo, times_le m hr, times_le (4 * Q) hm)) in
    let b : 2 * s + u + 2 ≤ 12 * Q = omega (arith, t.u_is) in
    let up : 256 * (Q * (Q * (Q * Q))) * Y ≤ m * r * w = omega (arith, times_le (64 * (Q * (Q * Q))) l, mul-le-mul t.s_lo v.w_lo) in
    let dn : m * r * w ≤ 256 * (Q * (Q * (Q * Q))) * (Y + 4)
    = omega (arith, times_le (64 * (Q * (Q * Q))) h, mul-le-mul t.s_hi v.w_hi, times_le (64 * (Q * (Q * Q))) b) in
    let q2 : 0 < Q * Q = omega (arith, mul-le-mul p p) in
    let q4 : 0 < Q * Q * (Q * Q) = omega (arith, mul-le-mul q2 q2) in
    let q8 : 0 < 16384 * (Q * Q * (Q * Q) * (Q * Q * (Q * Q))) = omega (arith, mul-le-mul q4 q4) in
    record {
      lo = mul_le_cancel (4 * (Y * Y)) (m * Q) (16384 * (Q * Q * (Q * Q) * (Q * Q * (Q * Q)))) q8
          (omega (arith, final_le m r Y (256 * (Q * (Q * (Q * Q)))) (16 * (Q * (Q * Q))) (m * (r * r)) w refl e up));
      hi = mul_le_cancel (m * Q) (4 * ((Y + 4) * (Y + 4)) + c * m) (16384 * (Q * Q * (Q * Q) * (Q * Q * (Q * Q)))) q8
          (omega (
            arith,
            final_ge m r (Y + 4) (256 * (Q * (Q * (Q * Q)))) (16 * (Q * (Q * Q))) (m * (r * r)) w (k * (16 * (Q * Q))) refl e dn n.lo n.hi (omega (arith, times_le (16 * (Q * Q)) n.small)),
            times_le (16384 * (m * (Q * (Q * Q) * (Q * Q * (Q * Q))))) hk,
          ));
    }

-- ---- the root of m Q / 4 is not far above Y: c m is at most 4 c (Y + c + 4)
pub reach : (Q m Y c H : ℕ) → m ≤ 4 * Q → c + 10 ≤ 2 * H → c * c ≤ Y → Ends Q m Y c → m * Q < 4 * ((Y + H + 1) * (Y + H + 1))
reach Q m Y c H hm hc hY n =
    let b : m ≤ 4 * (Y + 4) + 4 * c
    = by_contra m (4 * (Y + 4) + 4 * c) (λ l. let l' : 4 * (Y + 4) ≤ m = omega arith in omega (arith, n.hi, times_le m hm, times_le m l, times_le (4 * (Y + 4)) l')) in
    let (g, e) = le_split {a = 3} {b = H} (omega arith) in
    let f : c + 4 ≤ 2 * g = omega arith in
    let i : Y + H + 1 ≡ Y + 4 + g = omega arith in
    rw i (omega (arith, n.hi, times_le c b, times_le (4 * (Y + 4)) f))

-- truncated to a multiple of H, it is the root or one less
pub almost : (H Y q M : ℕ) → 0 < H → q * H ≤ Y → Y < (q + 1) * H → 4 * (Y * Y) ≤ 4 * (H * H * M) → 4 * (H * H * M) < 4 * ((Y + H + 1) * (Y + H + 1)) → Almost M q
almost H Y q M p l h a b =
    let t : Y + H + 1 ≤ (q + 2) * H = omega arith in
    record {
      lo = mul_le_cancel (q * q) M (H * H) (omega (arith, mul-le-mul p p)) (omega (arith, mul-le-mul l l));
      hi = mul_lt_cancel M ((q + 2) * (q + 2)) (H * H) (omega (arith, mul-le-mul t t));
    }

-- without its last bit, it is less than 3/2 below the root of a quarter
pub within : (n r q : ℕ) → 2 * q ≤ r → r ≤ 2 * q + 1 → r * r ≤ 4 * n → 4 * n < (r + 2) * (r + 2) → Within n q
within n r q l h a b =
    let t : r + 2 ≤ 2 * q + 3 = omega arith in
    record { lo = omega (arith, mul-le-mul l l); hi = omega (arith, mul-le-mul t t) }
