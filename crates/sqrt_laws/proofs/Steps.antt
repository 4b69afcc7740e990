-- The steps as computed, by quotients: each is a truncated round, and each of its products fits in a word of two digits in base 4 Q. Assumes nothing.
use Prim.Native.Nat.{ℕ, ◌+◌, ◌*◌, ◌/◌, ◌≤◌, ◌<◌}
use native.Mathlib.Nat.{mul-le-mul}
use native.Mathlib.Omega.{arith}
use Rattle.algebra.proofs.Products.{mul_lt_cancel}
use Rattle.algebra.proofs.Quotients.{div_mod}
use Rattle.sqrt_laws.specs.Near.{Near, NearBelow}
use Rattle.sqrt_laws.specs.Round.{root_by, square_by, factor, next, last}
use Rattle.sqrt_laws.proofs.Roundoffs.{RoundedDown, room, twice}
use Rattle.sqrt_laws.proofs.Rounds.{step, positive}
use Rattle.sqrt_laws.proofs.Lasts as lasts
use Rattle.sqrt_laws.proofs.Lasts.{Ends}

down : (n d : ℕ) → 0 < d → n / d * d ≤ n
down n d p = omega (arith, div_mod n d p)

up : (n d : ℕ) → 0 < d → n < (n / d + 1) * d
up n d p = omega (arith, div_mod n d p)

pub digits : {a b d : ℕ} → a < d → b < d → a * b < d * d
digits {a} {b} {d} h l = omega (arith, mul-le-mul h l)

-- what makes a round safe
pub record Safe (Q m r : ℕ) : Type 0 where
  pub mr : m * r < 4 * Q * (4 * Q)
  pub s : root_by Q m r < 4 * Q
  pub sr : root_by Q m r * r < 4 * Q * (4 * Q)
  pub d : square_by Q m r + 2 ≤ 3 * Q
  pub u : factor Q m r < 4 * Q
  pub ru : r * factor Q m r < 4 * Q * (4 * Q)
  pub su : root_by Q m r * factor Q m r < 4 * Q * (4 * Q)

module _ (Q m r : ℕ) (big : 50 ≤ Q) (hm : m < 4 * Q) (hr : r < 4 * Q) where
  pub safe : m * (r * r) ≤ 2 * (16 * (Q * (Q * Q))) → Safe Q m r
  safe hx =
      let a = digits hm hr in
      let s : root_by Q m r < 4 * Q = mul_lt_cancel (root_by Q m r) (4 * Q) (4 * Q) (omega (arith, down (m * r) (4 * Q) (omega arith))) in
      let u : factor Q m r < 4 * Q = omega arith in
      record {
        mr = a;
        s = s;
        sr = digits s hr;
        d = room Q m r (root_by Q m r) (square_by Q m r) (omega arith) (down (m * r) (4 * Q) (omega arith)) (down (root_by Q m r * r) (4 * Q) (omega arith)) hx;
        u = u;
        ru = digits hr u;
        su = digits s u;
      }

  pub rounded_down_is : Safe Q m r → RoundedDown Q m r (root_by Q m r) (square_by Q m r) (factor Q m r)
  rounded_down_is f =
      record {
        s_lo = down (m * r) (4 * Q) (omega arith);
        s_hi = up (m * r) (4 * Q) (omega arith);
        d_lo = down (root_by Q m r * r) (4 * Q) (omega arith);
        d_hi = up (root_by Q m r * r) (4 * Q) (omega arith);
        u_is = omega (arith, f.d);
      }

  pub next_near : (k k' : ℕ) → Q ≤ m → k < Q → k' ≤ Q → Near Q m r k → 2 * (k * k) + 11 * Q ≤ 2 * (k' * Q) → NearBelow Q m (next Q m r) k'
  next_near k k' lm hk hk' n e =
      step Q m r (root_by Q m r) (square_by Q m r) (factor Q m r) (next Q m r) k k' big (positive Q m r k hk n) (omega arith) (omega arith) (omega arith)
      (rounded_down_is (safe (twice Q m r k n)))
      (down (r * factor Q m r) (2 * Q) (omega arith)) (up (r * factor Q m r) (2 * Q) (omega arith)) n hk' e

  pub last_near : (k c : ℕ) → Near Q m r k → k * k ≤ c * Q → Ends Q m (last Q m r) c
  last_near k c n e =
      lasts.last Q m r (root_by Q m r) (square_by Q m r) (factor Q m r) (last Q m r) k c (omega arith) (omega arith) hm
      (rounded_down_is (safe (twice Q m r k n)))
      (down (root_by Q m r * factor Q m r) (4 * Q) (omega arith)) (up (root_by Q m r * factor Q m r) (4 * Q) (omega arith)) n e
