-- A number shifted left by its leading zeros fills its word. Assumes nothing.
use Prim.Native.Nat.{ℕ, suc, ◌*◌, ◌^◌, ◌≤◌, ◌<◌}
use mathlib.Core.Path.{◌≡◌, sym, ap, ◌∙◌}
use native.Mathlib.Nat.{two-pow-succ}
use native.Mathlib.Omega.{arith}
use lib.Pow.{pow-add, pow_pos}
use lib.Count.{count_leading_zeros, leading_top}
use Rattle.algebra.proofs.Products.{times, times_le}

-- a < 2 ^ w shifted left by z, its leading zeros: the top bit is set, and no bit is lost
pub record Fills (w a z : ℕ) : Type 0 where
  pub fewer : z < w
  pub least : 2 ^ w ≤ 2 * (a * 2 ^ z)
  pub most : a * 2 ^ z < 2 ^ w

pub leading_fills : (w a : ℕ) → 0 < a → a < 2 ^ w → Fills w a (count_leading_zeros w a)
leading_fills w a p l =
    let (j, e, h, k) = leading_top w a p l in
    let z = count_leading_zeros w a in
    let s : 2 ^ w ≡ 2 ^ z * 2 ^ suc j = ap (λ n. 2 ^ n) (sym e) ∙ pow-add 2 z (suc j) in
    record {
      fewer = omega arith;
      least = omega (arith, s, times (2 ^ z) (two-pow-succ j), times_le (2 ^ z) h);
      most = omega (arith, s, times_le (2 ^ z) k, pow_pos z);
    }
