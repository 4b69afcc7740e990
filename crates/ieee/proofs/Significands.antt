-- The significand of a number, normalised: every number of the format has one. Assumes nothing.
use Prim.Native.Nat.{ℕ, zero, suc, ◌+◌, ◌-◌, ◌*◌, ◌/◌, ◌%◌, ◌^◌, ◌≤◌, ◌<◌}
use mathlib.Core.Path.{◌≡◌, sym, ap, ◌∙◌, subst}
use native.Mathlib.Nat.{two-pow-succ, mod-lt}
use native.Mathlib.Omega.{arith}
use lib.Pow.{pow-add, pow_pos}
use Rattle.algebra.proofs.Products.{times, times_le, mul_le_cancel, mul_lt_cancel}
use Rattle.algebra.proofs.Powers.{pow_diff, pow_inj_lt}
use Rattle.ieee.specs.Format.{Format, units, fields}
use Rattle.ieee.proofs.Units.{units_is}
use Rattle.ieee.proofs.Leads.{Leading, leading_only}

-- the leading bit of s is bit frac, and that of u bit k
pub record Significand (f : Format) (u s k : ℕ) : Type 0 where
  pub least : 2 ^ f.frac ≤ s
  pub most : s < 2 * 2 ^ f.frac
  pub counts : s * 2 ^ k ≡ u * 2 ^ f.frac

module _ (f : Format) where
  abbrev p : ℕ
  p = f.frac

  pub significand_leading : (u s k : ℕ) → Significand f u s k → Leading u k
  significand_leading u s k h =
      record {
        least = mul_le_cancel (2 ^ k) u (2 ^ p) (pow_pos p) (omega (arith, h.counts, times_le (2 ^ k) h.least));
        most = mul_lt_cancel u (2 ^ suc k) (2 ^ p) (omega (arith, h.counts, times (2 ^ p) (two-pow-succ k), times_le (2 ^ k) h.most, pow_pos k));
      }

  leading_significand : (u s k : ℕ) → Leading u k → s * 2 ^ k ≡ u * 2 ^ p → Significand f u s k
  leading_significand u s k h e =
      record {
        least = mul_le_cancel (2 ^ p) s (2 ^ k) (pow_pos k) (omega (arith, times_le (2 ^ p) h.least));
        most = mul_lt_cancel s (2 * 2 ^ p) (2 ^ k) (omega (arith, times (2 ^ p) (two-pow-succ k), times_le (2 ^ p) h.most, pow_pos p));
        counts = e;
      }

  -- every number has one
  fields_significand : (q t k : ℕ) → t < 2 ^ p → Leading (fields (2 ^ p) q t) k → (s : ℕ) × (s * 2 ^ k ≡ fields (2 ^ p) q t * 2 ^ p)
  fields_significand zero t k l h =
      let b = pow_inj_lt k p (omega arith) in
      (t * 2 ^ (p - k), omega (arith, times t (pow_diff {a = p} {b = k} (omega arith))))
  fields_significand (suc e) t k l h =
      let a = pow-add 2 p e in
      let s = leading_only ((2 ^ p + t) * 2 ^ e) k (p + e) h (record { least = omega arith; most = omega (arith, two-pow-succ (p + e), times_le (2 ^ e) l, pow_pos e) }) in
      (2 ^ p + t, ap (λ i. (2 ^ p + t) * 2 ^ i) s ∙ omega (arith, times (2 ^ p + t) a))

  pub significand_of_lem : (m k : ℕ) → Leading (units f m) k → (s : ℕ) × Significand f (units f m) s k
  significand_of_lem m k h =
      let e = units_is f m in
      let (s, c) = fields_significand (m / 2 ^ p) (m % 2 ^ p) k (mod-lt m (pow_pos p)) (subst (λ u. Leading u k) e h) in
      (s, leading_significand (units f m) s k h (c ∙ times (2 ^ p) (sym e)))
