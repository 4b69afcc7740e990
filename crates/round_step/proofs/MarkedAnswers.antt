-- The answers of marked values: of ratios by the mark of the numerator, of roots by their whole root. Assumes nothing.
use Prim.Native.Nat.{ℕ, zero, suc, ◌+◌, ◌-◌, ◌*◌, ◌^◌, ◌≤◌, ◌<◌}
use mathlib.Core.Path.{◌≡◌, refl, sym, ap, ◌∙◌}
use mathlib.Core.Bool.{Bool, false}
use native.Mathlib.Nat.{mul-le-mul}
use native.Mathlib.Omega.{arith}
use lib.Pow.{pow_pos}
use lib.IntN.{ℤ}
use Rattle.algebra.proofs.Products.{times, times_le, diff}
use Rattle.algebra.proofs.Roots.{Root}
use Rattle.algebra.proofs.Integers.{up, dn}
use Rattle.ieee.specs.Format.{Format}
use Rattle.ieee.specs.Pattern.{signed, with_sign}
use Rattle.ieee.specs.Exact.{dyadic, surd, ratio, root, magnified}
use Rattle.ieee.specs.Round.{Attribute, way_of, answer}
use Rattle.ieee.specs.Scalbn.{scaled}
use Rattle.ieee.proofs.Exacts.{answer_of, sign_given}
use Rattle.round_step.specs.Mark.{Marks, Marked}
use Rattle.round_step.proofs.Scaled.{answer_scaled}
use Rattle.round_step.proofs.Sticky.{sticky}

-- ---- v / d, where s marks v
pub ratio_marked : (v n d s : ℕ) → 0 < d → Marks v n s → Marked (magnified (ratio v d) d) n s
ratio_marked v n d s p m =
    record {
      exact = λ q. (omega (arith, times d (m.exact q)), omega (arith, times d (m.exact q)));
      more = λ q h. omega (arith, times_le d (m.more q), times d (diff {a = s} {b = 1} n (omega arith)));
      less = λ q h. omega (arith, times_le d (m.less q));
    }

-- the answer for v / 2 ^ b is that for its mark; z is the sign of a zero, t that of the value
pub sticky_answer : (f : Format) (g : Attribute) (z t : Bool) (v s a b : ℕ) (n : ℤ) → 0 < v → up n + b ≡ dn n + a
    → Marks v (2 ^ a) s → (b < a + 2 → 2 ^ (2 + f.frac) ≤ s) → answer f g z (dyadic (with_sign t v) b) ≡ answer f g t (scaled t s n)
sticky_answer f g z t v s a b n p e m h =
    answer_of f g z t v b (sign_given z t v b p)
    ∙ ap (signed f t) (sticky f (way_of g t) (ratio v (2 ^ b)) (pow_pos b) s a b n e (ratio_marked v (2 ^ a) (2 ^ b) s (pow_pos b) m) h)
    ∙ sym (answer_scaled f g t s n)

-- ---- the root of v, where v is k squares of the double step and t the whole root of k: 2 * t, plus a bit b that is set where a remainder is left
pub root_marked : (v n k t b : ℕ) → 0 < n → v ≡ k * (2 * n * (2 * n)) → Root k t
    → b ≤ 1 → (b ≡ 0 → t * t ≡ k) → (b ≡ 1 → t * t ≡ k → ⊥) → Marked (root v) n (2 * t + b)
root_marked v n k t zero p e r l z h =
    let w = times (n * n) (z refl) in
    record { exact = λ q. (omega (arith, e, w), omega (arith, e, w)); more = λ q u. omega arith; less = λ q o. omega arith }
root_marked v n k t (suc zero) p e r l z h =
    let some : t * t < k = omega (arith, r.low, h refl) in
    let pos : 1 * 1 ≤ n * n = mul-le-mul p p in
    let back : 2 * t + 1 - 1 ≡ 2 * t = omega arith in
    record {
      exact = λ q. absurd (omega arith);
      more = λ q u. let u' = rw back at u in omega (arith, e, u', times_le (n * n) some);
      less = λ q o. omega (arith, e, o, times_le (n * n) r.high);
    }
root_marked v n k t (suc (suc b)) p e r l z h = absurd (omega arith)

-- the answer for a root is that for its mark
pub sticky_root_answer : (f : Format) (g : Attribute) (z : Bool) (v s a b : ℕ) (n : ℤ) → 0 < v → up n + b ≡ dn n + a
    → Marked (magnified (root v) (2 ^ b)) (2 ^ a) s → (b < a + 2 → 2 ^ (2 + f.frac) ≤ s) → answer f g z (surd v) ≡ answer f g false (scaled false s n)
unfolding answer
sticky_root_answer f g z zero s a b n p e m h = absurd (omega arith)
sticky_root_answer f g z (suc v) s a b n p e m h = ap (signed f false) (sticky f (way_of g false) (root (suc v)) tt s a b n e m h) ∙ sym (answer_scaled f g false s n)
