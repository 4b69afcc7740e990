-- The signed sum of U, which is p times 2 ^ A, and W, which is q times 2 ^ B, in steps of 2 ^ -c: its count gives its sign, its rounding and its flags. Assumes nothing.
use Prim.Native.Nat.{ℕ, ◌+◌, ◌*◌, ◌^◌, ◌≤◌, ◌<◌}
use mathlib.Core.Path.{◌≡◌, sym, ◌∙◌, subst}
use mathlib.Core.Bool.{Bool}
use native.Mathlib.Omega.{arith}
use lib.Pow.{pow-add, pow_pos, pow_mono}
use lib.IntN.{ℤ}
use Rattle.algebra.proofs.Products.{mul_lt_cancel, mul_eq_cancel}
use Rattle.algebra.proofs.Integers.{up, dn}
use Rattle.ieee.specs.Format.{Format, Fair}
use Rattle.ieee.specs.Pattern.{unlike, with_sign}
use Rattle.ieee.specs.Exact.{dyadic}
use Rattle.ieee.specs.Round.{Attribute}
use Rattle.ieee.specs.Scalbn.{scaled}
use Rattle.round_step.specs.Mark.{Marks}
use Rattle.round_step.specs.Outcome.{outcome}
use Rattle.round_step.proofs.Outcomes.{sticky_outcome}
use Rattle.fma_laws.specs.Aligned.{product_at, third_at, down_by, joined, joined_sign}
use Rattle.fma_laws.proofs.Alignment.{Level, aligned, Sized, kept}
use Rattle.fma_laws.proofs.Sums.{joined_times, sign_times, joined_marks, marks_some, marks_none, joined_sign_lem}
use Rattle.fma_laws.proofs.Forms.{finer_outcome, counted_outcome}

pub record Terms (h p q A B U W c : ℕ) (d : ℤ) : Type 0 where
  pub sizes : Sized h p q
  pub first : U * 2 ^ c ≡ p * 2 ^ A
  pub second : W * 2 ^ c ≡ q * 2 ^ B
  pub above : up d + A ≡ dn d + B

module _ {h p q A B U W c : ℕ} {d : ℤ} (l : ℕ) (t : Terms h p q A B U W c d) where
  level : Level (p * 2 ^ A) (q * 2 ^ B) (2 ^ (A + down_by l d)) (product_at l p d) (third_at l q d)
  level = aligned l p q A B d t.sizes.even_p t.sizes.even_q t.above

  grown : (u : Bool) → joined u U W * 2 ^ c ≡ joined u (p * 2 ^ A) (q * 2 ^ B)
  grown u = sym (joined_times u U W (2 ^ c)) ∙ (λ i. joined u (t.first i) (t.second i))

  counts : (u : Bool) → Marks (joined u U W * 2 ^ c) (2 ^ (A + down_by l d)) (joined u (product_at l p d) (third_at l q d))
  counts u = subst (λ v. Marks v (2 ^ (A + down_by l d)) (joined u (product_at l p d) (third_at l q d))) (sym (grown u)) (joined_marks u level)

  pub sum_none : (u : Bool) → joined u (product_at l p d) (third_at l q d) ≡ 0 → joined u U W ≡ 0
  sum_none u e =
      let m : Marks (joined u U W * 2 ^ c) (2 ^ (A + down_by l d)) 0 = subst (Marks (joined u U W * 2 ^ c) (2 ^ (A + down_by l d))) e (counts u) in
      mul_eq_cancel (joined u U W) 0 (2 ^ c) (pow_pos c) (omega (arith, marks_none m))

  pub sum_some : (u : Bool) → 0 < joined u (product_at l p d) (third_at l q d) → 0 < joined u U W
  sum_some u r = mul_lt_cancel 0 (joined u U W) (2 ^ c) (omega (arith, marks_some (counts u) (pow_pos (A + down_by l d)) r))

  pub sum_sign_lem : (s r : Bool) → 0 < joined (unlike s r) (product_at l p d) (third_at l q d) → joined_sign s r U W ≡ joined_sign s r (product_at l p d) (third_at l q d)
  sum_sign_lem s r some =
      sym (sign_times s r U W (2 ^ c) (pow_pos c)) ∙ (λ i. joined_sign s r (t.first i) (t.second i)) ∙ joined_sign_lem s r level (pow_pos (A + down_by l d)) some

-- b is the exponent of the smallest unit; the step is 2 ^ n of them
pub sum_outcome : (f : Format) → Fair f → (g : Attribute) {p q A B U W c : ℕ} {d : ℤ} (l b : ℕ) (n : ℤ) → 2 ≤ f.frac → 2 + f.frac ≤ l
    → Terms (2 ^ f.frac) p q A B U W c d → up n + (b + c) ≡ dn n + (A + down_by l d)
    → (u z s : Bool) → 0 < joined u (product_at l p d) (third_at l q d)
    → outcome f g z (dyadic (with_sign s (joined u U W)) b) ≡ outcome f g s (scaled s (joined u (product_at l p d) (third_at l q d)) n)
sum_outcome f i g {p} {q} {A} {B} {U} {W} {c} {d} l b n two room t e u z s some =
    finer_outcome f i g z s (joined u U W) b c (sum_some l t u some)
    ∙ kept l (2 ^ f.frac) p q t.sizes four wide d A B t.above whole long
  where
    a : ℕ
    a = A + down_by l d

    R : ℕ
    R = joined u (product_at l p d) (third_at l q d)

    four : 4 ≤ 2 ^ f.frac
    four = pow_mono {i = 2} {j = f.frac} two

    wide : 4 * 2 ^ f.frac ≤ 2 ^ l
    wide = omega (arith, pow_mono {i = 2 + f.frac} {j = l} room, pow-add 2 2 f.frac)

    positive : 0 < joined u U W * 2 ^ c
    positive = marks_some (counts l t u) (pow_pos a) some

    whole : p * 2 ^ A ≡ product_at l p d * 2 ^ a → q * 2 ^ B ≡ third_at l q d * 2 ^ a
        → outcome f g z (dyadic (with_sign s (joined u U W * 2 ^ c)) (b + c)) ≡ outcome f g s (scaled s R n)
    whole v w =
        counted_outcome f i g z s (joined u U W * 2 ^ c) R a (b + c) n positive e
        (grown l t u ∙ (λ i. joined u (v i) (w i)) ∙ joined_times u (product_at l p d) (third_at l q d) (2 ^ a))

    long : ((v : Bool) → 4 * 2 ^ f.frac ≤ joined v (product_at l p d) (third_at l q d))
        → outcome f g z (dyadic (with_sign s (joined u U W * 2 ^ c)) (b + c)) ≡ outcome f g s (scaled s R n)
    long w =
        let bits : 2 ^ (2 + f.frac) ≤ R = omega (arith, w u, pow-add 2 2 f.frac) in
        sticky_outcome f i g z s (joined u U W * 2 ^ c) R a (b + c) n positive e (counts l t u) (λ _. bits)
