-- The refusal and the value of the reduction's answer, by the tests of the code, over the width of the words. Assumes nothing.
use Prim.Native.Nat.{ℕ, ◌+◌, ◌-◌, ◌*◌, ◌%◌, ◌^◌, ◌≤◌, ◌<◌}
use mathlib.Core.Path.{◌≡◌, sym, ap, ◌∙◌}
use mathlib.Core.Logic.{inl, inr}
use native.Mathlib.Nat.{mod-lt}
use native.Mathlib.Omega.{arith}
use lib.Pow.{pow_pos, pow_mono}
use Rattle.algebra.proofs.Products.{order}
use Rattle.ieee.specs.Refusal.{done, number_of, value_of}
use Rattle.ieee.specs.Reduction.{shift_limit, divisor_limit, reduce_of}
use Rattle.ieee.specs.ReductionRule.{Fit, ReduceRefusals}
use Rattle.ieee.proofs.Reductions.{reduction_is, reduce_done}

module _ (w x e y : ℕ) where
  abbrev number : ℕ
  number = number_of (reduce_of w x e y)

  abbrev value : ℕ
  value = value_of (reduce_of w x e y)

  rules : ReduceRefusals w x e y number
  rules = (reduction_is w x e y).refusals

  limit : divisor_limit w + 1 ≡ 2 ^ (w - 2)
  limit = omega (arith, pow_pos (w - 2))

  pub divisor_past_limit : 2 ^ (w - 2) ≤ y → 4 ≡ number
  divisor_past_limit h = sym (rules.four.1 (inl (omega (arith, limit))))

  pub x_not_below : 2 * y ≤ x → 4 ≡ number
  x_not_below h = sym (rules.four.1 (inr h))

  pub shift_past_limit : y < 2 ^ (w - 2) → x < 2 * y → shift_limit < e → 5 ≡ number
  shift_past_limit a b h = sym (rules.five.1 ((omega (arith, limit), b), h))

  pub accepted : e ≤ shift_limit → y < 2 ^ (w - 2) → x < 2 * y → 0 ≡ number
  accepted h a b = sym (rules.none.1 ((omega (arith, limit), b), h))

  -- where the reduction is done, the limits are kept, and the value is the remainder
  within : number ≡ 0 → Fit w x y × (e ≤ shift_limit)
  within h = rules.none.0 h

  pub within_limits : w ≤ 64 → number ≡ 0 → (x < 2 * y) × (y < 2 ^ 62) × (e ≤ shift_limit)
  within_limits l h =
      let (f, s) = within h in
      (f.1, omega (arith, f.0, limit, pow_mono {i = w - 2} {j = 62} (omega arith)), s)

  pub value_done : number ≡ 0 → x * 2 ^ e % y ≡ value
  value_done h = let (f, l) = within h in sym (ap value_of (reduce_done w x e y f.0 f.1 l))

  pub answer_done : number ≡ 0 → done (x * 2 ^ e % y) ≡ reduce_of w x e y
  answer_done h = let (f, l) = within h in sym (reduce_done w x e y f.0 f.1 l)

  pub value_refused : 0 < number → 0 ≡ value
  value_refused h = sym ((reduction_is w x e y).no_value (λ z. absurd (omega arith)))

  -- the value is a word
  pub value_below : value < 2 ^ w
  value_below =
      order 1 number (λ h. omega (arith, value_refused h, pow_pos w))
      (λ h.
      let z : number ≡ 0 = omega arith in
      let f = (within z).0 in
      omega (arith, value_done z, mod-lt (x * 2 ^ e) {m = y} (omega (arith, f.1)), f.0, limit, pow_mono {i = w - 2} {j = w} (omega arith)))

-- ---- one answer: whatever meets one contract meets the other
pub plain_alike : (w x e y a b c d : ℕ) → (a ≡ number w x e y) × (b ≡ value w x e y) → (c ≡ number w x e y) × (d ≡ value w x e y) → (a ≡ c) × (b ≡ d)
plain_alike w x e y a b c d p q = (p.0 ∙ sym q.0, p.1 ∙ sym q.1)
