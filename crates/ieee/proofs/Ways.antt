-- The rule for magnitudes, over the way: rounding meets it, and nothing else does. Assumes nothing.
use Prim.Native.Nat.{ℕ, ◌<◌}
use mathlib.Core.Path.{◌≡◌, sym, ◌∙◌}
use mathlib.Core.Bool.{Bool}
use native.Mathlib.Omega.{arith}
use Rattle.ieee.specs.Format.{Format, Fair, top}
use Rattle.ieee.specs.Pattern.{minus, magnitude}
use Rattle.ieee.specs.Exact.{Exact, Value, sign_of, absolute}
use Rattle.ieee.specs.Round.{Way, even, away, shorter, longer, rounded, Attribute, way_of, answer}
use Rattle.ieee.specs.Rule.{to_even, to_away, Rule}
use Rattle.ieee.proofs.Sides.{Sound}
use Rattle.ieee.proofs.Past.{rounded_le}
use Rattle.ieee.proofs.Patterns.{inf_below_top, magnitude_signed, minus_signed}
use Rattle.ieee.proofs.Signs.{sound}
use Rattle.ieee.proofs.Rule.{inf_pos, rounded_nearest, nearest_rounded}
use Rattle.ieee.proofs.Directed.{rounded_toward, toward_rounded, rounded_outward, outward_rounded}

module _ (f : Format) (g : Fair f) where
  -- some magnitude meets the rule
  pub rule_met : (w : Way) (x : Exact) → Sound x → Rule f w x (rounded f w x)
  rule_met even x s = rounded_nearest f g to_even x s
  rule_met away x s = rounded_nearest f g to_away x s
  rule_met shorter x s = rounded_toward f (inf_pos f g) x s
  rule_met longer x s = rounded_outward f (inf_pos f g) x s

  pub rule_only : (w : Way) (x : Exact) → Sound x → (m : ℕ) → Rule f w x m → rounded f w x ≡ m
  rule_only even x s m r = nearest_rounded f g to_even x s m r
  rule_only away x s m r = nearest_rounded f g to_away x s m r
  rule_only shorter x s m r = toward_rounded f (inf_pos f g) x s m r
  rule_only longer x s m r = outward_rounded f (inf_pos f g) x s m r

  -- any two that meet it are equal
  pub rule_unique : (w : Way) (x : Exact) → Sound x → (i j : ℕ) → Rule f w x i → Rule f w x j → i ≡ j
  rule_unique w x s i j p q = sym (rule_only w x s i p) ∙ rule_only w x s j q

  -- under every attribute an answer has the value's sign, and its magnitude meets the rule of the way for that sign and attribute
  pub answer_rule : (a : Attribute) (s : Bool) (v : Value)
      → (minus f (answer f a s v) ≡ sign_of s v) × Rule f (way_of a (sign_of s v)) (absolute v) (magnitude f (answer f a s v))
  unfolding answer
  answer_rule a s v =
      let w = way_of a (sign_of s v) in
      let m = rounded f w (absolute v) in
      let l : m < top f = omega (arith, rounded_le f w (absolute v), inf_below_top f) in
      (minus_signed f (sign_of s v) m l, rw (magnitude_signed f (sign_of s v) m l) (rule_met w (absolute v) (sound v)))
