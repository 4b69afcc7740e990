-- The rule for answers under every attribute: rounding once meets it, and nothing else does. Assumes nothing.
use Prim.Native.Nat.{ℕ}
use mathlib.Core.Path.{◌≡◌, refl, sym, ap, ◌∙◌, subst}
use mathlib.Core.Logic.{◌↔◌}
use mathlib.Core.Bool.{Bool, true, false, not}
use native.Mathlib.Omega.{arith}
use Rattle.ieee.specs.Format.{Format, Fair}
use Rattle.ieee.specs.Pattern.{Pattern, minus, magnitude, signed}
use Rattle.ieee.specs.Exact.{Value, sign_of, absolute}
use Rattle.ieee.specs.Round.{shorter, longer, rounded, Attribute, ties_to_even, ties_to_away, toward_zero, toward_positive, toward_negative, way_of, answer}
use Rattle.ieee.specs.Rule.{to_even, to_away, Rule, Directed, RuleIn}
use Rattle.ieee.proofs.Past.{rounded_le}
use Rattle.ieee.proofs.Patterns.{inf_below_top, pattern_signed, signed_is}
use Rattle.ieee.proofs.Signs.{by_sign, sound}
use Rattle.ieee.proofs.Ways.{rule_only, answer_rule}
use Rattle.ieee.proofs.Answers.{answer_once, once_answer}
use Rattle.ieee.proofs.DirectedAnswers.{outward_directed, toward_directed, directed_outward, directed_toward}

-- toward positive, or toward negative
abbrev toward : Bool → Attribute
toward false = toward_positive
toward true = toward_negative

-- the value's own direction is away from zero, the other toward zero
toward_own : (t : Bool) → way_of (toward t) t ≡ longer
toward_own false = refl
toward_own true = refl

toward_other : (t : Bool) → way_of (toward (not t)) t ≡ shorter
toward_other false = refl
toward_other true = refl

module _ (f : Format) (s : Bool) (v : Value) where
  -- what the rule of a direction requires of a pattern with the value's sign is what the rule for magnitudes requires
  module _ (r : ℕ) (p : Pattern f r) (e : minus f r ≡ sign_of s v) where
    abbrev AsMagnitude : Bool → Type 0
    AsMagnitude d = Rule f (way_of (toward d) (sign_of s v)) (absolute v) (magnitude f r) ↔ Directed f d s v r

    own_direction : AsMagnitude (sign_of s v)
    own_direction = rw (toward_own (sign_of s v)) (outward_directed f s v r p e, directed_outward f s v r p e)

    other_direction : AsMagnitude (not (sign_of s v))
    other_direction = rw (toward_other (sign_of s v)) (toward_directed f s v r p e, directed_toward f s v r p e)

    as_magnitude : (d : Bool) → AsMagnitude d
    as_magnitude d = by_sign d (sign_of s v) (λ i. subst AsMagnitude (sym i) own_direction) (λ i. subst AsMagnitude (sym i) other_direction)

module _ (f : Format) (g : Fair f) where
  pub answer_pattern : (a : Attribute) (s : Bool) (v : Value) → Pattern f (answer f a s v)
  unfolding answer
  answer_pattern a s v =
      let w = way_of a (sign_of s v) in
      pattern_signed f (sign_of s v) (rounded f w (absolute v)) (omega (arith, rounded_le f w (absolute v), inf_below_top f))

  -- a pattern with the value's sign whose magnitude meets the rule for magnitudes is the answer
  answer_by : (a : Attribute) (s : Bool) (v : Value) (r : ℕ) → Pattern f r → minus f r ≡ sign_of s v → Rule f (way_of a (sign_of s v)) (absolute v) (magnitude f r) → answer f a s v ≡ r
  unfolding answer
  answer_by a s v r p e o =
      ap (signed f (sign_of s v)) (rule_only f g (way_of a (sign_of s v)) (absolute v) (sound v) (magnitude f r) o)
      ∙ ap (λ b. signed f b (magnitude f r)) (sym e) ∙ signed_is f r p

  -- ---- toward positive and toward negative
  toward_met : (d s : Bool) (v : Value) → Directed f d s v (answer f (toward d) s v)
  toward_met d s v =
      let r = answer f (toward d) s v in
      let (e, o) = answer_rule f g (toward d) s v in
      (as_magnitude f s v r (answer_pattern (toward d) s v) e d).0 o

  toward_met_only : (d s : Bool) (v : Value) (r : ℕ) → Directed f d s v r → answer f (toward d) s v ≡ r
  toward_met_only d s v r c =
      answer_by (toward d) s v r c.pattern c.sign ((as_magnitude f s v r c.pattern c.sign d).1 c)

  -- ---- every attribute
  -- the answer meets the rule
  pub answer_met : (a : Attribute) (s : Bool) (v : Value) → RuleIn f a s v (answer f a s v)
  answer_met ties_to_even s v = answer_once f g to_even s v
  answer_met ties_to_away s v = answer_once f g to_away s v
  answer_met toward_zero s v = let (e, o) = answer_rule f g toward_zero s v in record { pattern = answer_pattern toward_zero s v; sign = e; toward = o }
  answer_met toward_positive s v = toward_met false s v
  answer_met toward_negative s v = toward_met true s v

  -- exactly one pattern does
  pub answer_met_only : (a : Attribute) (s : Bool) (v : Value) (r : ℕ) → RuleIn f a s v r → answer f a s v ≡ r
  answer_met_only ties_to_even s v r m = once_answer f g to_even s v r m
  answer_met_only ties_to_away s v r m = once_answer f g to_away s v r m
  answer_met_only toward_zero s v r m = answer_by toward_zero s v r m.pattern m.sign m.toward
  answer_met_only toward_positive s v r m = toward_met_only false s v r m
  answer_met_only toward_negative s v r m = toward_met_only true s v r m

  pub answer_met_unique : (a : Attribute) (s : Bool) (v : Value) (q r : ℕ) → RuleIn f a s v q → RuleIn f a s v r → q ≡ r
  answer_met_unique a s v q r m n = sym (answer_met_only a s v q m) ∙ answer_met_only a s v r n
