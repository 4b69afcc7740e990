-- The rule for answers: an exact value rounded once to the nearest meets it, and nothing else does. Assumes nothing.
use Prim.Native.Nat.{ℕ, ◌<◌}
use mathlib.Core.Path.{◌≡◌, refl, sym, ap, ◌∙◌, subst, subst₂}
use mathlib.Core.Bool.{Bool, not}
use native.Mathlib.Omega.{arith}
use lib.IntN.{nat_abs}
use Rattle.ieee.specs.Format.{Format, Fair, top, inf, units}
use Rattle.ieee.specs.Pattern.{Pattern, minus, magnitude, signed, with_sign, value}
use Rattle.ieee.specs.Exact.{Value, sign_of, absolute}
use Rattle.ieee.specs.Round.{rounded, answer, way_of}
use Rattle.ieee.specs.Rule.{Ties, to_even, to_away, ties_way, ties_attribute, Preferred, AsNear, AsNearℤ, Nearest, Once}
use Rattle.ieee.proofs.Units.{units_zero, units_inj}
use Rattle.ieee.proofs.Patterns.{inf_below_top, magnitude_signed, minus_signed, pattern_signed, signed_is, value_with, value_signed}
use Rattle.ieee.proofs.Signs.{by_sign, sound, abs_signed, signed_zero, near_like, near_unlike, unlike_zero}
use Rattle.ieee.proofs.Rule.{inf_pos, rounded_nearest, nearest_rounded}

way_is : (t : Ties) (s : Bool) → way_of (ties_attribute t) s ≡ ties_way t
way_is to_even s = refl
way_is to_away s = refl

module _ (f : Format) (g : Fair f) (t : Ties) (s : Bool) (v : Value) where
  -- the answer is the value's sign and the rounded magnitude
  pub answer_is : answer f (ties_attribute t) s v ≡ signed f (sign_of s v) (rounded f (ties_way t) (absolute v))
  unfolding answer
  answer_is = ap (λ w. signed f (sign_of s v) (rounded f w (absolute v))) (way_is t (sign_of s v))

  -- ---- a magnitude that meets the rule for magnitudes, with the value's sign, meets the rule for answers
  module _ (m : ℕ) (n : Nearest f t (absolute v) m) where
    r : ℕ
    r = signed f (sign_of s v) m

    below_top : m < top f
    below_top = omega (arith, n.within, inf_below_top f)

    magnitude_r : magnitude f r ≡ m
    unfolding r
    magnitude_r = magnitude_signed f (sign_of s v) m below_top

    value_r : value f r ≡ with_sign (sign_of s v) (units f m)
    unfolding r
    value_r = value_signed f (sign_of s v) m below_top

    -- it is as near as zero
    as_near_as_zero : m < inf f → AsNear (absolute v) (units f m) 0
    as_near_as_zero l = subst (AsNear (absolute v) (units f m)) (units_zero f) (n.near l 0 (inf_pos f g))

    nearer : m < inf f → (q : ℕ) → magnitude f q < inf f → AsNearℤ v (value f r) (value f q)
    nearer l q h = by_sign (minus f q) (sign_of s v) like other
      where
        like : minus f q ≡ sign_of s v → AsNearℤ v (value f r) (value f q)
        like e = subst₂ (AsNearℤ v) (sym value_r) (sym (value_with f q (sign_of s v) e)) ((near_like s v (units f m) (units f (magnitude f q))).1 (n.near l (magnitude f q) h))

        other : minus f q ≡ not (sign_of s v) → AsNearℤ v (value f r) (value f q)
        other e = subst₂ (AsNearℤ v) (sym value_r) (sym (value_with f q (not (sign_of s v)) e)) (near_unlike s v (units f m) (units f (magnitude f q)) (as_near_as_zero l))

    -- a tie with a number of the other sign is one with zero
    tied : m < inf f → (q : ℕ) → magnitude f q < inf f → (value f q ≡ value f r → ⊥) → AsNearℤ v (value f q) (value f r) → Preferred t m (magnitude f q)
    tied l q h d a = by_sign (minus f q) (sign_of s v) like other
      where
        like : minus f q ≡ sign_of s v → Preferred t m (magnitude f q)
        like e =
            n.tie l (magnitude f q) h
            (λ c. d (value_with f q (sign_of s v) e ∙ ap (λ j. with_sign (sign_of s v) (units f j)) c ∙ sym value_r))
            ((near_like s v (units f (magnitude f q)) (units f m)).0 (subst₂ (AsNearℤ v) (value_with f q (sign_of s v) e) value_r a))

        none : minus f q ≡ not (sign_of s v) → units f (magnitude f q) ≡ 0
        none e = unlike_zero s v (units f m) (units f (magnitude f q)) (as_near_as_zero l) (subst₂ (AsNearℤ v) (value_with f q (not (sign_of s v)) e) value_r a)

        zero_q : minus f q ≡ not (sign_of s v) → value f q ≡ with_sign (sign_of s v) (units f (magnitude f q))
        zero_q e =
            value_with f q (not (sign_of s v)) e ∙ ap (with_sign (not (sign_of s v))) (none e) ∙ signed_zero (not (sign_of s v))
            ∙ sym (signed_zero (sign_of s v)) ∙ ap (with_sign (sign_of s v)) (sym (none e))

        other : minus f q ≡ not (sign_of s v) → Preferred t m (magnitude f q)
        other e =
            n.tie l (magnitude f q) h
            (λ c. d (zero_q e ∙ ap (λ j. with_sign (sign_of s v) (units f j)) c ∙ sym value_r))
            ((near_like s v (units f (magnitude f q)) (units f m)).0 (subst₂ (AsNearℤ v) (zero_q e) value_r a))

    pub nearest_once : Once f t s v (signed f (sign_of s v) m)
    unfolding r
    nearest_once =
        record {
          pattern = pattern_signed f (sign_of s v) m below_top;
          within = rw magnitude_r n.within;
          sign = minus_signed f (sign_of s v) m below_top;
          near = λ l q p h. nearer (rw magnitude_r at l) q h;
          tie = λ l q p h d a. rw magnitude_r (tied (rw magnitude_r at l) q h d a);
          overflow = rw magnitude_r n.overflow;
        }

  -- ---- the converse: a pattern that meets the rule for answers has the value's sign and a magnitude that meets the rule for magnitudes
  module _ (r : ℕ) (o : Once f t s v r) where
    value_own : value f r ≡ with_sign (sign_of s v) (units f (magnitude f r))
    value_own = value_with f r (sign_of s v) o.sign

    at : ℕ → ℕ
    at k = signed f (sign_of s v) k

    module _ (k : ℕ) (h : k < inf f) where
      k_below : k < top f
      k_below = omega (arith, inf_below_top f)

      magnitude_at : magnitude f (at k) ≡ k
      unfolding at
      magnitude_at = magnitude_signed f (sign_of s v) k k_below

      value_at : value f (at k) ≡ with_sign (sign_of s v) (units f k)
      unfolding at
      value_at = value_signed f (sign_of s v) k k_below

      pattern_at : Pattern f (at k)
      unfolding at
      pattern_at = pattern_signed f (sign_of s v) k k_below

      near_at : magnitude f r < inf f → AsNear (absolute v) (units f (magnitude f r)) (units f k)
      near_at l =
          (near_like s v (units f (magnitude f r)) (units f k)).0
          (subst₂ (AsNearℤ v) value_own value_at (o.near l (at k) pattern_at (rw magnitude_at h)))

      apart : (k ≡ magnitude f r → ⊥) → value f (at k) ≡ value f r → ⊥
      apart d e =
          d (units_inj f k (magnitude f r)
          (sym (abs_signed (sign_of s v) (units f k)) ∙ ap nat_abs (sym value_at ∙ e ∙ value_own) ∙ abs_signed (sign_of s v) (units f (magnitude f r))))

      tie_at : magnitude f r < inf f → (k ≡ magnitude f r → ⊥) → AsNear (absolute v) (units f k) (units f (magnitude f r)) → Preferred t (magnitude f r) k
      tie_at l d a =
          subst (Preferred t (magnitude f r)) magnitude_at
          (o.tie l (at k) pattern_at (rw magnitude_at h) (apart d)
          (subst₂ (AsNearℤ v) (sym value_at) (sym value_own) ((near_like s v (units f k) (units f (magnitude f r))).1 a)))

    pub once_nearest : Nearest f t (absolute v) (magnitude f r)
    once_nearest = record { within = o.within; near = λ l k h. near_at k h l; tie = λ l k h. tie_at k h l; overflow = o.overflow }

    once_only : answer f (ties_attribute t) s v ≡ r
    once_only =
        answer_is
        ∙ ap (signed f (sign_of s v)) (nearest_rounded f g t (absolute v) (sound v) (magnitude f r) once_nearest)
        ∙ ap (λ b. signed f b (magnitude f r)) (sym o.sign) ∙ signed_is f r o.pattern

  -- the answer meets the rule
  pub answer_once : Once f t s v (answer f (ties_attribute t) s v)
  answer_once =
      rw answer_is (nearest_once (rounded f (ties_way t) (absolute v)) (rounded_nearest f g t (absolute v) (sound v)))

  -- exactly one pattern does
  pub once_answer : (r : ℕ) → Once f t s v r → answer f (ties_attribute t) s v ≡ r
  once_answer r o = once_only r o

  pub once_unique : (q r : ℕ) → Once f t s v q → Once f t s v r → q ≡ r
  once_unique q r o p = sym (once_answer q o) ∙ once_answer r p
