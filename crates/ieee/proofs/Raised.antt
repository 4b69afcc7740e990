-- The flags of an exact value rounded once, under every attribute. Assumes nothing.
use Prim.Native.Nat.{ℕ, zero, suc, ◌-◌, ◌*◌, ◌^◌, ◌<◌}
use mathlib.Core.Path.{◌≡◌, refl, sym, ap, ◌∙◌, subst}
use mathlib.Core.Logic.{◌↔◌}
use mathlib.Core.Bool.{Bool, true, false, ◌&&◌, cond, true≢false}
use native.Mathlib.Omega.{arith}
use lib.IntN.{nat_abs}
use Rattle.ieee.specs.Format.{Format, Fair, top, inf, units}
use Rattle.ieee.specs.Pattern.{magnitude, signed, with_sign, value, finite}
use Rattle.ieee.specs.Exact.{Exact, ratio, Value, dyadic, surd, sign_of, absolute, Over, Under}
use Rattle.ieee.specs.Round.{Way, even, away, Attribute, ties_to_even, ties_to_away, way_of, rounded, answer}
use Rattle.ieee.specs.Rule.{Ties, to_even, to_away, ties_attribute}
use Rattle.ieee.specs.Flags.{Flags, none, largest, overflows, tiny, same, differs, raised_by, raised}
use Rattle.ieee.specs.FlagsRule.{Equals, Exactly, overflowed, FlagsRule}
use Rattle.ieee.proofs.Units.{units_rise, units_mono}
use Rattle.ieee.proofs.Decide.{Reads, holds, is_true, is_false, split, alike, leb_reads, and_reads, not_reads}
use Rattle.ieee.proofs.Sides.{Sound, over_reads, under_reads, under_up, apart}
use Rattle.ieee.proofs.Past.{rounded_le, passes_reads}
use Rattle.ieee.proofs.Patterns.{inf_below_top, magnitude_signed, value_signed}
use Rattle.ieee.proofs.Signs.{sound, abs_signed, signed_abs, signed_times}
use Rattle.ieee.proofs.Local.{local}
use Rattle.ieee.proofs.Verdicts.{reads_as, PastLargest, BelowNormal, as_reaches, overflows_reads, tiny_reads, past_every, below_every, not_reaches, overflow_gives, infinity_overflows}

-- ---- for magnitudes
-- m is finite, and is x
pub record Same (f : Format) (x : Exact) (m : ℕ) : Type 0 where
  pub finite : m < inf f
  pub low : Over x (2 * units f m)
  pub high : Under x (2 * units f m)

pub same_reads : (f : Format) (x : Exact) (m : ℕ) → Reads (Same f x m) (same f x m)
same_reads f x m =
    reads_as (λ h. record { finite = h.0.0; low = h.0.1; high = h.1 }, λ h. ((h.finite, h.low), h.high))
    (and_reads (and_reads (leb_reads (suc m) (inf f)) (over_reads x (2 * units f m))) (under_reads x (2 * units f m)))

pub differs_reads : (f : Format) (w : Way) (x : Exact) → Reads (Same f x (rounded f w x) → ⊥) (differs f w x)
unfolding differs
differs_reads f w x = not_reads (same_reads f x (rounded f w x))

module _ (f : Format) (g : Fair f) (w : Way) (x : Exact) (s : Sound x) where
  -- a number of the format does not overflow
  pub same_not_overflows : (m : ℕ) → Same f x m → PastLargest f g w x → ⊥
  same_not_overflows m h = not_reaches f g w x s (largest f) (under_up x (omega (arith, units_mono f {i = m} {j = largest f} (omega (arith, h.finite)))) h.high)

-- ---- a value and a number of its sign
equals_as : (s : Bool) (v : Value) (u : ℕ) → Equals v (with_sign (sign_of s v) u) ↔ (Over (absolute v) (2 * u) × Under (absolute v) (2 * u))
equals_as s (dyadic z k) u =
    let t = sign_of s (dyadic z k) in
    let p = signed_times t u (2 ^ k) in (
      λ h. let e : nat_abs z ≡ u * 2 ^ k = ap nat_abs (h ∙ p) ∙ abs_signed t (u * 2 ^ k) in (omega arith, omega arith),
      λ h. let e : nat_abs z ≡ u * 2 ^ k = omega (arith, h.0, h.1) in sym (signed_abs s z k) ∙ ap (with_sign t) e ∙ sym p,
    )
equals_as false (surd zero) u = (λ h. (omega arith, omega arith), λ h. omega (arith, h.0))
equals_as true (surd zero) zero = (λ h. (omega arith, omega arith), λ h. omega arith)
equals_as true (surd zero) (suc u) = (λ h. absurd h, λ h. omega (arith, h.0))
equals_as s (surd (suc n)) u = (λ h. (omega arith, omega arith), λ h. omega (arith, h.0, h.1))

module _ (f : Format) (g : Fair f) (a : Attribute) (s : Bool) (v : Value) where
  abbrev t : Bool
  t = sign_of s v

  abbrev w : Way
  w = way_of a t

  abbrev m : ℕ
  m = rounded f w (absolute v)

  below_top : m < top f
  below_top = omega (arith, rounded_le f w (absolute v), inf_below_top f)

  pub answer_magnitude : magnitude f (answer f a s v) ≡ m
  unfolding answer
  answer_magnitude = magnitude_signed f t m below_top

  answer_value : value f (answer f a s v) ≡ with_sign t (units f m)
  unfolding answer
  answer_value = value_signed f t m below_top

  -- the answer is the exact value exactly when its magnitude is that of the value
  pub exactly_same : Exactly f v (answer f a s v) ↔ Same f (absolute v) m
  exactly_same =
      let (to, from) = equals_as s v (units f m) in (
        λ h. let o = to (subst (Equals v) answer_value h.1) in record { finite = omega (arith, answer_magnitude, h.0); low = o.0; high = o.1 },
        λ h. (omega (arith, answer_magnitude, h.finite), subst (Equals v) (sym answer_value) (from (h.low, h.high))),
      )

  exactly_reads : Reads (Exactly f v (answer f a s v)) (same f (absolute v) m)
  exactly_reads = reads_as (exactly_same.1, exactly_same.0) (same_reads f (absolute v) m)

  flag_overflow : (raised f a s v).overflow ≡ overflows f 1 w (absolute v)
  unfolding raised raised_by
  flag_overflow = refl

  flag_inexact : (raised f a s v).inexact ≡ differs f w (absolute v)
  unfolding raised raised_by
  flag_inexact = refl

  flag_underflow : (raised f a s v).underflow ≡ (tiny f 1 w (absolute v) && differs f w (absolute v))
  unfolding raised raised_by
  flag_underflow = refl

  -- ---- the three flags, by their meaning
  pub inexact_reads : Reads (Exactly f v (answer f a s v) → ⊥) (raised f a s v).inexact
  inexact_reads =
      rw flag_inexact (reads_as (λ h e. h (exactly_same.0 e), λ h e. h (exactly_same.1 e)) (differs_reads f w (absolute v)))

  pub overflow_reads : Reads (PastLargest f g w (absolute v)) (raised f a s v).overflow
  overflow_reads = rw flag_overflow (overflows_reads f g 1 (omega arith) w (absolute v) (sound v))

  pub underflow_reads : Reads (BelowNormal f g w (absolute v) × (Exactly f v (answer f a s v) → ⊥)) (raised f a s v).underflow
  underflow_reads =
      rw flag_underflow (and_reads (tiny_reads f g 1 (omega arith) w (absolute v) (sound v)) (rw flag_inexact at inexact_reads))

  -- ---- how they combine
  overflow_differs : PastLargest f g w (absolute v) → Exactly f v (answer f a s v) → ⊥
  overflow_differs o e = same_not_overflows f g w (absolute v) (sound v) m (exactly_same.0 e) o

  -- clause 7.4
  overflow_answer : PastLargest f g w (absolute v) → answer f a s v ≡ signed f t (overflowed f w)
  unfolding answer
  overflow_answer o = ap (signed f t) (overflow_gives f g w (absolute v) (sound v) o)

  exact_raises_none : Exactly f v (answer f a s v) → raised f a s v ≡ none
  unfolding raised raised_by
  exact_raises_none e =
      let o = is_false overflow_reads (λ o. overflow_differs o e) in
      let u = is_false underflow_reads (λ u. u.1 e) in
      let i = is_false inexact_reads (λ n. n e) in
      (λ j. record { invalid = false; division_by_zero = false; overflow = o j; underflow = u j; inexact = i j })

  pub raised_rule : FlagsRule f a s v (answer f a s v) (raised f a s v)
  unfolding raised raised_by
  raised_rule =
      let (past, past_back) = past_every f g w (absolute v) (sound v) in
      let (below, below-back) = below_every f g w (absolute v) (sound v) in
      record {
        inexact_when = (holds inexact_reads, is_true inexact_reads);
        overflow_when = (λ h. past (holds overflow_reads h), λ o. is_true overflow_reads (past_back o));
        underflow_when = (λ h. let (c, d) = holds underflow_reads h in (below c, d), λ h. is_true underflow_reads (below-back h.0, h.1));
        valid = refl;
        no_division = refl;
        exact_when = (λ e. split exactly_reads (λ h. h) (λ n. absurd (true≢false (sym (is_true inexact_reads n) ∙ e))), λ h. is_false inexact_reads (λ n. n h));
        exact_none = exact_raises_none;
        overflow_gives = λ h. overflow_answer (holds overflow_reads h);
        infinity_overflow = λ e. is_true overflow_reads (infinity_overflows f g w (absolute v) (sound v) (sym answer_magnitude ∙ e));
      }

-- the rule settles the flags
pub same_when : {A : Type 0} (b c : Bool) → (b ≡ true) ↔ A → (c ≡ true) ↔ A → b ≡ c
same_when true c h k = sym (k.1 (h.0 refl))
same_when false true h k = h.1 (k.0 refl)
same_when false false h k = refl

pub rule_one : (f : Format) (a : Attribute) (s : Bool) (v : Value) (r : ℕ) (F G : Flags) → FlagsRule f a s v r F → FlagsRule f a s v r G → F ≡ G
rule_one f a s v r F G h k =
    let o = same_when F.overflow G.overflow h.overflow_when k.overflow_when in
    let u = same_when F.underflow G.underflow h.underflow_when k.underflow_when in
    let i = same_when F.inexact G.inexact h.inexact_when k.inexact_when in
    let n = h.valid ∙ sym k.valid in
    let d = h.no_division ∙ sym k.no_division in
    (λ j. record { invalid = n j; division_by_zero = d j; overflow = o j; underflow = u j; inexact = i j })

-- ---- to the nearest, overflow is raised exactly when the answer is an infinity
pub nearest_overflow : (f : Format) → Fair f → (t : Ties) (s : Bool) (v : Value)
    → ((raised f (ties_attribute t) s v).overflow ≡ true) ↔ (magnitude f (answer f (ties_attribute t) s v) ≡ inf f)
nearest_overflow f g to_even s v = (
  λ h. answer_magnitude f g ties_to_even s v ∙ overflow_gives f g even (absolute v) (sound v) (holds (overflow_reads f g ties_to_even s v) h),
  λ h. (raised_rule f g ties_to_even s v).infinity_overflow h,
)
nearest_overflow f g to_away s v = (
  λ h. answer_magnitude f g ties_to_away s v ∙ overflow_gives f g away (absolute v) (sound v) (holds (overflow_reads f g ties_to_away s v) h),
  λ h. (raised_rule f g ties_to_away s v).infinity_overflow h,
)

-- ---- a number of the format is its own answer, so inexact does not depend on the attribute
pub same_rounded : (f : Format) → Fair f → (w : Way) (x : Exact) → Sound x → (m : ℕ) → Same f x m → rounded f w x ≡ m
same_rounded f g w x s m h =
    local f w x s m (record { finite = h.finite; low = h.low; high = λ l o. apart x s (omega (arith, units_rise f m)) h.high o })
    ∙ ap (λ b. cond b (suc m) m) (is_false (passes_reads f w x m) (λ p. not_reaches f g w x s m h.high (as_reaches f w x m p)))

pub inexact_alike : (f : Format) → Fair f → (a b : Attribute) (s t : Bool) (v : Value) → (raised f a s v).inexact ≡ (raised f b t v).inexact
inexact_alike f g a b s t v = alike (inexact_reads f g a s v) (inexact_reads f g b t v) (λ n e. n (over b t a s e), λ n e. n (over a s b t e))
  where
    over : (a : Attribute) (s : Bool) (b : Attribute) (t : Bool) → Exactly f v (answer f a s v) → Exactly f v (answer f b t v)
    over a s b t e =
        let h = (exactly_same f g a s v).0 e in
        (exactly_same f g b t v).1 (subst (Same f (absolute v)) (sym (same_rounded f g (way_of b (sign_of t v)) (absolute v) (sound v) (rounded f (way_of a (sign_of s v)) (absolute v)) h)) h)

-- a ratio with a sign
pub raised_of : (f : Format) (a : Attribute) (s t : Bool) (n k : ℕ) → sign_of s (dyadic (with_sign t n) k) ≡ t
    → raised f a s (dyadic (with_sign t n) k) ≡ raised_by f (way_of a t) (ratio n (2 ^ k))
unfolding raised
raised_of f a s t n k e = λ i. raised_by f (way_of a (e i)) (ratio (abs_signed t n i) (2 ^ k))
