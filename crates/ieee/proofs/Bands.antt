-- The band of an exact value: it lies between its roundings down and up, which are one number exactly when inexact is not raised. Assumes nothing.
use Prim.Native.Nat.{◌*◌, ◌^◌}
use mathlib.Core.Path.{◌≡◌, sym, ap, ◌∙◌, subst}
use mathlib.Core.Bool.{Bool}
use native.Mathlib.Omega.{arith, both_ways}
use lib.Pow.{pow_pos}
use lib.IntN.{ℤ, pos, negsuc, ◌*ℤ◌}
use Rattle.algebra.proofs.Products.{mul_eq_cancel}
use Rattle.algebra.proofs.Roots.{sq_le}
use Rattle.algebra.proofs.Integers.{up, dn, times_z, le_z_fact, eq_z, eq_z_fact}
use Rattle.ieee.specs.Format.{Format, Fair}
use Rattle.ieee.specs.Pattern.{value}
use Rattle.ieee.specs.Exact.{Value, dyadic, surd}
use Rattle.ieee.specs.Round.{toward_positive, toward_negative, answer}
use Rattle.ieee.specs.Rule.{NotAbove, NotBelow}
use Rattle.ieee.specs.Flags.{raised}
use Rattle.ieee.specs.FlagsRule.{Equals}
use Rattle.ieee.specs.Band.{Band}
use Rattle.ieee.proofs.Decide.{is_false}
use Rattle.ieee.proofs.Attributes.{answer_met}
use Rattle.ieee.proofs.Raised.{raised_rule, inexact_reads, inexact_alike}

-- a value between a number and itself is that number
between : (v : Value) (u : ℤ) → NotBelow v u → NotAbove v u → Equals v u
between (dyadic z k) u a b = eq_z z (u *ℤ pos (2 ^ k)) (omega (arith, le_z_fact (u *ℤ pos (2 ^ k)) z a.le, le_z_fact z (u *ℤ pos (2 ^ k)) b.le))
between (surd n) (pos u) a b = both_ways n (u * u) b a
between (surd n) (negsuc u) a b = absurd b

-- and equals no other
equals_one : (v : Value) (a b : ℤ) → Equals v a → Equals v b → a ≡ b
equals_one (dyadic z k) a b p q =
    let e = eq_z_fact (sym p ∙ q) in
    let h = times_z a (2 ^ k) in
    let l = times_z b (2 ^ k) in
    let i = mul_eq_cancel (up a) (up b) (2 ^ k) (pow_pos k) (omega arith) in
    let j = mul_eq_cancel (dn a) (dn b) (2 ^ k) (pow_pos k) (omega arith) in
    eq_z a b (omega arith)
equals_one (surd n) (pos a) (pos b) p q = ap pos (both_ways a b (sq_le a b (omega arith)) (sq_le b a (omega arith)))
equals_one (surd n) (pos a) (negsuc b) p q = absurd q
equals_one (surd n) (negsuc a) b p q = absurd p

-- s and t are the signs of a zero at the two ends
pub band : (f : Format) → Fair f → (s t : Bool) (v : Value)
    → Band f v (answer f toward_negative s v) (answer f toward_positive t v) (raised f toward_negative s v) (raised f toward_positive t v)
band f g s t v =
    let lo = answer f toward_negative s v in
    let hi = answer f toward_positive t v in
    let d = answer_met f g toward_negative s v in
    let u = answer_met f g toward_positive t v in
    let same = inexact_alike f g toward_negative toward_positive s t v in
    record {
      above_low = d.bounds;
      low_infinity = d.infinity;
      below_high = u.bounds;
      high_infinity = u.infinity;
      tight_low = d.first;
      tight_high = u.first;
      one = (
        λ h. is_false (inexact_reads f g toward_negative s v) (λ n. n (h.0, between v (value f lo) (d.bounds h.0) (subst (NotAbove v) (sym h.2) (u.bounds h.1)))),
        λ e.
            let a = (raised_rule f g toward_negative s v).exact_when.0 e in
            let b = (raised_rule f g toward_positive t v).exact_when.0 (sym same ∙ e) in
            (a.0, b.0, equals_one v (value f lo) (value f hi) a.1 b.1),
      );
      alike = same;
    }
