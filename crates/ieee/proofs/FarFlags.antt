-- The flags of zero, and of values far above and far below all numbers. Assumes nothing.
use Prim.Native.Nat.{ℕ, zero, suc, ◌*◌}
use mathlib.Core.Path.{◌≡◌, sym, ap, subst}
use mathlib.Core.Bool.{Bool, true, false}
use native.Mathlib.Omega.{arith}
use lib.Pow.{pow_pos}
use Rattle.ieee.specs.Format.{Format, Fair, inf, units}
use Rattle.ieee.specs.Exact.{Exact, Over, Under, magnified}
use Rattle.ieee.specs.Round.{Way, even, away, shorter, longer, rounded}
use Rattle.ieee.specs.Flags.{largest, overflows, tiny, differs, judged, raised_by}
use Rattle.ieee.proofs.Units.{units_zero, units_rise, units_mono, units_lt}
use Rattle.ieee.proofs.Decide.{is_true, is_false}
use Rattle.ieee.proofs.Sides.{Sound, over_zero, over_down, under_up, apart}
use Rattle.ieee.proofs.Rule.{inf_pos}
use Rattle.ieee.proofs.Exacts.{rounded_zero}
use Rattle.ieee.proofs.Wider.{magnified_beside, magnified_sound, Reaches}
use Rattle.ieee.proofs.Verdicts.{three, largest_normal, suc_largest, before_twice, PastLargest, overflows_reads, tiny_reads, not_reaches}
use Rattle.ieee.proofs.Raised.{Same, differs_reads, same_not_overflows}

-- ---- values far above and far below all numbers
pub over_reaches : (f : Format) (w : Way) (x : Exact) → Sound x → (j : ℕ) → Over x (2 * units f (suc j)) → Reaches f w x j
over_reaches f even x s j o = (over_down x (omega (arith, units_rise f j)) o, λ u. absurd (apart x s (omega (arith, units_rise f j)) u o))
over_reaches f away x s j o = over_down x (omega (arith, units_rise f j)) o
over_reaches f shorter x s j o = o
over_reaches f longer x s j o = λ u. apart x s (omega (arith, units_rise f j)) u o

judged_as : (f : Format) (w : Way) (x : Exact) {o t i : Bool} → overflows f 1 w x ≡ o → tiny f 1 w x ≡ t → differs f w x ≡ i → raised_by f w x ≡ judged o t i
unfolding raised_by
judged_as f w x p q r = λ j. judged (p j) (q j) (r j)

module _ (f : Format) (g : Fair f) (w : Way) (x : Exact) (s : Sound x) where
  pub huge_flags : Over x (2 * units f (inf f)) → raised_by f w x ≡ judged true false true
  huge_flags o =
      let h : PastLargest f g w x = over_reaches f w x s (largest f) (over_down x (omega (arith, ap (units f) (suc_largest f g))) o) in
      judged_as f w x
      (is_true (overflows_reads f g 1 (omega arith) w x s) h)
      (is_false (tiny_reads f g 1 (omega arith) w x s) (λ t. t.1 (over_reaches f w (magnified x 2) (magnified_sound x 2 s) (before_twice f g) (doubled x o))))
      (is_true (differs_reads f w x) (λ e. same_not_overflows f g w x s (rounded f w x) e h))
    where
      doubled : (x : Exact) → Over x (2 * units f (inf f)) → Over (magnified x 2) (2 * units f (suc (before_twice f g)))
      doubled x o =
          over_down (magnified x 2) (omega (arith, units_mono f {i = suc (before_twice f g)} {j = inf f} (omega (arith, three f g, pow_pos f.frac))))
          ((magnified_beside x (2 * units f (inf f)) 2 (omega arith)).0.1 o)

  pub small_flags : (Under x 0 → ⊥) → Under x 1 → raised_by f w x ≡ judged false true true
  small_flags n u =
      judged_as f w x
      (is_false (overflows_reads f g 1 (omega arith) w x s) (not_reaches f g w x s (largest f) (under_up x (omega (arith, units_lt f {i = 0} {j = largest f} (omega (arith, largest_normal f g, pow_pos f.frac)))) u)))
      (is_true (tiny_reads f g 1 (omega arith) w x s) (
        n,
        not_reaches f g w (magnified x 2) (magnified_sound x 2 s) (before_twice f g)
            (under_up (magnified x 2) (omega (arith, units_lt f {i = 0} {j = before_twice f g} (omega (arith, pow_pos f.frac)))) ((magnified_beside x 1 2 (omega arith)).1.1 u)),
      ))
      (is_true (differs_reads f w x) (differ (rounded f w x)))
    where
      differ : (m : ℕ) → Same f x m → ⊥
      differ zero h = n (subst (λ c. Under x (2 * c)) (units_zero f) h.high)
      differ (suc m) h = apart x s (omega (arith, units_lt f {i = 0} {j = suc m} (omega arith))) u h.low

  pub zero_flags : Under x 0 → raised_by f w x ≡ judged false false false
  zero_flags u =
      let e = rounded_zero f w x s u in
      judged_as f w x
      (is_false (overflows_reads f g 1 (omega arith) w x s) (not_reaches f g w x s (largest f) (under_up x (omega arith) u)))
      (is_false (tiny_reads f g 1 (omega arith) w x s) (λ t. t.0 u))
      (is_false (differs_reads f w x) (λ n. n (subst (Same f x) (sym e) (record { finite = inf_pos f g; low = rw (units_zero f) (over_zero x); high = rw (units_zero f) (under_up x (omega arith) u) }))))
