-- Two exact values on the same side of every threshold raise the same flags. The thresholds are the numbers, the middles between them, and one at three quarters of a gap. Assumes nothing.
use Prim.Native.Nat.{ℕ, suc, ◌-◌, ◌*◌, ◌^◌, ◌≤◌, ◌<◌}
use mathlib.Core.Path.{◌≡◌, subst}
use mathlib.Core.Logic.{◌↔◌}
use native.Mathlib.Omega.{arith}
use lib.Pow.{pow_pos}
use Rattle.ieee.specs.Format.{Format, Fair, inf, units}
use Rattle.ieee.specs.Exact.{Exact, Under, magnified}
use Rattle.ieee.specs.Round.{Way, even, away, shorter, longer, middle, rounded}
use Rattle.ieee.specs.Flags.{largest, judged, raised_by}
use Rattle.ieee.proofs.Units.{units_zero}
use Rattle.ieee.proofs.Decide.{alike}
use Rattle.ieee.proofs.Sides.{Sound}
use Rattle.ieee.proofs.Alike.{Beside, threshold, same_side}
use Rattle.ieee.proofs.Wider.{magnified_beside, Reaches}
use Rattle.ieee.proofs.Verdicts.{three, suc_largest, before_twice, before_units, twice_units, normal_units, subnormal_units, after_subnormal, overflows_reads, tiny_reads}
use Rattle.ieee.proofs.Raised.{Same, differs_reads}
use Rattle.ieee.proofs.Locations.{quarters}

-- x and y lie on the same sides
pub record Level (f : Format) (x y : Exact) : Type 0 where
  pub at_number : (j : ℕ) → j ≤ inf f → Beside x y (2 * units f j)
  pub at_middle : (j : ℕ) → j < inf f → Beside x y (middle f j)
  -- between the largest subnormal number and the least normal one
  pub at_quarters : Beside (magnified x 2) (magnified y 2) (quarters f (2 ^ f.frac - 1))

both : {A B C D : Type 0} → A ↔ C → B ↔ D → (A × B) ↔ (C × D)
both e h = (λ p. (e.0 p.0, h.0 p.1), λ p. (e.1 p.0, h.1 p.1))

neither : {A B : Type 0} → A ↔ B → (A → ⊥) ↔ (B → ⊥)
neither e = (λ n b. n (e.1 b), λ n a. n (e.0 a))

-- whether a number is reached depends on three thresholds
reaches_alike : (f : Format) (w : Way) (x y : Exact) (j : ℕ) → Beside x y (2 * units f j) → Beside x y (middle f j) → Beside x y (2 * units f (suc j)) → Reaches f w x j ↔ Reaches f w y j
reaches_alike f even x y j a b c = (λ r. (b.above.0 r.0, λ u. r.1 (b.below.1 u)), λ r. (b.above.1 r.0, λ u. r.1 (b.below.0 u)))
reaches_alike f away x y j a b c = b.above
reaches_alike f shorter x y j a b c = c.above
reaches_alike f longer x y j a b c = neither a.below

-- twice the values, at twice the threshold
twice : (x y : Exact) (s : ℕ) → Beside x y s → Beside (magnified x 2) (magnified y 2) (s * 2)
twice x y s b =
    let (ox, ux) = magnified_beside x s 2 (omega arith) in
    let (oy, uy) = magnified_beside y s 2 (omega arith) in
    record { above = (λ o. oy.1 (b.above.0 (ox.0 o)), λ o. ox.1 (b.above.1 (oy.0 o))); below = (λ u. uy.1 (b.below.0 (ux.0 u)), λ u. ux.1 (b.below.1 (uy.0 u))) }

module _ (f : Format) (g : Fair f) (w : Way) (x y : Exact) (s : Sound x) (t : Sound y) (l : Level f x y) where
  abbrev h : ℕ
  h = 2 ^ f.frac

  beside_threshold : (w : Way) (j : ℕ) → j < inf f → Beside x y (threshold f w j)
  beside_threshold even j k = l.at_middle j k
  beside_threshold away j k = l.at_middle j k
  beside_threshold shorter j k = l.at_number (suc j) k
  beside_threshold longer j k = l.at_number j (omega arith)

  same_rounding : rounded f w x ≡ rounded f w y
  same_rounding = same_side f w x y (beside_threshold w)

  top_alike : Reaches f w x (largest f) ↔ Reaches f w y (largest f)
  top_alike =
      let e = suc_largest f g in
      reaches_alike f w x y (largest f) (l.at_number (largest f) (omega arith)) (l.at_middle (largest f) (omega arith)) (l.at_number (suc (largest f)) (omega arith))

  -- the three thresholds about twice the least normal number
  least_alike : Reaches f w (magnified x 2) (before_twice f g) ↔ Reaches f w (magnified y 2) (before_twice f g)
  least_alike =
      let p = pow_pos f.frac in
      let b : middle f (h - 1) * 2 ≡ 2 * units f (before_twice f g) = omega (arith, before_units f g, subnormal_units f g, after_subnormal f g) in
      let q : quarters f (h - 1) ≡ middle f (before_twice f g) = omega (arith, before_units f g, twice_units f g, subnormal_units f g, after_subnormal f g) in
      let n : 2 * units f h * 2 ≡ 2 * units f (suc (before_twice f g)) = omega (arith, twice_units f g, normal_units f g) in
      let m = three f g in
      reaches_alike f w (magnified x 2) (magnified y 2) (before_twice f g)
      (subst (Beside (magnified x 2) (magnified y 2)) b (twice x y (middle f (h - 1)) (l.at_middle (h - 1) (omega arith))))
      (subst (Beside (magnified x 2) (magnified y 2)) q l.at_quarters)
      (subst (Beside (magnified x 2) (magnified y 2)) n (twice x y (2 * units f h) (l.at_number h (omega arith))))

  zero_alike : Under x 0 ↔ Under y 0
  zero_alike = let e : 2 * units f 0 ≡ 0 = omega (arith, units_zero f) in subst (λ c. Under x c ↔ Under y c) e (l.at_number 0 (omega arith)).below

  same_alike : (m : ℕ) → Same f x m ↔ Same f y m
  same_alike m = (
    λ e. let b = l.at_number m (omega (arith, e.finite)) in record { finite = e.finite; low = b.above.0 e.low; high = b.below.0 e.high },
    λ e. let b = l.at_number m (omega (arith, e.finite)) in record { finite = e.finite; low = b.above.1 e.low; high = b.below.1 e.high },
  )

  pub flags_alike : raised_by f w x ≡ raised_by f w y
  unfolding raised_by
  flags_alike =
      let o = alike (overflows_reads f g 1 (omega arith) w x s) (overflows_reads f g 1 (omega arith) w y t) top_alike in
      let i = alike (differs_reads f w x) (differs_reads f w y) (neither (subst (λ m. Same f x (rounded f w x) ↔ Same f y m) same_rounding (same_alike (rounded f w x)))) in
      let u = alike (tiny_reads f g 1 (omega arith) w x s) (tiny_reads f g 1 (omega arith) w y t) (both (neither zero_alike) (neither least_alike)) in
      (λ j. judged (o j) (u j) (i j))
