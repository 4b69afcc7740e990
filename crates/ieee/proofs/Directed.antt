-- The directed ways meet their rules, and nothing else does. Assumes nothing.
use Prim.Native.Nat.{ℕ, zero, suc, ◌*◌, ◌≤◌, ◌<◌}
use mathlib.Core.Path.{◌≡◌, sym, subst}
use native.Mathlib.Omega.{arith, both_ways, by_contra}
use Rattle.algebra.proofs.Products.{order}
use Rattle.ieee.specs.Format.{Format, inf, units}
use Rattle.ieee.specs.Exact.{Exact, Over, Under}
use Rattle.ieee.specs.Round.{shorter, longer, rounded}
use Rattle.ieee.specs.Rule.{Toward, Outward}
use Rattle.ieee.proofs.Units.{units_mono, units_zero}
use Rattle.ieee.proofs.Decide.{split}
use Rattle.ieee.proofs.Sides.{Sound, over_zero, under_reads, under_up}
use Rattle.ieee.proofs.Past.{Past, past_down, rounded_past, rounded_not_past, rounded_le}

module _ (f : Format) (l : 0 < inf f) (x : Exact) (s : Sound x) where
  shorter_at : (m : ℕ) → Past f shorter x m → (m < inf f) × Over x (2 * units f m)
  shorter_at zero p = (l, subst (λ u. Over x (2 * u)) (sym (units_zero f)) (over_zero x))
  shorter_at (suc j) p = (omega arith, p.1.0)

  past_shorter : (m : ℕ) → m < inf f → Over x (2 * units f m) → Past f shorter x m
  past_shorter zero h o = tt
  past_shorter (suc j) h o = (omega arith, (o, omega arith))

  pub rounded_toward : Toward f x (rounded f shorter x)
  rounded_toward =
      let m = rounded f shorter x in
      let p = shorter_at m (rounded_past f shorter x) in
      record {
        finite = p.0;
        low = p.1;
        most = λ k h o. by_contra k m (λ q. rounded_not_past f shorter x (past_down f shorter x s (suc m) k q (past_shorter k h o)));
      }

  pub toward_rounded : (m : ℕ) → Toward f x m → rounded f shorter x ≡ m
  toward_rounded m t =
      let r = rounded_toward in
      both_ways (rounded f shorter x) m (t.most (rounded f shorter x) r.finite r.low) (r.most m t.finite t.low)

  longer_past : (m k : ℕ) → Past f longer x m → Under x (2 * units f k) → m ≤ k
  longer_past zero k p u = omega arith
  longer_past (suc j) k p u = by_contra (suc j) k (λ q. p.1 (under_up x (omega (arith, units_mono f {i = k} {j = j} (omega arith))) u))

  pub rounded_outward : Outward f x (rounded f longer x)
  rounded_outward =
      let m = rounded f longer x in
      record {
        within = rounded_le f longer x;
        high = λ h. split (under_reads x (2 * units f m)) (λ u. u) (λ n. absurd (rounded_not_past f longer x (h, n)));
        least = λ k h u. longer_past m k (rounded_past f longer x) u;
      }

  pub outward_rounded : (m : ℕ) → Outward f x m → rounded f longer x ≡ m
  outward_rounded m t =
      both_ways (rounded f longer x) m
      (order (inf f) m (λ h. omega (arith, rounded_le f longer x)) (λ h. longer_past (rounded f longer x) m (rounded_past f longer x) (t.high h)))
      (order (inf f) (rounded f longer x) (λ h. omega (arith, t.within)) (λ h. t.least (rounded f longer x) h (rounded_outward.high h)))
