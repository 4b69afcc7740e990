-- A value that the format holds is its own rounding, whatever the way. Assumes nothing.
use Prim.Native.Nat.{ℕ, zero, suc, ◌*◌, ◌≤◌, ◌<◌}
use mathlib.Core.Path.{◌≡◌, ap, ◌∙◌}
use native.Mathlib.Omega.{arith}
use Rattle.algebra.proofs.Products.{cross}
use Rattle.ieee.specs.Format.{Format, inf, units}
use Rattle.ieee.specs.Exact.{ratio, Over, Under}
use Rattle.ieee.specs.Round.{Way, even, away, shorter, longer, rounded, middle}
use Rattle.ieee.proofs.Units.{units_rise}
use Rattle.ieee.proofs.Sides.{over_not_under}
use Rattle.ieee.proofs.Past.{Passes, Past, rounded_is}

-- the magnitudes that a way can give: toward zero never gives infinity
abbrev pub Reach : Format → Way → ℕ → Type 0
Reach f even m = m ≤ inf f
Reach f away m = m ≤ inf f
Reach f shorter m = m < inf f
Reach f longer m = m ≤ inf f

-- a number is below the middle to the next, and the next above it
below_middle : (f : Format) (j d : ℕ) → 0 < d → Over (ratio (units f j * d) d) (middle f j) → ⊥
below_middle f j d p h = omega (arith, units_rise f j, cross (units_rise f j) p)

above_middle : (f : Format) (j d : ℕ) → 0 < d → Under (ratio (units f (suc j) * d) d) (middle f j) → ⊥
above_middle f j d p h = omega (arith, units_rise f j, cross (units_rise f j) p)

passes_own : (f : Format) (w : Way) (j d : ℕ) → 0 < d → Reach f w (suc j) → Passes f w (ratio (units f (suc j) * d) d) j
passes_own f even j d p r = (over_not_under (ratio (units f (suc j) * d) d) (middle f j) (above_middle f j d p), λ u. absurd (above_middle f j d p u))
passes_own f away j d p r = over_not_under (ratio (units f (suc j) * d) d) (middle f j) (above_middle f j d p)
passes_own f shorter j d p r = (omega arith, omega arith)
passes_own f longer j d p r = λ u. omega (arith, units_rise f j, cross (units_rise f j) p)

passes_no_more : (f : Format) (w : Way) (m d : ℕ) → 0 < d → Passes f w (ratio (units f m * d) d) m → ⊥
passes_no_more f even m d p h = below_middle f m d p h.0
passes_no_more f away m d p h = below_middle f m d p h
passes_no_more f shorter m d p h = omega (arith, units_rise f m, cross (units_rise f m) p)
passes_no_more f longer m d p h = h (omega arith)

reach_le : (f : Format) (w : Way) (m : ℕ) → Reach f w m → m ≤ inf f
reach_le f even m r = r
reach_le f away m r = r
reach_le f shorter m r = omega arith
reach_le f longer m r = r

pub below_reach : (f : Format) (w : Way) (m : ℕ) → m < inf f → Reach f w m
below_reach f even m l = omega arith
below_reach f away m l = omega arith
below_reach f shorter m l = l
below_reach f longer m l = omega arith

pub fixed : (f : Format) (w : Way) (m d : ℕ) → 0 < d → Reach f w m → rounded f w (ratio (units f m * d) d) ≡ m
fixed f w m d p r = rounded_is f w (ratio (units f m * d) d) p m (own m r) (λ h. passes_no_more f w m d p h.1)
  where
    own : (m : ℕ) → Reach f w m → Past f w (ratio (units f m * d) d) m
    own zero r = tt
    own (suc j) r = (reach_le f w (suc j) r, passes_own f w j d p r)

pub fixed_whole : (f : Format) (w : Way) (m : ℕ) → Reach f w m → rounded f w (ratio (units f m) 1) ≡ m
fixed_whole f w m r = ap (λ n. rounded f w (ratio n 1)) (omega arith) ∙ fixed f w m 1 (omega arith) r
