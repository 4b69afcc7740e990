-- The lower neighbour and the location decide every flag, for every way. Assumes nothing.
use Prim.Native.Nat.{ℕ, suc, ◌*◌}
use mathlib.Core.Path.{◌≡◌, refl, sym, ◌∙◌}
use mathlib.Core.Bool.{Bool, true, false, not, ◌&&◌, ◌||◌, cond}
use lib.Dec.{leb, ltb, eqb}
use Rattle.ieee.specs.Format.{Format, Fair, units}
use Rattle.ieee.specs.Exact.{Exact, over, under, magnified}
use Rattle.ieee.specs.Round.{Way, even, away, shorter, longer, middle}
use Rattle.ieee.specs.Flags.{raised_by, judged, largest, least_normal}
use Rattle.ieee.proofs.Decide.{alike}
use Rattle.ieee.proofs.Sides.{Sound, over_reads}
use Rattle.ieee.proofs.Locations.{quarters, location_from, location_is, over_from, normal_from, flags_by_location}
use Rattle.round_laws.specs.Location.{below, location, high, beyond, location_above, high_above, beyond_above}
use Rattle.round_laws.specs.Flags.{exceeds, rises, flags_by}
use Rattle.round_laws.proofs.Choices.{below_from, location_above_is, high_above_is, beyond_above_is}

-- six locations are four as far as these go
abbrev six : Bool → Bool → Bool → Bool → Bool → ℕ
six a b c d e = cond a 0 (cond b (cond c 2 (cond d 5 (cond e 4 3))) 1)

abbrev four : Bool → Bool → Bool → ℕ
four a b c = cond a 0 (cond b (cond c 2 3) 1)

from_four : (a b c d e : Bool) → (leb 1 (six a b c d e) ≡ leb 1 (four a b c)) × (leb 2 (six a b c d e) ≡ leb 2 (four a b c)) × (leb 3 (six a b c d e) ≡ leb 3 (four a b c))
from_four true b c d e = (refl, refl, refl)
from_four false false c d e = (refl, refl, refl)
from_four false true true d e = (refl, refl, refl)
from_four false true false true e = (refl, refl, refl)
from_four false true false false true = (refl, refl, refl)
from_four false true false false false = (refl, refl, refl)

module _ (f : Format) (g : Fair f) (x : Exact) (s : Sound x) where
  abbrev m : ℕ
  m = below f x

  abbrev p : ℕ
  p = location_from f m x

  thresholds : (leb 1 p ≡ leb 1 (location_above f m x)) × (leb 2 p ≡ leb 2 (location_above f m x)) × (leb 3 p ≡ leb 3 (location_above f m x))
  thresholds =
      from_four (under x (2 * units f m)) (over x (middle f m)) (under x (middle f m)) (over x (2 * units f (suc m))) (over (magnified x 2) (quarters f m))

  high_is : leb 4 p ≡ high_above f m x
  high_is = alike (location_is f m x s).four (over_reads (magnified x 2) (quarters f m)) (λ r. r, λ r. r)

  beyond_is : leb 5 p ≡ beyond_above f m x
  beyond_is = alike (location_is f m x s).five (over_reads x (2 * units f (suc m))) (λ r. r, λ r. r)

  exceeds_is : (w : Way) → leb (over_from w) p ≡ exceeds w (location_above f m x) (beyond_above f m x)
  exceeds_is even = thresholds.1
  exceeds_is away = thresholds.1
  exceeds_is shorter = beyond_is
  exceeds_is longer = thresholds.0

  rises_is : (w : Way) → leb (normal_from w) p ≡ rises w (location_above f m x) (high_above f m x) (beyond_above f m x)
  rises_is even = high_is
  rises_is away = high_is
  rises_is shorter = beyond_is
  rises_is longer = thresholds.2

  pub flags_by_lem : (w : Way) → raised_by f w x ≡ flags_by f w (below f x) (location f x) (high f x) (beyond f x)
  flags_by_lem w =
      let l = location_above_is f x m refl in
      let h = high_above_is f x m refl in
      let b = beyond_above_is f x m refl in
      flags_by_location f g w x s m p (below_from f g x) (location_is f m x s)
      ∙ (λ i. judged (eqb m (largest f) && exceeds_is w i) (ltb (suc m) (least_normal f) || (eqb (suc m) (least_normal f) && not (rises_is w i))) (thresholds.0 i))
      ∙ (λ i. flags_by f w m (sym l i) (sym h i) (sym b i))
