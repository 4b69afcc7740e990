-- The lower neighbour and the location decide the rounding, for every way. Assumes nothing.
use Prim.Native.Nat.{ℕ, zero, suc, ◌+◌, ◌*◌, ◌%◌, ◌≤◌, ◌<◌}
use mathlib.Core.Path.{◌≡◌, refl, sym, ap, ◌∙◌}
use mathlib.Core.Bool.{Bool, true, false, not, cond}
use native.Mathlib.Omega.{arith}
use lib.Dec.{leb, ltb, eqb}
use Rattle.ieee.specs.Format.{Format, Fair, inf, units}
use Rattle.ieee.specs.Exact.{Exact, Over, Under, over, under}
use Rattle.ieee.specs.Round.{Way, even, away, shorter, longer, passes, rounded, middle}
use Rattle.ieee.proofs.Decide.{Reads, so, not_so, is_true, is_false, alike, leb_reads}
use Rattle.ieee.proofs.Sides.{Sound, over_reads, under_reads, over_zero, apart}
use Rattle.ieee.proofs.Units.{units_rise, units_zero}
use Rattle.ieee.proofs.Past.{Past, passes_reads, rounded_is, rounded_past, rounded_not_past, rounded_le}
use Rattle.ieee.proofs.Rule.{inf_pos}
use Rattle.ieee.proofs.Local.{From, local}
use Rattle.round_laws.specs.Location.{below, location_above, location, high_above, beyond_above, high, beyond, chosen}
use Rattle.round_laws.proofs.Parts.{location_most}

-- a magnitude that is at most x, while the next is above x, is the lower neighbour
pub below_is : (f : Format) (x : Exact) → Sound x → (m : ℕ) → From f x m → below f x ≡ m
unfolding below
below_is f x s m b = rounded_is f shorter x s m (own m b.finite b.low) (λ p. b.high (strict p.0 p.1.1) p.1.0)
  where
    own : (m : ℕ) → m < inf f → Over x (2 * units f m) → Past f shorter x m
    own zero l o = tt
    own (suc j) l o = (omega arith, (o, omega arith))

    strict : suc m ≤ inf f → (suc m ≡ inf f → ⊥) → suc m < inf f
    strict l n = omega arith

-- the converse
pub below_from : (f : Format) → Fair f → (x : Exact) → From f x (below f x)
unfolding below
below_from f g x =
    let p = rounded_past f shorter x in
    record {
      finite = finite (rounded f shorter x) p (rounded_le f shorter x);
      low = low (rounded f shorter x) p;
      high = λ l o. rounded_not_past f shorter x (omega arith, (o, omega arith));
    }
  where
    finite : (m : ℕ) → Past f shorter x m → m ≤ inf f → m < inf f
    finite zero p l = inf_pos f g
    finite (suc j) p l = omega (arith, p.1.1)

    low : (m : ℕ) → Past f shorter x m → Over x (2 * units f m)
    low zero p = rw units_zero (over_zero x)
    low (suc j) p = p.1.0

pub below_finite : (f : Format) → Fair f → (x : Exact) → below f x < inf f
below_finite f g x = (below_from f g x).finite

pub location_above_is : (f : Format) (x : Exact) (m : ℕ) → below f x ≡ m → location f x ≡ location_above f m x
unfolding location
location_above_is f x m e = ap (λ n. location_above f n x) e

pub high_above_is : (f : Format) (x : Exact) (m : ℕ) → below f x ≡ m → high f x ≡ high_above f m x
unfolding high
high_above_is f x m e = ap (λ n. high_above f n x) e

pub beyond_above_is : (f : Format) (x : Exact) (m : ℕ) → below f x ≡ m → beyond f x ≡ beyond_above f m x
unfolding beyond
beyond_above_is f x m e = ap (λ n. beyond_above f n x) e

pub location_le : (f : Format) (x : Exact) → location f x ≤ 3
location_le f x =
    let m : ℕ = below f x in
    rw (location_above_is f x m refl) (location_most (under x (2 * units f m)) (over x (middle f m)) (under x (middle f m)))

-- a test that picks m or the next, as a sum
step : (m : ℕ) {s t : Bool} → s ≡ t → cond s (suc m) m ≡ m + cond t 1 0
step m {s} {t} e = ap (λ (b : Bool). cond b (suc m) m) e ∙ go t
  where
    go : (t : Bool) → cond t (suc m) m ≡ m + cond t 1 0
    go true = omega arith
    go false = omega arith

flip : (m : ℕ) (t : Bool) → m + cond (not t) 1 0 ≡ m + cond t 0 1
flip m true = refl
flip m false = refl

-- the location decides that test
module _ (f : Format) (x : Exact) (s : Sound x) (m : ℕ) (b : From f x m) where
  -- m is below the middle
  not_both : Under x (2 * units f m) → Over x (middle f m) → ⊥
  not_both u o = apart x s (omega (arith, units_rise f m)) u o

  even_by : {p q r : Bool} → Reads (Under x (2 * units f m)) p → Reads (Over x (middle f m)) q → Reads (Under x (middle f m)) r
      → passes f even x m ≡ ltb 2 (cond p 0 (cond q (cond r 2 3) 1) + m % 2)
  even_by (so u) o v = alike (passes_reads f even x m) (leb_reads 3 (0 + m % 2)) (λ h. absurd (not_both u h.0), λ h. absurd (omega arith))
  even_by (not_so n) (so o) (so u) = alike (passes_reads f even x m) (leb_reads 3 (2 + m % 2)) (λ h. omega (arith, h.1 u), λ h. (o, λ v. omega arith))
  even_by (not_so n) (so o) (not_so v) = alike (passes_reads f even x m) (leb_reads 3 (3 + m % 2)) (λ h. omega arith, λ h. (o, λ u. absurd (v u)))
  even_by (not_so n) (not_so o) v = alike (passes_reads f even x m) (leb_reads 3 (1 + m % 2)) (λ h. absurd (o h.0), λ h. absurd (omega arith))

  away_by : {p q r : Bool} → Reads (Under x (2 * units f m)) p → Reads (Over x (middle f m)) q → Reads (Under x (middle f m)) r
      → passes f away x m ≡ leb 2 (cond p 0 (cond q (cond r 2 3) 1))
  away_by (so u) o v = is_false (passes_reads f away x m) (not_both u)
  away_by (not_so n) (so o) (so u) = is_true (passes_reads f away x m) o
  away_by (not_so n) (so o) (not_so v) = is_true (passes_reads f away x m) o
  away_by (not_so n) (not_so o) v = is_false (passes_reads f away x m) o

  longer_by : {p q r : Bool} → Reads (Under x (2 * units f m)) p → Reads (Over x (middle f m)) q → Reads (Under x (middle f m)) r
      → passes f longer x m ≡ not (eqb (cond p 0 (cond q (cond r 2 3) 1)) 0)
  longer_by (so u) o v = is_false (passes_reads f longer x m) (λ h. h u)
  longer_by (not_so n) (so o) (so u) = is_true (passes_reads f longer x m) n
  longer_by (not_so n) (so o) (not_so v) = is_true (passes_reads f longer x m) n
  longer_by (not_so n) (not_so o) v = is_true (passes_reads f longer x m) n

  shorter_by : passes f shorter x m ≡ false
  shorter_by = is_false (passes_reads f shorter x m) (λ h. b.high (omega (arith, b.finite, h.1)) h.0)

  at_m : Reads (Under x (2 * units f m)) (under x (2 * units f m))
  at_m = under_reads x (2 * units f m)

  at_least : Reads (Over x (middle f m)) (over x (middle f m))
  at_least = over_reads x (middle f m)

  at_most : Reads (Under x (middle f m)) (under x (middle f m))
  at_most = under_reads x (middle f m)

  chosen_from : (w : Way) → cond (passes f w x m) (suc m) m ≡ chosen w m (location_above f m x)
  chosen_from even = step m (even_by at_m at_least at_most)
  chosen_from away = step m (away_by at_m at_least at_most)
  chosen_from shorter = ap (λ t. cond t (suc m) m) shorter_by
  chosen_from longer = step m (longer_by at_m at_least at_most) ∙ flip m (eqb (location_above f m x) 0)

pub choice_rounds : (f : Format) → Fair f → (w : Way) (x : Exact) → Sound x → rounded f w x ≡ chosen w (below f x) (location f x)
choice_rounds f g w x s =
    let b = below_from f g x in
    local f w x s (below f x) b ∙ chosen_from f x s (below f x) b w ∙ ap (chosen w (below f x)) (sym (location_above_is f x (below f x) refl))
