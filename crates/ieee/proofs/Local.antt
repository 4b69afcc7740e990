-- Rounding decided by one threshold: x lies between m and the next, and the answer is one of the two. Assumes nothing.
use Prim.Native.Nat.{ℕ, zero, suc, ◌*◌, ◌<◌}
use mathlib.Core.Path.{◌≡◌}
use mathlib.Core.Bool.{Bool, cond}
use native.Mathlib.Omega.{arith}
use Rattle.ieee.specs.Format.{Format, inf, units}
use Rattle.ieee.specs.Exact.{Exact, Over}
use Rattle.ieee.specs.Round.{Way, even, away, shorter, longer, passes, rounded}
use Rattle.ieee.proofs.Units.{units_rise}
use Rattle.ieee.proofs.Decide.{Reads, so, not_so}
use Rattle.ieee.proofs.Sides.{Sound, over_down, apart, under_not_over}
use Rattle.ieee.proofs.Past.{Passes, Past, passes_reads, rounded_is}

-- x is at least m, a finite magnitude, and below the next, if that is finite too
pub record From (f : Format) (x : Exact) (m : ℕ) : Type 0 where
  pub finite : m < inf f
  pub low : Over x (2 * units f m)
  pub high : suc m < inf f → Over x (2 * units f (suc m)) → ⊥

-- x has passed the thresholds below
reached : (f : Format) (w : Way) (x : Exact) → Sound x → (j : ℕ) → suc j < inf f → Over x (2 * units f (suc j)) → Passes f w x j
reached f even x s j l o = (over_down x (omega (arith, units_rise f j)) o, λ u. absurd (apart x s (omega (arith, units_rise f j)) u o))
reached f away x s j l o = over_down x (omega (arith, units_rise f j)) o
reached f shorter x s j l o = (o, omega arith)
reached f longer x s j l o = λ u. apart x s (omega (arith, units_rise f j)) u o

-- and none above
not_yet : (f : Format) (w : Way) (x : Exact) (m : ℕ) → (Over x (2 * units f m) → ⊥) → Passes f w x m → ⊥
not_yet f even x m n p = n (over_down x (omega (arith, units_rise f m)) p.0)
not_yet f away x m n p = n (over_down x (omega (arith, units_rise f m)) p)
not_yet f shorter x m n p = n (over_down x (omega (arith, units_rise f m)) p.0)
not_yet f longer x m n p = p (under_not_over x (2 * units f m) n)

-- one test decides: whether x is past the threshold between m and the next
pub local : (f : Format) (w : Way) (x : Exact) → Sound x → (m : ℕ) → From f x m → rounded f w x ≡ cond (passes f w x m) (suc m) m
local f w x s m b = go (passes_reads f w x m)
  where
    past_m : (m : ℕ) → m < inf f → Over x (2 * units f m) → Past f w x m
    past_m zero l o = tt
    past_m (suc j) l o = (omega arith, reached f w x s j l o)

    go : {t : Bool} → Reads (Passes f w x m) t → rounded f w x ≡ cond t (suc m) m
    go (so p) = rounded_is f w x s (suc m) (b.finite, p) (λ h. not_yet f w x (suc m) (b.high h.0) h.1)
    go (not_so n) = rounded_is f w x s m (past_m m b.finite b.low) (λ h. n h.1)
