-- A greater value has no smaller rounding. Assumes nothing.
use Prim.Native.Nat.{ℕ, suc, ◌*◌, ◌≤◌, ◌<◌}
use mathlib.Core.Path.{◌≡◌}
use native.Mathlib.Omega.{arith, both_ways, by_contra}
use Rattle.algebra.proofs.Products.{times_le, mul_le_cancel}
use Rattle.ieee.specs.Format.{Format}
use Rattle.ieee.specs.Exact.{Exact, ratio, root, Over, Under}
use Rattle.ieee.specs.Round.{Way, even, away, shorter, longer, rounded}
use Rattle.ieee.proofs.Sides.{Sound}
use Rattle.ieee.proofs.Past.{Passes, past_down, rounded_past, rounded_not_past}

-- x ≤ y, by whole numbers: y is past whatever x is past; x is before whatever y is before
pub record AtMost (x y : Exact) : Type 0 where
  pub ups : (s : ℕ) → Over x s → Over y s
  pub downs : (s : ℕ) → Under y s → Under x s

passes_up : (f : Format) (w : Way) (x y : Exact) → AtMost x y → (j : ℕ) → Passes f w x j → Passes f w y j
passes_up f even x y a j p = (a.ups _ p.0, λ u. p.1 (a.downs _ u))
passes_up f away x y a j p = a.ups _ p
passes_up f shorter x y a j p = (a.ups _ p.0, p.1)
passes_up f longer x y a j p = λ u. p (a.downs _ u)

pub rises : (f : Format) (w : Way) (x y : Exact) → Sound x → AtMost x y → rounded f w x ≤ rounded f w y
rises f w x y s a =
    by_contra (rounded f w x) (rounded f w y) (λ l.
    let p = past_down f w x s (suc (rounded f w y)) (rounded f w x) l (rounded_past f w x) in
    rounded_not_past f w y (p.0, passes_up f w x y a (rounded f w y) p.1))

-- ---- ratios and roots are ordered as their numbers are
pub ratio_at_most : (n d k e : ℕ) → 0 < d → 0 < e → n * e ≤ k * d → AtMost (ratio n d) (ratio k e)
ratio_at_most n d k e p q h =
    record {
      ups = λ s o. mul_le_cancel (s * e) (2 * k) d p (omega (arith, times_le e o));
      downs = λ s u. mul_le_cancel (2 * n) (s * d) e q (omega (arith, times_le d u));
    }

pub root_at_most : (n k : ℕ) → n ≤ k → AtMost (root n) (root k)
root_at_most n k h = record { ups = λ s o. omega arith; downs = λ s u. omega arith }

pub ratio_rises : (f : Format) (w : Way) (n d k e : ℕ) → 0 < d → 0 < e → n * e ≤ k * d → rounded f w (ratio n d) ≤ rounded f w (ratio k e)
ratio_rises f w n d k e p q h = rises f w (ratio n d) (ratio k e) p (ratio_at_most n d k e p q h)

-- so equal ratios round alike
pub ratio_same : (f : Format) (w : Way) (n d k e : ℕ) → 0 < d → 0 < e → n * e ≡ k * d → rounded f w (ratio n d) ≡ rounded f w (ratio k e)
ratio_same f w n d k e p q h =
    both_ways (rounded f w (ratio n d)) (rounded f w (ratio k e)) (ratio_rises f w n d k e p q (omega arith)) (ratio_rises f w k e n d q p (omega arith))

pub root_rises : (f : Format) (w : Way) (n k : ℕ) → n ≤ k → rounded f w (root n) ≤ rounded f w (root k)
root_rises f w n k h = rises f w (root n) (root k) tt (root_at_most n k h)
