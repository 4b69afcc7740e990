-- A value truncated to a count of steps with a sticky mark rounds as the count does. Assumes nothing.
use Prim.Native.Nat.{ℕ, suc, ◌+◌, ◌-◌, ◌*◌, ◌%◌, ◌^◌, ◌≤◌, ◌<◌}
use mathlib.Core.Path.{◌≡◌, sym, ap, ◌∙◌, subst}
use mathlib.Core.Logic.{◌↔◌}
use native.Mathlib.Omega.{arith, by_contra}
use lib.Pow.{pow-add, pow_pos}
use lib.IntN.{ℤ}
use Rattle.algebra.proofs.Products.{order, times, times_le, mul_le_cancel, cross}
use Rattle.algebra.proofs.Integers.{up, dn}
use Rattle.ieee.specs.Format.{Format}
use Rattle.ieee.specs.Exact.{Exact, ratio, root, Over, Under, magnified}
use Rattle.ieee.specs.Round.{Way, rounded}
use Rattle.ieee.proofs.Sides.{Sound, over_down, under_up, apart, over_not_under, under_not_over}
use Rattle.ieee.proofs.Alike.{Beside}
use Rattle.round_laws.specs.Location.{stretched}
use Rattle.round_step.specs.Mark.{Marked}
use Rattle.round_laws.proofs.Stretched.{ratio_stretched}
use Rattle.round_step.proofs.Grid.{alike_on_grid}

-- ---- x times d compares with s times d as x does with s
magnified_sound : (x : Exact) (d : ℕ) → Sound x → Sound (magnified x d)
magnified_sound (ratio p q) d s = s
magnified_sound (root p) d s = tt

magnified_over : (x : Exact) (s d : ℕ) → 0 < d → Over x s ↔ Over (magnified x d) (s * d)
magnified_over (ratio p q) s d l = (λ o. omega (arith, times_le d o), λ o. mul_le_cancel (s * q) (2 * p) d l (omega arith))
magnified_over (root p) s d l = (λ o. omega (arith, times_le (d * d) o), λ o. mul_le_cancel (s * s) (4 * p) (d * d) (omega (arith, cross l l)) (omega arith))

magnified_under : (x : Exact) (s d : ℕ) → 0 < d → Under x s ↔ Under (magnified x d) (s * d)
magnified_under (ratio p q) s d l = (λ o. omega (arith, times_le d o), λ o. mul_le_cancel (2 * p) (s * q) d l (omega arith))
magnified_under (root p) s d l = (λ o. omega (arith, times_le (d * d) o), λ o. mul_le_cancel (4 * p) (s * s) (d * d) (omega (arith, cross l l)) (omega arith))

-- ---- x compares with an even count of steps as its mark does
module _ (x : Exact) (n s : ℕ) (p : Sound x) (l : 0 < n) (m : Marked x n s) where
  over_at_lem : (k : ℕ) → 2 * k ≤ s → Over x (2 * (2 * k * n))
  over_at_lem k h =
      order 1 (s % 2)
      (λ o. over_down x (omega (arith, times_le {a = 2 * k} {b = s - 1} n (omega arith))) (over_not_under x (2 * ((s - 1) * n)) (m.more (omega arith))))
      (λ o. over_down x (omega (arith, times_le n h)) (m.exact (omega arith)).0)

  over_le : (k : ℕ) → Over x (2 * (2 * k * n)) → 2 * k ≤ s
  over_le k o =
      by_contra (2 * k) s (λ h. order 1 (s % 2)
      (λ b. m.less (omega arith) (over_down x (omega (arith, times_le n h)) o))
      (λ b. apart x p (omega (arith, cross h l)) (m.exact (omega arith)).1 o))

  under_at : (k : ℕ) → s ≤ 2 * k → Under x (2 * (2 * k * n))
  under_at k h =
      order 1 (s % 2)
      (λ o. under_up x (omega (arith, times_le {a = suc s} {b = 2 * k} n (omega arith))) (under_not_over x (2 * (suc s * n)) (m.less (omega arith))))
      (λ o. under_up x (omega (arith, times_le n h)) (m.exact (omega arith)).1)

  under_le : (k : ℕ) → Under x (2 * (2 * k * n)) → s ≤ 2 * k
  under_le k u =
      by_contra s (2 * k) (λ h. order 1 (s % 2)
      (λ b. m.more (omega arith) (under_up x (omega (arith, times_le {a = 2 * k} {b = s - 1} n (omega arith))) u))
      (λ b. apart x p (omega (arith, cross h l)) u (m.exact (omega arith)).0))

-- ---- so, where the steps are small enough, x rounds as its mark does
module _ (x : Exact) (p : Sound x) (s a b : ℕ) (m : Marked (magnified x (2 ^ b)) (2 ^ a) s) where
  -- at a number t that is an even count of steps
  beside_even : (t k : ℕ) → t * 2 ^ b ≡ 2 * (2 * k * 2 ^ a) → Beside x (ratio (s * 2 ^ a) (2 ^ b)) t
  beside_even t k e =
      let X : Exact = magnified x (2 ^ b) in
      let P : Sound X = magnified_sound x (2 ^ b) p in
      let (o, o⁻) = magnified_over x t (2 ^ b) (pow_pos b) in
      let (u, u⁻) = magnified_under x t (2 ^ b) (pow_pos b) in
      record {
        above = (
          λ h. omega (arith, times_le (2 ^ a) (over_le X (2 ^ a) s P (pow_pos a) m k (subst (Over X) e (o h)))),
          λ h. o⁻ (subst (Over X) (sym e) (over_at_lem X (2 ^ a) s P (pow_pos a) m k (mul_le_cancel (2 * k) s (2 ^ a) (pow_pos a) (omega arith)))),
        );
        below = (
          λ h. omega (arith, times_le (2 ^ a) (under_le X (2 ^ a) s P (pow_pos a) m k (subst (Under X) e (u h)))),
          λ h. u⁻ (subst (Under X) (sym e) (under_at X (2 ^ a) s P (pow_pos a) m k (mul_le_cancel s (2 * k) (2 ^ a) (pow_pos a) (omega arith)))),
        );
      }

  -- so on the grid of steps 2 ^ c, each at least four steps of the mark
  pub beside_grid : (c : ℕ) → a + 2 ≤ b + c → (k : ℕ) → Beside x (ratio (s * 2 ^ a) (2 ^ b)) (k * 2 ^ c)
  beside_grid c l k =
      let e : ℕ = b + c - (a + 2) in
      let level : 2 ^ c * 2 ^ b ≡ 2 ^ (2 + (e + a)) = sym (pow-add 2 c b) ∙ ap (λ i. 2 ^ i) (omega arith) in
      beside_even (k * 2 ^ c) (k * 2 ^ e) (omega (arith, times k level, times k (pow-add 2 2 (e + a)), times k (pow-add 2 e a)))

  rounds_by : (f : Format) (w : Way) (c : ℕ) → a + 2 ≤ b + c → (0 < c → 2 ^ (f.frac + c) * 2 ^ b ≤ s * 2 ^ a) → rounded f w x ≡ rounded f w (ratio (s * 2 ^ a) (2 ^ b))
  rounds_by f w c l h = alike_on_grid f w c x (ratio (s * 2 ^ a) (2 ^ b)) p (pow_pos b) (λ z. (past z, omega (arith, h z))) (beside_grid c l)
    where
      start : 2 * 2 ^ f.frac * 2 ^ c ≡ 2 * 2 ^ (f.frac + c)
      start = omega (arith, pow-add 2 f.frac c)

      past : 0 < c → Over x (2 * 2 ^ (f.frac + c))
      past z = subst (Over x) start ((beside_grid c l (2 * 2 ^ f.frac)).above.1 (omega (arith, h z, times (2 ^ b) start)))

  -- x is s steps of 2 ^ a / 2 ^ b where s is even, and lies between s - 1 and s + 1 steps where s is odd. A rounding is decided by multiples of half a
  -- gap. If a gap has at least four steps, these are even counts of steps, and x and s steps lie on the same side of each. A gap has as many where
  -- a step is at most a quarter of the smallest unit, or where s has two bits more than the format keeps.
  pub sticky_ratio : (f : Format) (w : Way) → (b < a + 2 → 2 ^ (2 + f.frac) ≤ s) → rounded f w x ≡ rounded f w (ratio (s * 2 ^ a) (2 ^ b))
  sticky_ratio f w h =
      order (a + 2) b
      (λ l. rounds_by f w 0 (omega arith) (λ z. absurd (omega arith)))
      (λ l. let c : ℕ = a + 2 - b in
      let level : 2 ^ (f.frac + c) * 2 ^ b ≡ 2 ^ (2 + f.frac + a) = sym (pow-add 2 (f.frac + c) b) ∙ ap (λ i. 2 ^ i) (omega arith) in
      rounds_by f w c (omega arith) (λ z. omega (arith, level, pow-add 2 (2 + f.frac) a, times_le (2 ^ a) (h (omega arith)))))

-- the same, with the step written 2 ^ n
pub sticky : (f : Format) (w : Way) (x : Exact) → Sound x → (s a b : ℕ) (n : ℤ) → up n + b ≡ dn n + a
    → Marked (magnified x (2 ^ b)) (2 ^ a) s → (b < a + 2 → 2 ^ (2 + f.frac) ≤ s) → rounded f w x ≡ rounded f w (stretched s n)
sticky f w x p s a b n e m h = sticky_ratio x p s a b m f w h ∙ ratio_stretched f w s a b n e
