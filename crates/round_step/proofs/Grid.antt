-- From 2 ^ (frac + c) on, every number and every middle is a multiple of 2 ^ c, the grid, so values that compare alike with the grid round alike. Assumes nothing.
use Prim.Native.Nat.{ℕ, zero, suc, ◌+◌, ◌-◌, ◌*◌, ◌/◌, ◌%◌, ◌^◌, ◌≤◌, ◌<◌}
use mathlib.Core.Path.{◌≡◌, sym, ap, ◌∙◌, subst}
use native.Mathlib.Omega.{arith, by_contra}
use lib.Pow.{pow-add, pow_pos}
use Rattle.algebra.proofs.Products.{order, times, times_le}
use Rattle.algebra.proofs.Powers.{pow_diff}
use Rattle.algebra.proofs.Quotients.{div_mod}
use Rattle.ieee.specs.Format.{Format, units, fields}
use Rattle.ieee.specs.Exact.{Exact, Over}
use Rattle.ieee.specs.Round.{Way, even, away, shorter, longer, middle, rounded}
use Rattle.ieee.proofs.Sides.{Sound, over_down, apart}
use Rattle.ieee.proofs.Units.{units_is, units_at_lem, units_mono, units_lt}
use Rattle.ieee.proofs.Alike.{Beside, threshold, same_side}

abbrev pub Multiple : ℕ → ℕ → Type 0
Multiple p n = (k : ℕ) × (n ≡ k * p)

-- the magnitude of 2 ^ (frac + c)
abbrev pub start : Format → ℕ → ℕ
start f c = suc c * 2 ^ f.frac

module _ (f : Format) (c : ℕ) where
  pub start_units : units f (start f c) ≡ 2 ^ (f.frac + c)
  start_units = ap (units f) (omega arith) ∙ units_at_lem f (suc c) 0 (pow_pos f.frac) ∙ omega (arith, pow-add 2 f.frac c)

  -- from there on, magnitudes lie on the grid
  fields_multiple : (q r : ℕ) → suc c ≤ q → Multiple (2 ^ c) (fields (2 ^ f.frac) q r)
  fields_multiple zero r l = absurd (omega arith)
  fields_multiple (suc e) r l =
      let d : 2 ^ (e - c) * 2 ^ c ≡ 2 ^ e = pow_diff (omega arith) in
      ((2 ^ f.frac + r) * 2 ^ (e - c), omega (arith, times (2 ^ f.frac + r) d))

  units_multiple : (j : ℕ) → start f c ≤ j → Multiple (2 ^ c) (units f j)
  units_multiple j l =
      let d = div_mod j (2 ^ f.frac) (pow_pos f.frac) in
      let q : suc c ≤ j / 2 ^ f.frac = by_contra (suc c) (j / 2 ^ f.frac) (λ h. omega (arith, d, times_le (2 ^ f.frac) h)) in
      let (k, e) = fields_multiple (j / 2 ^ f.frac) (j % 2 ^ f.frac) q in
      (k, units_is f j ∙ e)

  -- so twice a magnitude lies on the grid or below twice its start, and so does a sum of neighbours
  pub twice_grid : (j : ℕ) {G : Type 0} → (Multiple (2 ^ c) (2 * units f j) → G) → (2 * units f j < 2 * units f (start f c) → G) → G
  twice_grid j on off = order (start f c) j (λ l. on (let (k, e) = units_multiple j l in (2 * k, omega arith))) (λ l. off (omega (arith, units_lt f l)))

  pub middle_grid : (j : ℕ) {G : Type 0} → (Multiple (2 ^ c) (middle f j) → G) → (middle f j < 2 * units f (start f c) → G) → G
  middle_grid j on off =
      order (start f c) j
      (λ l. let (k, e) = units_multiple j l in let (i, d) = units_multiple (suc j) (omega arith) in on (k + i, omega arith))
      (λ l. off (omega (arith, units_lt f l, units_mono f l)))

  location_grid : (w : Way) (j : ℕ) {G : Type 0} → (Multiple (2 ^ c) (threshold f w j) → G) → (threshold f w j < 2 * units f (start f c) → G) → G
  location_grid even j on off = middle_grid j on off
  location_grid away j on off = middle_grid j on off
  location_grid shorter j on off = twice_grid (suc j) on off
  location_grid longer j on off = twice_grid j on off

-- two values past s compare alike with anything below s
pub beside_below : (x y : Exact) → Sound x → Sound y → {s t : ℕ} → s < t → Over x t → Over y t → Beside x y s
beside_below x y p q l o v =
    record {
      above = (λ h. over_down y (omega arith) v, λ h. over_down x (omega arith) o);
      below = (λ h. absurd (apart x p l h o), λ h. absurd (apart y q l h v));
    }

-- at c = 0 the grid alone decides; for larger c, x and y must be at or past its start
pub alike_on_grid : (f : Format) (w : Way) (c : ℕ) (x y : Exact) → Sound x → Sound y
    → (0 < c → Over x (2 * 2 ^ (f.frac + c)) × Over y (2 * 2 ^ (f.frac + c))) → ((k : ℕ) → Beside x y (k * 2 ^ c)) → rounded f w x ≡ rounded f w y
alike_on_grid f w zero x y p q o b = same_side f w x y (λ j l. subst (Beside x y) (omega arith) (b (threshold f w j)))
alike_on_grid f w (suc c) x y p q o b =
    let (past-x, past-y) = o (omega arith) in
    same_side f w x y (λ j l. location_grid f (suc c) w j
    (λ m. subst (Beside x y) (sym m.1) (b m.0))
    (λ h. beside_below x y p q (omega (arith, start_units f (suc c))) past-x past-y))
