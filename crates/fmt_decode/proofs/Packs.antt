-- A significand and an exponent packed into a magnitude, over the format. Assumes nothing.
use Rattle.std.proofs.Common.{◌≡◌, ℕ, zero, suc, ◌+◌, ◌-◌, ◌*◌, ◌^◌, ◌<◌, ◌≤◌, sym, ap, ◌∙◌, arith, pow_pos, pow_mono, pow-add}
use native.Mathlib.Nat.{two-pow-succ}
use native.Mathlib.Omega.{by_contra}
use Rattle.algebra.proofs.Products.{order, times, times_le, mul_lt_cancel, mul_le_cancel}
use Rattle.algebra.proofs.Powers.{pow_diff}
use Rattle.algebra.proofs.Leading.{Fills}
use Rattle.ieee.specs.Format.{Format, inf, units}
use Rattle.ieee.specs.Round.{even, exactly}
use Rattle.ieee.proofs.Units.{units_at_lem, units_lt_inv}
use Rattle.ieee.proofs.Fixed.{fixed_whole, below_reach}
use Rattle.ieee.proofs.Held.{exact}
use Rattle.ieee.proofs.Patterns.{inf_below_top}
use Rattle.fmt_fields.specs.Width.{format, Fits}
use Rattle.fmt_fields.proofs.Widths.{extra_bits}

-- a significand over d exponent fields, where it has its implicit bit or d is 0
pub units_packed : (f : Format) (s d : ℕ) → s < 2 * 2 ^ f.frac → (0 < d → 2 ^ f.frac ≤ s) → units f (s + d * 2 ^ f.frac) ≡ s * 2 ^ d
units_packed f s d l h =
    order (2 ^ f.frac) s
    (λ b.
    let r : s - 2 ^ f.frac < 2 ^ f.frac = omega arith in
    let e : 2 ^ f.frac + (s - 2 ^ f.frac) ≡ s = omega arith in
    ap (units f) (omega arith) ∙ units_at_lem f (suc d) (s - 2 ^ f.frac) r ∙ ap (λ t. t * 2 ^ d) e)
    (λ b. low d h b)
  where
    low : (d : ℕ) → (0 < d → 2 ^ f.frac ≤ s) → s < 2 ^ f.frac → units f (s + d * 2 ^ f.frac) ≡ s * 2 ^ d
    low zero h b = ap (units f) (omega arith) ∙ units_at_lem f 0 s b ∙ omega arith
    low (suc d) h b = let k = h (omega arith) in absurd (omega arith)

-- ---- packed
-- the magnitude of a significand over d exponent fields stands for the units that it counts
pub exactly_packed : (f : Format) (s d u : ℕ) → s < 2 * 2 ^ f.frac → (0 < d → 2 ^ f.frac ≤ s) → s * 2 ^ d ≡ u → u < units f (inf f)
    → (s + d * 2 ^ f.frac ≡ exactly f u) × (s + d * 2 ^ f.frac < inf f)
exactly_packed f s d u l h e k =
    let m : ℕ = s + d * 2 ^ f.frac in
    let c : units f m ≡ u = units_packed f s d l h ∙ e in
    let b : m < inf f = units_lt_inv f m (inf f) (omega arith) in
    (sym (ap (exactly f) (sym c) ∙ fixed_whole f even m (below_reach f even m b)), b)

-- a significand with z leading zeros is shifted left by the zeros that exceed the format's, and its leading bit is then the implicit one
pub record Leads (p s z : ℕ) : Type 0 where
  pub least : 63 - p ≤ z
  pub filled : 2 ^ p ≤ s * 2 ^ (z - (63 - p))
  pub room : s * 2 ^ (z - (63 - p)) < 2 * 2 ^ p

pub leads : {p e : ℕ} → Fits p e → (s z : ℕ) → s < 2 ^ (p + 1) → Fills 64 s z → Leads p s z
leads {p} {e} w s z l h =
    record {
      least = enough;
      filled = mul_le_cancel (2 ^ p) (s * 2 ^ (z - (63 - p))) (2 ^ (63 - p)) (pow_pos (63 - p)) (omega (arith, extra_bits w, times s (pow_diff enough), h.least));
      room = mul_lt_cancel (s * 2 ^ (z - (63 - p))) (2 * 2 ^ p) (2 ^ (63 - p)) (omega (arith, extra_bits w, times s (pow_diff enough), h.most));
    }
  where
    enough : 63 - p ≤ z
    enough =
        by_contra (63 - p) z
        (λ b.
        let t : 2 ^ z * 2 ≤ 2 ^ (63 - p) = omega (arith, two-pow-succ z, pow_mono {i = suc z} {j = 63 - p} b) in
        omega (arith, h.least, extra_bits w, times_le s t, times_le {a = suc s} {b = 2 * 2 ^ p} (2 ^ (63 - p)) (omega (arith, pow-add 2 p 1)), pow_pos (63 - p)))

module _ {p e : ℕ} (w : Fits p e) (s up : ℕ) (fits : s * 2 ^ up < units (format p e) (inf (format p e))) where
  pub zero_packed : s ≡ 0 → 0 ≡ exactly (format p e) (s * 2 ^ up)
  zero_packed h = omega arith ∙ (exactly_packed (format p e) 0 0 (s * 2 ^ up) (omega (arith, pow_pos p)) (λ l. absurd (omega arith)) (omega (arith, times (2 ^ up) h)) fits).0

  word_room : 2 * 2 ^ p ≤ 2 ^ 63
  word_room = omega (arith, pow_mono {i = p} {j = 62} (omega (arith, w.word, w.fair.expo_two)))

  module _ (z : ℕ) (few : s < 2 ^ (p + 1)) (top : Fills 64 s z) where
    -- the longest shift: it makes the leading bit the implicit one
    abbrev most : ℕ
    most = z - (63 - p)

    led : Leads p s z
    led = leads w s z few top

    pub low_packed : up ≤ most → (s * 2 ^ up < 2 ^ 64) × (s * 2 ^ up ≡ exactly (format p e) (s * 2 ^ up))
    low_packed l =
        let t : s * 2 ^ up < 2 * 2 ^ p = omega (arith, led.room, times_le s (pow_mono {i = up} {j = most} l)) in
        (omega (arith, word_room), omega arith ∙ (exactly_packed (format p e) (s * 2 ^ up) 0 (s * 2 ^ up) t (λ l. absurd (omega arith)) (omega arith) fits).0)

    pub high_packed : most < up → (s * 2 ^ most < 2 ^ 64) × (s * 2 ^ most + (up - most) * 2 ^ p ≡ exactly (format p e) (s * 2 ^ up)) × (s * 2 ^ most + (up - most) * 2 ^ p < 2 ^ 63)
    high_packed l =
        let (q, b) = exactly_packed (format p e) (s * 2 ^ most) (up - most) (s * 2 ^ up) led.room (λ z. led.filled) (omega (arith, times s (pow_diff {a = up} {b = most} (omega arith)))) fits in
        (omega (arith, led.room, word_room), q, omega (arith, b, inf_below_top (format p e), pow_mono {i = p + e} {j = 63} w.word))

-- the packed magnitude is finite
pub exactly_below : (f : Format) (s up : ℕ) → s < 2 * 2 ^ f.frac → s * 2 ^ up < units f (inf f) → exactly f (s * 2 ^ up) < inf f
exactly_below f s up l h = units_lt_inv f (exactly f (s * 2 ^ up)) (inf f) (omega (arith, exact f even up s l h))
