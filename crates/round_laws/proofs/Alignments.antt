-- How a normalised significand is aligned to the format, by its exponent: four cases. Assumes nothing.
use Prim.Native.Nat.{ℕ, suc, ◌+◌, ◌-◌, ◌*◌, ◌/◌, ◌%◌, ◌^◌, ◌≤◌, ◌<◌}
use mathlib.Core.Path.{◌≡◌, refl, sym, ap, ◌∙◌}
use mathlib.Core.Bool.{true, false}
use native.Mathlib.Omega.{arith}
use lib.Pow.{pow-add, pow_pos, pow_mono}
use lib.IntN.{ℤ, pos, ◌+ℤ◌, ◌-ℤ◌}
use lib.Signed.{mag}
use lib.Count.{count_leading_zeros}
use Rattle.algebra.proofs.Products.{times_le, mul_lt_cancel}
use Rattle.algebra.proofs.Quotients.{div_mod}
use Rattle.algebra.proofs.Integers.{up, dn, add_z, sub_z, eq_z_fact, mag_z_fact}
use Rattle.algebra.proofs.Leading.{leading_fills}
use Rattle.ieee.specs.Format.{Format, inf}
use Rattle.round_laws.specs.Location.{below, location, high, beyond, inside_at, part, high_part, stretched}
use Rattle.fmt_fields.specs.Width.{format, Fits}
use Rattle.round_laws.specs.Aligned.{filled_at, Stands}
use Rattle.round_laws.proofs.Parts.{all_gone}
use Rattle.round_laws.proofs.Locations.{Lies, quotient_low, locate_normal, locate_subnormal, locate_over}
use Rattle.round_laws.proofs.Insides.{field_inside, last_outside, low_outside}
use Rattle.round_laws.proofs.Stretched.{stretched_same, same_lies}
use Rattle.fmt_fields.proofs.Widths.{four_fields, fills_least, fills_most, kept_small}

-- ---- normalised: u times 2 ^ n is s times 2 ^ (at - 2 ^ 21), and s fills its word
pub record Filled (u : ℕ) (n : ℤ) (s at : ℕ) : Type 0 where
  pub zeros : ℕ
  pub moved : u * 2 ^ zeros ≡ s
  pub least : 2 ^ 63 ≤ s
  pub most : s < 2 ^ 64
  pub level : at + dn n + zeros ≡ up n + 2 ^ 21
  pub small : at < 2 ^ 22

pub filled : (u : ℕ) (n : ℤ) (s at : ℕ) → 0 < u → u < 2 ^ 64 → mag n ≤ 2 ^ 20
    → s ≡ u * 2 ^ count_leading_zeros 64 u → pos at ≡ n -ℤ pos (count_leading_zeros 64 u) +ℤ pos (2 ^ 21) → Filled u n s at
filled u n s at p l m e q =
    let z = count_leading_zeros 64 u in
    let f = leading_fills 64 u p l in
    let r = mag_z_fact n {h = 2 ^ 20 + 1} (omega arith) in
    let (a, b) = eq_z_fact q in
    let h : at + dn n + z ≡ up n + 2 ^ 21 = omega (arith, a, b, sub_z n (pos z), add_z (n -ℤ pos z) (pos (2 ^ 21))) in
    record { zeros = z; moved = sym e; least = omega (arith, f.least); most = omega (arith, f.most); level = h; small = omega arith }

-- both have the same neighbour and location
pub filled_lies : (f : Format) {u s at : ℕ} {n : ℤ} → Filled u n s at → Lies f (stretched u n) (below f (filled_at s at)) (location f (filled_at s at)) (high f (filled_at s at)) (beyond f (filled_at s at))
filled_lies f {u} {s} {at} {n} i =
    same_lies f (stretched u n) (filled_at s at) (stretched_same u i.zeros s n i.moved (at - 2 ^ 21) (2 ^ 21 - at) (omega (arith, i.level))) (refl, refl, refl, refl)

-- ---- the four cases
module _ {p e : ℕ} (w : Fits p e) (s at : ℕ) (l : 2 ^ 63 ≤ s) (m : s < 2 ^ 64) where
  low_lies : (k : ℕ) → at + k ≡ 2 ^ 21 → 63 - p ≤ k → Lies (format p e) (filled_at s at) (s / 2 ^ k) (part (s % 2 ^ k) (2 ^ k)) (high_part (s % 2 ^ k) (2 ^ k)) false
  low_lies k h q =
      locate_subnormal (format p e) w.fair s (at - 2 ^ 21) (2 ^ 21 - at) k
      (omega (arith, fills_most w s m, pow_mono {i = 63 - p + suc p} {j = k + suc p} (omega arith))) (omega arith)

  pub stands_low : at + (63 - p) < 2 ^ 21 → 2 ^ 21 ≤ at + 64 → Stands p e s at s 0 (2 ^ 21 - at)
  stands_low h q =
      let k = 2 ^ 21 - at in
      let (a, b, c, d) = low_lies k (omega arith) (omega arith) in
      record {
        lower = omega (arith, a);
        part_is = sym b;
        high_is = sym c;
        beyond_is = sym d;
        fields = omega (arith, four_fields w);
        least = omega arith;
        most = omega arith;
        kept = kept_small w s k m (omega arith);
      }

  -- all of it is less than half a unit, as one bit is
  pub stands_nothing : at + 64 < 2 ^ 21 → Stands p e s at 1 0 64
  stands_nothing h =
      let k = 2 ^ 21 - at in
      let (a, b, c, d) = low_lies k (omega arith) (omega arith) in
      let (q, r, h) = all_gone s k (omega arith) (omega (arith, pow_mono {i = 65} {j = k} (omega arith))) in
      record {
        lower = omega (arith, a, q);
        part_is = sym (b ∙ r);
        high_is = sym (c ∙ h);
        beyond_is = sym d;
        fields = omega (arith, four_fields w);
        least = omega arith;
        most = omega arith;
        kept = omega (arith, pow_pos p);
      }

  pub stands_normal : (c : ℕ) → at + (63 - p) ≡ c + 2 ^ 21 → c + 3 ≤ 2 ^ e → Stands p e s at s c (63 - p)
  stands_normal c h q =
      let (a, b, i, j) =
      locate_normal (format p e) w.fair (63 - p) s (at - 2 ^ 21) (2 ^ 21 - at) c (fills_least w s l) (fills_most w s m) (omega arith) (omega arith) in
      record {
        lower = sym a;
        part_is = sym b;
        high_is = sym i;
        beyond_is = sym j;
        fields = omega arith;
        least = omega (arith, w.word, w.fair.expo_two);
        most = omega arith;
        kept = kept_small w s (63 - p) m (omega arith);
      }

  -- past the largest finite number
  pub lies_over : (c : ℕ) → at + (63 - p) ≡ c + 2 ^ 21 → 2 ^ e < c + 3 → Lies (format p e) (filled_at s at) (inf (format p e) - 1) 3 true true
  lies_over c h q = locate_over (format p e) w.fair (63 - p) s (at - 2 ^ 21) (2 ^ 21 - at) c (fills_least w s l) (omega arith) (omega (arith, four_fields w))

  -- ---- and where each of them stands in the range
  full : 2 ^ p ≤ s / 2 ^ (63 - p)
  full = quotient_low (format p e) w.fair (63 - p) s (fills_least w s l)

  pub normal_inside : (c : ℕ) → c + 4 ≤ 2 ^ e → true ≡ inside_at (format p e) (c * 2 ^ p + s / 2 ^ (63 - p))
  normal_inside c k = field_inside (format p e) c (s / 2 ^ (63 - p)) full (kept_small w s (63 - p) m (omega arith)) k

  pub last_field_outside : (c : ℕ) → c + 3 ≡ 2 ^ e → false ≡ inside_at (format p e) (c * 2 ^ p + s / 2 ^ (63 - p))
  last_field_outside c k = last_outside (format p e) c (s / 2 ^ (63 - p)) full k

  pub subnormal_outside : (k : ℕ) → 64 - p ≤ k → false ≡ inside_at (format p e) (0 * 2 ^ p + s / 2 ^ k)
  subnormal_outside k h =
      let (d, r) = div_mod s (2 ^ k) (pow_pos k) in
      let i : 64 - p + p ≡ 64 = omega (arith, w.word) in
      let whole : 2 ^ (64 - p) * 2 ^ p ≡ 2 ^ 64 = sym (pow-add 2 (64 - p) p) ∙ ap (λ j. 2 ^ j) i in
      let few : s / 2 ^ k < 2 ^ p = mul_lt_cancel (s / 2 ^ k) (2 ^ p) (2 ^ k) (omega (arith, whole, times_le (2 ^ p) (pow_mono {i = 64 - p} {j = k} h))) in
      low_outside (format p e) (0 * 2 ^ p + s / 2 ^ k) (omega (arith, few))
