-- fmod by significands and exponents, over the format. Assumes nothing.
use Prim.Native.Nat.{ℕ, zero, suc, ◌+◌, ◌-◌, ◌*◌, ◌/◌, ◌%◌, ◌^◌, ◌≤◌, ◌<◌}
use mathlib.Core.Path.{◌≡◌, refl, sym, ap, ap₂, ◌∙◌}
use mathlib.Core.Bool.{Bool, true, false, ◌||◌, true≢false}
use native.Mathlib.Nat.{mod-lt}
use native.Mathlib.Omega.{arith, both_ways, by_contra}
use lib.Dec.{T, ltb}
use lib.IntN.{ℤ, pos, ◌-ℤ◌}
use lib.Signed.{le_z, mag}
use lib.Pow.{pow-add, pow_pos}
use borrow.Author.Tests.{ltb-true, ltb-false}
use Rattle.algebra.proofs.Integers.{up, dn, sub_z, eq_z_fact, le_z_of}
use Rattle.algebra.proofs.Products.{order, times, times_le}
use Rattle.algebra.proofs.Quotients.{div_mod, div_is}
use Rattle.algebra.proofs.Powers.{pow_diff}
use Rattle.ieee.specs.Format.{Format, top, low, inf, canonical, units}
use Rattle.ieee.specs.Pattern.{Pattern, minus, magnitude, field, signed, finite, kind}
use Rattle.ieee.specs.Round.{exactly}
use Rattle.ieee.specs.Fmod.{divide, left, fmod_of}
use Rattle.ieee.proofs.Fields.{magnitude_fields, fraction_small}
use Rattle.ieee.proofs.Units.{units_zero, units_lt}
use Rattle.ieee.proofs.Patterns.{inf_below_top, pattern_signed, kind_infinite, kind_finite}
use Rattle.ieee.proofs.Remainders.{fmod_rows}
use Rattle.fmt_fields.specs.Width.{format, Fits}
use Rattle.fmt_decode.specs.Significand.{significand, units_exp, exponent, Unpacked, units_at}
use Rattle.fmt_decode.proofs.InUnits.{units_given}
use Rattle.fmt_decode.proofs.Packs.{exactly_below}
use Rattle.fmt_decode.proofs.Significands.{exponent_is, significand_some, significand_small, units_counted}
use Rattle.fmt_decode.specs.Rows.{no_remainder}
use Rattle.fmt_fields.proofs.Numbers.{infinity_some}
use Rattle.fmod.specs.Division.{settled, left_of}
use Rattle.fmt_decode.proofs.Sorts.{no_remainder_none, Remains, remains}

-- a common factor of two numbers is a factor of the remainder
scaled_left : (a b t : ℕ) → 0 < b → 0 < t → left (a * t) (b * t) ≡ (a % b) * t
scaled_left a b t p q =
    let (d, l) = div_mod a b p in
    omega (arith, times t d, times (b * t) (div_is (a * t) (b * t) (a / b) (a % b * t) (omega (arith, times_le t l)) (omega (arith, times t d))).0)

-- q, the remainder of the significands, at the exponent of y is the remainder of x by y
pub record Finishes (f : Format) (x y q : ℕ) : Type 0 where
  pub few : q < 2 ^ (f.frac + 1)
  pub fits : units_at f q (exponent f y) < units f (inf f)
  pub below : exactly f (units_at f q (exponent f y)) < top f
  pub is : signed f (minus f x) (exactly f (units_at f q (exponent f y))) ≡ fmod_of f x y
  pub pattern : Pattern f (signed f (minus f x) (exactly f (units_at f q (exponent f y))))

-- two numbers unpacked to be reduced
pub record Reduces (f : Format) (x y : ℕ) : Type 0 where
  pub ordered : field f y ≤ field f x
  pub some : 0 < significand f y
  pub finishes : (q : ℕ) → q ≡ left_of f x y → Finishes f x y q

module _ (f : Format) (x y : ℕ) where
  pub fmod_none : no_remainder f x y ≡ true → canonical f ≡ fmod_of f x y
  unfolding fmod_of
  fmod_none e = sym (no_remainder_none (canonical f) x (λ u v. signed f (minus f x) (exactly f (left u v))) f x y e)

  module _ (some : 0 < inf f) (r : Remains f some x y) where
    pub fmod_lesser : Pattern f x → magnitude f x < magnitude f y → x ≡ fmod_of f x y
    fmod_lesser p l =
        order (suc (magnitude f y)) (inf f)
        (λ h. sym ((fmod_rows f).below_y x y (units f (magnitude f x)) (units f (magnitude f y)) p (kind_finite f x r.below) (kind_finite f y h) (units_lt f l)))
        (λ h. sym ((fmod_rows f).infinite_y x y (units f (magnitude f x)) (kind_finite f x r.below) (kind_infinite f y (both_ways (magnitude f y) (inf f) r.most (omega arith)))))

    -- the significands and exponents of both, where x is at least y
    module _ (g : magnitude f y ≤ magnitude f x) where
      abbrev sx : ℕ
      sx = significand f x

      abbrev ex : ℕ
      ex = units_exp f x

      abbrev sy : ℕ
      sy = significand f y

      abbrev ey : ℕ
      ey = units_exp f y

      -- the fields are in the order of the magnitudes, which begin with them
      fields_ordered : field f y ≤ field f x
      fields_ordered =
          by_contra (field f y) (field f x)
          (λ l. omega (arith, g, magnitude_fields f x, magnitude_fields f y, fraction_small f x, times_le (2 ^ f.frac) l))

      exponents_ordered : ey ≤ ex
      exponents_ordered = omega (arith, fields_ordered)

      divisor_some : 0 < sy
      divisor_some = significand_some f y r.least

      some_units : 0 < units f (magnitude f y)
      some_units = omega (arith, units_lt f r.least, units_zero f)

      -- the exponent of y is a factor of both
      x_units : units f (magnitude f x) ≡ sx * 2 ^ (ex - ey) * 2 ^ ey
      x_units = omega (arith, units_counted f x, times sx (pow_diff exponents_ordered))

      left_is : left (units f (magnitude f x)) (units f (magnitude f y)) ≡ sx * 2 ^ (ex - ey) % sy * 2 ^ ey
      left_is = ap₂ left x_units (units_counted f y) ∙ scaled_left (sx * 2 ^ (ex - ey)) sy (2 ^ ey) divisor_some (pow_pos ey)

      fmod_left : (v : ℕ) → 0 < v → kind f y ≡ finite v → fmod_of f x y ≡ signed f (minus f x) (exactly f (left (units f (magnitude f x)) v))
      unfolding fmod_of divide
      fmod_left zero l e = absurd (omega arith)
      fmod_left (suc v) l e = rw (kind_finite f x r.below, e)

      finishes_left : (q : ℕ) → q ≡ left_of f x y → Finishes f x y q
      finishes_left q e =
          let h : magnitude f y < inf f = omega (arith, r.below) in
          let l : q < sy = omega (arith, mod-lt (sx * 2 ^ (ex - ey)) divisor_some) in
          let u = units_given f y q in
          let t : q * 2 ^ ey < units f (inf f) = omega (arith, times_le (2 ^ ey) l, units_counted f y, units_lt f h) in
          let b : exactly f (units_at f q (exponent f y)) < top f = omega (arith, ap (exactly f) u, exactly_below f q ey (omega (arith, significand_small f y)) t, inf_below_top f) in
          record {
            few = omega (arith, significand_small f y, pow-add 2 f.frac 1);
            fits = omega (arith, u);
            below = b;
            pattern = pattern_signed f (minus f x) (exactly f (units_at f q (exponent f y))) b;
            is =
                ap (λ n. signed f (minus f x) (exactly f n)) (u ∙ ap (λ n. n * 2 ^ ey) e ∙ sym left_is)
                ∙ sym (fmod_left (units f (magnitude f y)) some_units (kind_finite f y h));
          }

      pub fmod_reduces : Reduces f x y
      fmod_reduces = record { ordered = fields_ordered; some = divisor_some; finishes = finishes_left }

-- ---- by the tests of the code
neither : (a b : Bool) → (a || b) ≡ false → (a ≡ false) × (b ≡ false)
neither true b e = absurd (true≢false e)
neither false b e = (refl, e)

second : (a b : Bool) → a ≡ false → (a || b) ≡ true → b ≡ true
second a b h e = rw h at e

module _ {p e : ℕ} (w : Fits p e) (x y : ℕ) where
  pub lesser_stays : no_remainder (format p e) x y ≡ false → settled (format p e) x y ≡ true → Pattern (format p e) x → x ≡ fmod_of (format p e) x y
  lesser_stays has s h =
      fmod_lesser (format p e) x y (infinity_some w) (remains (format p e) (infinity_some w) x y has) h
      (ltb-true (magnitude (format p e) x) (magnitude (format p e) y) (second (no_remainder (format p e) x y) (ltb (magnitude (format p e) x) (magnitude (format p e) y)) has s))

  pub reduces : settled (format p e) x y ≡ false → Reduces (format p e) x y
  reduces s =
      let (has, l) = neither (no_remainder (format p e) x y) (ltb (magnitude (format p e) x) (magnitude (format p e) y)) s in
      fmod_reduces (format p e) x y (infinity_some w) (remains (format p e) (infinity_some w) x y has) (ltb-false (magnitude (format p e) x) (magnitude (format p e) y) l)

-- ---- both operands as unpacked
module _ {p e : ℕ} (w : Fits p e) (x y : ℕ) (r : Reduces (format p e) x y) {sx sy : ℕ} {a b : ℤ} {m n : Bool}
    (i : Unpacked (format p e) x sx a m) (j : Unpacked (format p e) y sy b n) where
  abbrev f : Format
  f = format p e

  -- the exponents are as far apart as the fields less 1
  apart : up a + dn b + units_exp f y ≡ up b + dn a + units_exp f x
  apart =
      omega
      (arith, eq_z_fact (i.1 ∙ sym (exponent_is f x)), eq_z_fact (j.1 ∙ sym (exponent_is f y)), sub_z (pos (units_exp f x)) (pos (low f)), sub_z (pos (units_exp f y)) (pos (low f)))

  pub exponents_ready : (mag a < 2 ^ 17) × (mag b < 2 ^ 17) × T (le_z b a) × (0 < sy)
  exponents_ready = (i.3.small, j.3.small, le_z_of b a (omega (arith, apart, r.ordered)), omega (arith, j.0, r.some))

  pub parts_are : {s t k : ℕ} → (s ≡ sx) × (pos k ≡ a -ℤ b) × (t ≡ sy)
      → ((s ≡ significand f x) × (k ≡ units_exp f x - units_exp f y) × (t ≡ significand f y)) × (s < 2 ^ (p + 1)) × (t < 2 ^ (p + 1))
  parts_are {s} {t} {k} (g, d, h) =
      let shift : k ≡ units_exp f x - units_exp f y = omega (arith, eq_z_fact d, sub_z a b, apart, r.ordered) in (
        (g ∙ i.0, shift, h ∙ j.0),
        omega (arith, g ∙ i.0, significand_small f x, pow-add 2 p 1),
        omega (arith, h ∙ j.0, significand_small f y, pow-add 2 p 1),
      )
