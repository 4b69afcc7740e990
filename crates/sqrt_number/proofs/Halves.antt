-- An unpacked number: the sizes of its parts, and the answer by the root of its radicand, however that was found. Assumes nothing.
use Prim.Native.Nat.{ℕ, ◌+◌, ◌-◌, ◌*◌, ◌%◌, ◌^◌, ◌≤◌, ◌<◌}
use mathlib.Core.Path.{◌≡◌, refl, subst, sym, ap, ◌∙◌}
use mathlib.Core.Bool.{Bool, false}
use native.Mathlib.Omega.{arith}
use lib.Dec.{eqb}
use lib.IntN.{pos}
use lib.Pow.{pow-add, pow_mono}
use Rattle.algebra.proofs.Integers.{add_z, eq_z_fact}
use Rattle.ieee.specs.Round.{even, Attribute, ties_to_even, way_of, answer}
use Rattle.ieee.specs.Scalbn.{scaled}
use Rattle.ieee.specs.Sqrt.{sqrt_in, sqrt_of}
use Rattle.fmt_fields.specs.Width.{format, Fits}
use Rattle.fmt_fields.proofs.Widths.{fields_small}
use Rattle.fmt_decode.specs.Significand.{exp_of}
use Rattle.fmt_decode.proofs.Ranges.{exp_in_range, range_bounds}
use Rattle.sqrt_digits.specs.Floor.{FloorRoot, pairs}
use Rattle.sqrt_digits.proofs.Digits.{root_small}
use Rattle.sqrt_table.specs.Residual.{Residual, floor_by, nearest_by, exact_by}
use Rattle.sqrt_table.proofs.Wholes.{Whole, whole, longer_exact}
use Rattle.sqrt_number.specs.Split.{lift, square, half_of, marked_by, word_of, rounded_by, Above, Parts, Leads, Ready, RoundedRoot}
use Rattle.sqrt_number.proofs.Joins.{NormalRoot, rounded_is}
use Rattle.sqrt_number.proofs.Rootings.{root_answer, root_long, up_least, up_most}
use Rattle.sqrt_number.proofs.Splits.{fraction_few, leads, word_room, word_squares, word_fourfold}

module _ {p e : ℕ} (w : Fits p e) (x : ℕ) (a : Above (format p e) x) (sig up : ℕ) (h : Parts (format p e) x sig up) where
  pub up_small : up < 2 ^ 18
  up_small =
      let z = exp_of (format p e) x in
      omega (arith, eq_z_fact h.up_is, add_z z (pos (lift (format p e))), range_bounds w z (exp_in_range w x a.some refl), fields_small w, w.word)

  pub led : Leads p sig
  led = leads w x sig a.some h.sig_is

  abbrev word : ℕ
  word = word_of p sig up

  square_is : pairs word (p + 2) ≡ square (format p e) x up
  square_is = word_squares p sig up led ∙ ap (λ s. s * 2 ^ (p + 2 + up % 2)) h.sig_is

  small : (t : ℕ) → FloorRoot (pairs word (p + 2)) t → t < 2 ^ (p + 2)
  small t r = root_small word (p + 2) t (word_room p sig up led) r

  pub root_fits : (t : ℕ) → FloorRoot (pairs word (p + 2)) t → t < 2 ^ 60
  root_fits t r = omega (arith, small t r, pow_mono {i = p + 2} {j = 60} (omega (arith, fraction_few w)))

  -- what the table requires of the parts, in a format whose fraction leaves room below the bias
  pub ready : p + 2 ≤ 2 ^ (e - 1) → Ready (format p e) sig up
  ready l = record { leads = led; from = up_least (format p e) w.fair x a.some up h.up_is l; to = up_most (format p e) w.fair x a.some up h.up_is }

  normal_root : p + 2 ≤ 2 ^ (e - 1) → (t : ℕ) → FloorRoot (pairs word (p + 2)) t → NormalRoot (format p e) t up
  normal_root l t r =
      record {
        least = root_long (format p e) w.fair x a.some up h.up_is t (subst (λ n. FloorRoot n t) square_is r);
        most = omega (arith, small t r, pow-add 2 p 2);
        from = (ready l).from;
        to = (ready l).to;
      }

  answers : (t : ℕ) (b : Bool) → FloorRoot (pairs word (p + 2)) t × (b ≡ eqb (t * t) (pairs word (p + 2))) → (g : Attribute)
      → sqrt_in (format p e) g x ≡ answer (format p e) g false (scaled false (marked_by t b) (half_of up))
  answers t b (i, j) g =
      root_answer (format p e) w.fair x a.some up h.up_is a.below a.plus t b
      (subst (λ n. FloorRoot n t) square_is i) (j ∙ ap (eqb (t * t)) square_is) g

  -- ---- by the root digit by digit, through the rounding step
  pub rounded_answers : (t : ℕ) (b : Bool) → FloorRoot (pairs word (p + 2)) t × (b ≡ eqb (t * t) (pairs word (p + 2))) → (r : ℕ)
      → r ≡ answer (format p e) ties_to_even false (scaled false (marked_by t b) (half_of up)) → r ≡ sqrt_of (format p e) x
  unfolding sqrt_of
  rounded_answers t b i r k = k ∙ sym (answers t b i ties_to_even)

  -- ---- by a whole number next to the root, and its residual
  module _ (l : p + 2 ≤ 2 ^ (e - 1)) (root rem : ℕ) (c : Residual (pairs word (p + 1)) root rem) where
    known : Whole (pairs word (p + 1)) (floor_by root rem) (nearest_by root rem) (exact_by root rem)
    known = whole (pairs word (p + 1)) root rem c

    abbrev longer : ℕ
    longer = floor_by root rem + nearest_by root rem

    floor : FloorRoot (pairs word (p + 2)) longer
    floor = subst (λ n. FloorRoot n longer) (sym (word_fourfold p sig up led)) known.longer

    pub floor_bounds : (2 ^ p ≤ floor_by root rem) × (floor_by root rem < 2 * 2 ^ p)
    floor_bounds = let i = normal_root l longer floor in omega (arith, i.least, i.most, known.low, known.high)

    pub floor_exact : exact_by root rem ≡ eqb (floor_by root rem * floor_by root rem) (pairs word (p + 1))
    floor_exact = known.exact

    pub residual_answers : (g : Attribute) → rounded_by (way_of g false) p root rem up ≡ sqrt_in (format p e) g x
    residual_answers g =
        sym (rounded_is (format p e) w.fair known up (normal_root l longer floor) g)
        ∙ sym (answers longer (exact_by root rem) (floor, longer_exact known ∙ ap (eqb (longer * longer)) (sym (word_fourfold p sig up led))) g)

  pub nearest_answers : p + 2 ≤ 2 ^ (e - 1) → (r : ℕ) → RoundedRoot even p sig up r → r ≡ sqrt_of (format p e) x
  unfolding sqrt_of
  nearest_answers l r n = n.is ∙ residual_answers l n.root n.rem n.residual ties_to_even
