-- The text of a pattern says its value, to the last bit, in the digits that are needed. Assumes nothing.
use Prim.Native.Nat.{ℕ, suc, ◌+◌, ◌-◌, ◌*◌, ◌/◌, ◌%◌, ◌^◌, ◌≤◌, ◌<◌}
use mathlib.Core.Path.{◌≡◌, refl, sym, ap, ◌∙◌, subst}
use mathlib.Core.Bool.{Bool, true, false, cond}
use mathlib.Core.List.{List, [], ◌∷◌}
use native.Mathlib.Nat.{pow-suc}
use native.Mathlib.Omega.{arith}
use borrow.Author.Tests.{ne_eqb}
use lib.Dec.{eqb}
use lib.Pow.{pow-add}
use lib.ListN.{length, length-append}
use lib.IntN.{ℤ, nat_abs}
use Rattle.algebra.proofs.Products.{times, mul_lt_cancel}
use Rattle.algebra.proofs.Quotients.{div_is}
use Rattle.algebra.proofs.Integers.{up, dn}
use Rattle.ieee.specs.Format.{Format, Fair, low, units}
use Rattle.ieee.specs.Pattern.{Pattern, minus, magnitude, field, fraction, nan, infinite, finite, kind, with_sign, value}
use Rattle.ieee.specs.Exact.{dyadic}
use Rattle.ieee.proofs.Fields.{magnitude_fields, units_of_fields}
use Rattle.ieee.proofs.Patterns.{finite_is, value_is}
use Rattle.text_numbers.specs.Digits.{glyph_of, digits_of}
use Rattle.ieee_numeral_laws.specs.Numeral.{bytes_of, number, letter_p, Digits, Significand, whole, pointed, Unsigned, constant, Says, bare, negative}
use Rattle.ieee_numeral_laws.specs.ReadRule.{Worth}
use Rattle.ieee_numeral_laws.specs.TextRule.{Writable, NumberText, TextAs}
use Rattle.ieee_numeral_laws.specs.Write.{hex_digits, trimmed, after_point, fraction_text, exponent_text, lead_by, exponent_by, magnitude_text, sign_text, text_by, text_of}
use Rattle.ieee_numeral_laws.proofs.Spellings.{nothing_spells, digit_spells, digits_below, digits_length}
use Rattle.ieee_numeral_laws.proofs.Trims.{Trimmed}
use Rattle.ieee_numeral_laws.proofs.Decimals.{exponent_says, Exponents, exponent_fewest}
use Rattle.ieee_numeral_laws.proofs.Parts.{spare, aligned, digits_hold, fraction_trimmed, lead_small, by_normal, by_subnormal, exponent_balance, exponent_small, fields_by, balanced, worth_by}

-- ---- a text by its parts: the digit before the point, the digits t behind it, the exponent
significand_says : {lead m : ℕ} (t : List ℕ) → lead < 16 → Digits 16 t m → Significand (glyph_of lead ∷ after_point t) (lead * 16 ^ length t + m) (length t)
significand_says {lead} {m} [] l d =
    let z : m ≡ 0 = nothing_spells d in
    subst (λ n. Significand (glyph_of lead ∷ []) n 0) (omega arith) (whole (digit_spells (omega arith) l) (omega arith))
significand_says {lead} (c ∷ t) l d = pointed {s = glyph_of lead ∷ []} (digit_spells (omega arith) l) d (omega arith)

sign_says : (s : Bool) {t : List ℕ} {d k : ℕ} {e : ℤ} → Unsigned t d k e → Says (sign_text s t) (number s d k e)
sign_says false u = bare u
sign_says true u = negative u

pub text_says : (s : Bool) {lead m : ℕ} (t : List ℕ) (e : ℤ) → lead < 16 → Digits 16 t m → nat_abs e < 100000
    → Says (sign_text s (magnitude_text lead (after_point t) e)) (number s (lead * 16 ^ length t + m) (length t) e)
text_says s t e l d h = sign_says s (constant (significand_says t l d) (exponent_says e h))

point_size : (t : List ℕ) → length (after_point t) ≡ cond (eqb (length t) 0) 0 (suc (length t))
point_size [] = refl
point_size (c ∷ t) = rw (ne_eqb (suc (length t)) 0 (omega arith))

pub sign_size : (s : Bool) (t : List ℕ) → length (sign_text s t) ≡ cond s 1 0 + length t
sign_size false t = omega arith
sign_size true t = omega arith

pub text_size : (s : Bool) (lead : ℕ) (t : List ℕ) (e : ℤ) (j : ℕ) → length (exponent_text e) ≡ suc j
    → length (sign_text s (magnitude_text lead (after_point t) e)) ≡ cond s 1 0 + 3 + cond (eqb (length t) 0) 0 (suc (length t)) + 2 + j
text_size s lead t e j h =
    omega (arith, sign_size s (magnitude_text lead (after_point t) e), length-append (after_point t) (letter_p ∷ exponent_text e), point_size t)

-- ---- the text of a number that is not zero
-- the digits of the fraction, those at the end that are zero among them
abbrev pub fraction_digits : Format → ℕ → List ℕ
fraction_digits f x = digits_of 16 (hex_digits f) (aligned f x)

pub field_below : (f : Format) (x u : ℕ) → kind f x ≡ finite u → field f x < 2 ^ f.expo - 1
field_below f x u h = mul_lt_cancel (field f x) (2 ^ f.expo - 1) (2 ^ f.frac) (omega (arith, magnitude_fields f x, (finite_is f x u h).below))

-- the significand of a finite pattern, as a whole number
abbrev significand_of : Format → ℕ → ℕ
significand_of f x = lead_by (field f x) * 2 ^ f.frac + fraction f x

-- t are those that are kept; k of them stand behind the point, d is all digits as one whole number, e the exponent
module _ (f : Format) (x : ℕ) (t : List ℕ) (r : Trimmed (fraction_digits f x) t (aligned f x)) where
  abbrev k : ℕ
  k = length t

  abbrev e : ℤ
  e = exponent_by f (field f x)

  abbrev d : ℕ
  d = lead_by (field f x) * 16 ^ length t + r.m

  -- all digits are the significand with the spare bits behind it
  widths : 16 ^ k * 16 ^ r.zeros ≡ 2 ^ f.frac * 2 ^ spare f
  widths = sym (pow-add 16 k r.zeros) ∙ ap (λ n. 16 ^ n) (r.size ∙ digits_length 16 (hex_digits f) (aligned f x)) ∙ digits_hold f

  significand_digits : d * 16 ^ r.zeros ≡ significand_of f x * 2 ^ spare f
  significand_digits = omega (arith, r.worth, times (lead_by (field f x)) widths)

  digits_worth : Fair f → Worth f (minus f x) d k e (dyadic (value f x) 0)
  digits_worth g =
      let counts : units f (magnitude f x) ≡ significand_of f x * 2 ^ (field f x - 1) = units_of_fields f x ∙ fields_by (2 ^ f.frac) (field f x) (fraction f x) in
      subst (λ v. Worth f (minus f x) d k e (dyadic v 0)) (ap (with_sign (minus f x)) (sym counts) ∙ sym (value_is f x))
      (worth_by f (minus f x) (significand_of f x * 2 ^ (field f x - 1)) d k e
      (balanced (significand_of f x) (field f x - 1) (spare f) r.zeros k d f.frac (low f) (up e) (dn e) significand_digits widths
      (omega (arith, exponent_balance f (field f x), g.frac_pos))))

  lead_is : d / 16 ^ k ≡ lead_by (field f x)
  lead_is = (div_is d (16 ^ k) (lead_by (field f x)) r.m (digits_below r.digits) refl).0

  no_zero_last : 1 ≤ k → d % 16 ≡ 0 → ⊥
  no_zero_last l z =
      let s : suc (k - 1) ≡ k = omega arith in
      let p : 16 ^ k ≡ 16 ^ (k - 1) * 16 = ap (λ n. 16 ^ n) (sym s) ∙ pow-suc 16 (k - 1) in
      r.last l (omega (arith, times (lead_by (field f x)) p))

  number_text : Fair f → nat_abs e < 100000 → NumberText f x (sign_text (minus f x) (magnitude_text (lead_by (field f x)) (after_point t) e))
  number_text g h =
      let w : Exponents e (exponent_text e) = exponent_fewest e h in
      record {
        d = d;
        k = k;
        e = e;
        j = w.j;
        says = text_says (minus f x) t e (lead_small (field f x)) r.digits h;
        worth = digits_worth g;
        normal = λ l. (lead_is ∙ (by_normal f (field f x) l).0, (by_normal f (field f x) l).1);
        subnormal = λ z. (lead_is ∙ (by_subnormal f (field f x) z).0, (by_subnormal f (field f x) z).1);
        no_zero_last = no_zero_last;
        fewest = w.fewest;
        size = text_size (minus f x) (lead_by (field f x)) t e w.j w.size;
      }

-- ---- by the kind
module _ (f : Format) (x : ℕ) where
  nan_text_lem : kind f x ≡ nan → text_of f x ≡ bytes_of "nan"
  unfolding text_of text_by
  nan_text_lem h = ap (text_by f x) h

  infinity_text : kind f x ≡ infinite → text_of f x ≡ cond (minus f x) (bytes_of "-inf") (bytes_of "inf")
  unfolding text_of text_by
  infinity_text h = ap (text_by f x) h

  zero_text : kind f x ≡ finite 0 → text_of f x ≡ cond (minus f x) (bytes_of "-0x0p+0") (bytes_of "0x0p+0")
  unfolding text_of text_by
  zero_text h = ap (text_by f x) h

  finite_text : Fair f → Writable f → (u : ℕ) → kind f x ≡ finite (suc u) → NumberText f x (text_of f x)
  unfolding text_of text_by fraction_text
  finite_text g w u h =
      subst (NumberText f x) (sym (ap (text_by f x) h))
      (number_text f x (trimmed (fraction_digits f x)) (fraction_trimmed f x) g (exponent_small f g w (field f x) (field_below f x (suc u) h)))

pub text_as : (f : Format) → Fair f → Writable f → (x : ℕ) → Pattern f x → TextAs f x (text_of f x)
text_as f g w x p = record { of_nan = nan_text_lem f x; of_infinity = infinity_text f x; of_zero = zero_text f x; of_number = finite_text f x g w }
