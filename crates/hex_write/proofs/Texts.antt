-- The text of a pattern by its class and its fields, over the format. Assumes nothing.
use Prim.Native.Nat.{ℕ, zero, suc, ◌+◌, ◌-◌, ◌*◌, ◌^◌, ◌≤◌, ◌<◌}
use mathlib.Core.Path.{◌≡◌, refl, sym, ap, ◌∙◌}
use mathlib.Core.Bool.{Bool, true, false, cond}
use mathlib.Core.List.{List, [], ◌∷◌, ◌++◌}
use native.Mathlib.Omega.{arith}
use borrow.Author.Tests.{lt-ltb, le-ltb}
use lib.Dec.{ltb}
use lib.IntN.{ℤ, pos, ◌-ℤ◌}
use lib.Pow.{pow_pos, pow_mono}
use Rattle.algebra.proofs.Products.{order, times_le}
use Rattle.ieee.specs.Format.{Format, bias, fields}
use Rattle.ieee.specs.Pattern.{Kind, finite, kind, minus, field, fraction}
use Rattle.ieee.proofs.Fields.{units_of_fields, kind_by_field, infinite_by_field, nan_by_field}
use Rattle.text_numbers.specs.Digits.{digits_of}
use Rattle.ieee_numeral_laws.specs.Numeral.{inf_text, nan_text, bytes_of, dash, plus}
use Rattle.ieee_numeral_laws.specs.Write.{sign_text, after_point, trimmed, hex_digits, fraction_text, decimal, exponent_text, magnitude_text, lead_by, exponent_by, text_by, text_of}
use Rattle.hex_write.specs.Parts.{head_text, tail_text, parts_text, aside_text, FractionOf, ExponentOf}

-- ---- infinities and NaNs
module _ (neg : Bool) (t : ℕ) where
  by_test : {b : Bool} → ltb 0 t ≡ b → cond b nan_text (sign_text neg inf_text) ≡ aside_text neg t
  by_test e = ap (λ b. cond b nan_text (sign_text neg inf_text)) (sym e)

  pub aside_nan : 0 < t → bytes_of "nan" ≡ aside_text neg t
  aside_nan p = by_test (lt-ltb 0 t p)

  pub aside_minus : t ≤ 0 → neg ≡ true → bytes_of "-inf" ≡ aside_text neg t
  aside_minus p e = ap (λ n. sign_text n inf_text) (sym e) ∙ by_test (le-ltb 0 t p)

  pub aside_plus : t ≤ 0 → neg ≡ false → bytes_of "inf" ≡ aside_text neg t
  aside_plus p e = ap (λ n. sign_text n inf_text) (sym e) ∙ by_test (le-ltb 0 t p)

-- ---- a number by its parts: the sign stands before the others
joined : (neg : Bool) (lead : ℕ) (s t : List ℕ) → sign_text neg [] ++ head_text lead ++ s ++ t ≡ sign_text neg (head_text lead ++ s ++ t)
joined true lead s t = refl
joined false lead s t = refl

parts_joined : (neg : Bool) (lead k n : ℕ) (below : Bool) (j size : ℕ) (s : List ℕ) (e : ℤ) → digits_of 16 k n ≡ s
    → cond below dash plus ∷ digits_of 10 j size ≡ exponent_text e → parts_text neg lead k n below j size ≡ sign_text neg (magnitude_text lead (after_point s) e)
unfolding parts_text
parts_joined neg lead k n below j size s e d x =
    ap (λ (l : List ℕ). sign_text neg [] ++ head_text lead ++ after_point l ++ tail_text below j size) d
    ∙ ap (λ (l : List ℕ). sign_text neg [] ++ head_text lead ++ after_point s ++ (112 ∷ l)) x
    ∙ joined neg lead (after_point s) (112 ∷ exponent_text e)

-- ---- by the exponent field
normal_lead : (q : ℕ) → 0 < q → 1 ≡ lead_by q
normal_lead zero p = absurd (omega arith)
normal_lead (suc q) p = refl

normal_exponent : (f : Format) (q : ℕ) → 0 < q → pos q -ℤ pos (bias f) ≡ exponent_by f q
normal_exponent f zero p = absurd (omega arith)
normal_exponent f (suc q) p = refl

normal_some : (h q t : ℕ) → 0 < h → 0 < q → 0 < fields h q t
normal_some h zero t l p = absurd (omega arith)
normal_some h (suc q) t l p = let one : 1 ≤ h + t = omega arith in omega (arith, times_le (2 ^ q) one, pow_pos q)

-- ---- by the fields of a pattern
pub record Taken (f : Format) (x : ℕ) (neg : Bool) (q t : ℕ) : Type 0 where
  pub sign : neg ≡ minus f x
  pub exponent : q ≡ field f x
  pub rest : t ≡ fraction f x

pub taken : (f : Format) (x : ℕ) {neg : Bool} {q t : ℕ} → neg ≡ minus f x → q ≡ field f x → t ≡ fraction f x → Taken f x neg q t
taken f x s e r = record { sign = s; exponent = e; rest = r }

module _ (f : Format) (x : ℕ) where
  text_by_lem : {k : Kind} → kind f x ≡ k → text_by f x k ≡ text_of f x
  unfolding text_of
  text_by_lem e = ap (text_by f x) (sym e)

  -- a number other than zero
  number_by : (u : ℕ) → 0 < u
      → sign_text (minus f x) (magnitude_text (lead_by (field f x)) (fraction_text f x) (exponent_by f (field f x))) ≡ text_by f x (finite u)
  unfolding text_by
  number_by zero p = absurd (omega arith)
  number_by (suc u) p = refl

module _ {f : Format} {x : ℕ} {neg : Bool} {q t : ℕ} (w : Taken f x neg q t) where
  finite_by : q < 2 ^ f.expo - 1 → kind f x ≡ finite (fields (2 ^ f.frac) q t)
  finite_by l =
      kind_by_field f x (omega (arith, w.exponent))
      ∙ ap finite (units_of_fields f x ∙ ap (λ n. fields (2 ^ f.frac) n (fraction f x)) (sym w.exponent) ∙ ap (fields (2 ^ f.frac) q) (sym w.rest))

  -- parts whose digits behind the point, and exponent, are those of the fields
  parts_by : (lead k n : ℕ) (below : Bool) (j size : ℕ) (e : ℤ) → q < 2 ^ f.expo - 1 → 0 < fields (2 ^ f.frac) q t → lead ≡ lead_by q → e ≡ exponent_by f q
      → FractionOf f t k n → cond below dash plus ∷ digits_of 10 j size ≡ exponent_text e → parts_text neg lead k n below j size ≡ text_of f x
  unfolding fraction_text
  parts_by lead k n below j size e l p a b d i =
      let behind : ℕ → List ℕ = λ m. trimmed (digits_of 16 (hex_digits f) (m * 2 ^ (4 * hex_digits f - f.frac))) in
      parts_joined neg lead k n below j size (behind (fraction f x)) e (d.digits ∙ ap behind w.rest) i
      ∙ ap (λ s. sign_text s (magnitude_text lead (fraction_text f x) e)) w.sign
      ∙ ap (λ m. sign_text (minus f x) (magnitude_text m (fraction_text f x) e)) (a ∙ ap lead_by w.exponent)
      ∙ ap (λ z. sign_text (minus f x) (magnitude_text (lead_by (field f x)) (fraction_text f x) z)) (b ∙ ap (exponent_by f) w.exponent)
      ∙ number_by f x (fields (2 ^ f.frac) q t) p
      ∙ text_by_lem f x (finite_by l)

  pub text_normal : {k n : ℕ} {below : Bool} {j size : ℕ} → 0 < q → q < 2 ^ f.expo - 1 → FractionOf f t k n → ExponentOf f.expo q below j size
      → parts_text neg 1 k n below j size ≡ text_of f x
  text_normal {k} {n} {below} {j} {size} p l d e =
      parts_by 1 k n below j size (pos q -ℤ pos (bias f)) l (normal_some (2 ^ f.frac) q t (pow_pos f.frac) p) (normal_lead q p) (normal_exponent f q p) d e.digits

  module _ (two : 2 ≤ f.expo) (z : q ≡ 0) where
    below_last : q < 2 ^ f.expo - 1
    below_last = omega (arith, pow_mono {i = 2} {j = f.expo} two)

    pub text_subnormal : {k n : ℕ} {below : Bool} {j size : ℕ} → 0 < t → FractionOf f t k n → ExponentOf f.expo 1 below j size
        → parts_text neg 0 k n below j size ≡ text_of f x
    text_subnormal {k} {n} {below} {j} {size} p d e =
        let units : t ≡ fields (2 ^ f.frac) q t = ap (λ m. fields (2 ^ f.frac) m t) (sym z) in
        parts_by 0 k n below j size (pos 1 -ℤ pos (bias f)) below_last (omega (arith, units)) (ap lead_by (sym z)) (ap (exponent_by f) (sym z)) d e.digits

    pub text_zero : t ≡ 0 → parts_text neg 0 0 0 false 1 0 ≡ text_of f x
    unfolding digits_of text_by exponent_text decimal
    text_zero r =
        parts_joined neg 0 0 0 false 1 0 [] (pos 0) refl refl
        ∙ ap (λ s. sign_text s (magnitude_text 0 [] (pos 0))) w.sign
        ∙ text_by_lem f x (finite_by below_last ∙ ap finite (ap (λ n. fields (2 ^ f.frac) n t) z ∙ r))

  pub text_aside : q ≡ 2 ^ f.expo - 1 → aside_text neg t ≡ text_of f x
  unfolding text_by
  text_aside e =
      order 1 t
      (λ p. sym (aside_nan neg t p) ∙ text_by_lem f x (nan_by_field f x (omega (arith, w.exponent)) (omega (arith, w.rest))))
      (λ p. sym (by_test neg t (le-ltb 0 t (omega arith))) ∙ ap (λ s. sign_text s inf_text) w.sign ∙ text_by_lem f x (infinite_by_field f x (omega (arith, w.exponent)) (omega (arith, w.rest))))
