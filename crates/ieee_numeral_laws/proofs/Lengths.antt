-- How long a text can be: in every format, and at 16, 32 and 64 bits. Assumes nothing.
use Prim.Native.Nat.{ℕ, zero, suc, ◌+◌, ◌-◌, ◌^◌, ◌≤◌, ◌<◌}
use mathlib.Core.Path.{◌≡◌, refl}
use mathlib.Core.Bool.{Bool, true, false, cond}
use mathlib.Core.List.{[]}
use native.Mathlib.Nat.{pow-le-pow_right}
use native.Mathlib.Omega.{arith, by_contra}
use lib.Dec.{eqb, lit≤, lit<}
use lib.Pow.{pow_mono}
use lib.ListN.{length}
use lib.IntN.{pos}
use Rattle.ieee.specs.Format.{Format, Fair, bias, b16, b32, b64}
use Rattle.ieee.specs.Pattern.{Pattern, minus, field, Kind, nan, infinite, finite, kind}
use Rattle.ieee.proofs.Formats.{fair16, fair32, fair64}
use Rattle.text_numbers.specs.Written.{Fewest}
use Rattle.ieee_numeral_laws.specs.Numeral.{inf_text}
use Rattle.ieee_numeral_laws.specs.TextRule.{Writable}
use Rattle.ieee_numeral_laws.specs.Write.{hex_digits, trimmed, fraction_text, exponent_text, lead_by, exponent_by, text_by, text_of}
use Rattle.ieee_numeral_laws.proofs.Spellings.{digits_length}
use Rattle.ieee_numeral_laws.proofs.Trims.{Trimmed}
use Rattle.ieee_numeral_laws.proofs.Decimals.{Exponents, exponent_fewest}
use Rattle.ieee_numeral_laws.proofs.Parts.{aligned, fraction_trimmed, exponent_within, exponent_small}
use Rattle.ieee_numeral_laws.proofs.Texts.{fraction_digits, field_below, sign_size, text_size}

pub writable16 : Writable b16
writable16 = record { exponents = lit≤ tt; fractions = lit≤ tt }

pub writable32 : Writable b32
writable32 = record { exponents = lit≤ tt; fractions = lit≤ tt }

pub writable64 : Writable b64
writable64 = record { exponents = lit≤ tt; fractions = lit≤ tt }

-- a number below 10 ^ i has at most i digits
fewest_most : {n j : ℕ} (i : ℕ) → Fewest n j → 1 ≤ i → n < 10 ^ i → j ≤ i
fewest_most {n} {j} i w l h = by_contra j i (λ m. let p : 10 ^ i ≤ 10 ^ (j - 1) = pow-le-pow_right {n = 10} (omega arith) (omega arith) in omega (arith, w.all (omega arith)))

sign_most : (s : Bool) → cond s 1 0 ≤ 1
sign_most false = omega arith
sign_most true = omega arith

point_most : (k h : ℕ) → k ≤ h → cond (eqb k 0) 0 (suc k) ≤ suc h
point_most k h l = by (eqb k 0)
  where
    by : (b : Bool) → cond b 0 (suc k) ≤ suc h
    by true = omega arith
    by false = omega arith

module _ (f : Format) (g : Fair f) (w : Writable f) (i : ℕ) (most : bias f < 10 ^ i) where
  -- the bias is not 0
  some : 1 ≤ i
  some = by i most
    where
      by : (i : ℕ) → bias f < 10 ^ i → 1 ≤ i
      by zero h = absurd (omega (arith, pow_mono {i = 1} {j = f.expo - 1} (omega (arith, g.expo_two))))
      by (suc i) h = omega arith

  number_length : (x u : ℕ) → kind f x ≡ finite (suc u) → length (text_by f x (finite (suc u))) ≤ 7 + hex_digits f + i
  unfolding text_by fraction_text
  number_length x u h =
      let r : Trimmed (fraction_digits f x) (trimmed (fraction_digits f x)) (aligned f x) = fraction_trimmed f x in
      let b = field_below f x (suc u) h in
      let e = exponent_by f (field f x) in
      let q : Exponents e (exponent_text e) = exponent_fewest e (exponent_small f g w (field f x) b) in
      omega (
        arith,
        text_size (minus f x) (lead_by (field f x)) (trimmed (fraction_digits f x)) e q.j q.size,
        sign_most (minus f x),
        point_most (length (trimmed (fraction_digits f x))) (hex_digits f) (omega (arith, r.size, digits_length 16 (hex_digits f) (aligned f x))),
        fewest_most i q.fewest some (omega (arith, exponent_within f g (field f x) b)),
      )

  by_kind : (x : ℕ) (q : Kind) → kind f x ≡ q → length (text_by f x q) ≤ 7 + hex_digits f + i
  unfolding text_by exponent_text
  by_kind x nan h = omega arith
  by_kind x infinite h = omega (arith, sign_size (minus f x) inf_text, sign_most (minus f x))
  by_kind x (finite zero) h = omega (arith, text_size (minus f x) 0 [] (pos 0) 1 refl, sign_most (minus f x), some)
  by_kind x (finite (suc u)) h = number_length x u h

  -- where no exponent has more than i digits: a sign, `0x1.`, the fraction's digits, `p`, a sign and the exponent
  pub text_length : (x : ℕ) → length (text_of f x) ≤ 7 + hex_digits f + i
  unfolding text_of
  text_length x = by_kind x (kind f x) refl

-- every text can be read
pub text_fits : (f : Format) → Fair f → Writable f → (x : ℕ) → Pattern f x → length (text_of f x) ≤ 64
text_fits f g w x p = omega (arith, text_length f g w 5 (omega (arith, pow_mono {i = f.expo - 1} {j = 16} (omega (arith, w.exponents)))) x, w.fractions)

pub text64_length : (x : ℕ) → Pattern b64 x → length (text_of b64 x) ≤ 24
text64_length x p = text_length b64 fair64 writable64 4 (lit< tt) x

pub text32_length : (x : ℕ) → Pattern b32 x → length (text_of b32 x) ≤ 16
text32_length x p = text_length b32 fair32 writable32 3 (lit< tt) x

pub text16_length : (x : ℕ) → Pattern b16 x → length (text_of b16 x) ≤ 12
text16_length x p = text_length b16 fair16 writable16 2 (lit< tt) x
