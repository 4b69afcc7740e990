-- The parts of a number's text, by the exponent field: what its digits and its exponent are worth in smallest units. Assumes nothing.
use Prim.Native.Nat.{ℕ, zero, suc, ◌+◌, ◌-◌, ◌*◌, ◌^◌, ◌≤◌, ◌<◌}
use mathlib.Core.Path.{◌≡◌, refl, sym, ap, ◌∙◌}
use mathlib.Core.Bool.{Bool}
use native.Mathlib.Omega.{arith}
use lib.Pow.{pow-add, pow_pos, pow_mono}
use lib.IntN.{ℤ, pos, negsuc, nat_abs, ◌-ℤ◌}
use Rattle.algebra.proofs.Products.{times, times_le, mul_eq_cancel}
use Rattle.algebra.proofs.Powers.{pow_diff}
use Rattle.algebra.proofs.Integers.{up, dn, sub_z, abs_z}
use Rattle.ieee.specs.Format.{Format, Fair, bias, low, fields}
use Rattle.ieee.specs.Pattern.{fraction, with_sign}
use Rattle.ieee.specs.Exact.{dyadic}
use Rattle.ieee.proofs.Fields.{fraction_small}
use Rattle.ieee.proofs.Signs.{signed_times}
use Rattle.text_numbers.specs.Digits.{digits_of}
use Rattle.ieee_numeral_laws.specs.ReadRule.{Worth}
use Rattle.ieee_numeral_laws.specs.TextRule.{Writable}
use Rattle.ieee_numeral_laws.specs.Write.{hex_digits, trimmed, lead_by, exponent_by}
use Rattle.ieee_numeral_laws.proofs.Spellings.{digits_spell}
use Rattle.ieee_numeral_laws.proofs.Trims.{Trimmed, trim}
use Rattle.ieee_numeral_laws.proofs.Worths.{hex_power, hex_pos}

-- ---- the digits of the fraction
module _ (f : Format) where
  -- the bits that are left over in the last digit
  abbrev pub spare : ℕ
  spare = 4 * hex_digits f - f.frac

  pub digits_hold : 16 ^ hex_digits f ≡ 2 ^ f.frac * 2 ^ spare
  digits_hold = hex_power (hex_digits f) ∙ sym (pow_diff {a = 4 * hex_digits f} {b = f.frac} (omega arith)) ∙ omega arith

  -- the fraction from the left
  abbrev pub aligned : ℕ → ℕ
  aligned x = fraction f x * 2 ^ spare

  pub fraction_trimmed : (x : ℕ) → Trimmed (digits_of 16 (hex_digits f) (aligned x)) (trimmed (digits_of 16 (hex_digits f) (aligned x))) (aligned x)
  fraction_trimmed x =
      trim (digits_spell (omega arith) (omega arith) (hex_digits f) (aligned x) (omega (arith, digits_hold, times_le (2 ^ spare) (fraction_small f x), pow_pos spare)))

  -- ---- by the exponent field
  pub by_normal : (c : ℕ) → 1 ≤ c → (lead_by c ≡ 1) × (exponent_by f c ≡ pos c -ℤ pos (bias f))
  by_normal zero l = absurd (omega arith)
  by_normal (suc c) l = (refl, refl)

  pub by_subnormal : (c : ℕ) → c ≡ 0 → (lead_by c ≡ 0) × (exponent_by f c ≡ pos 1 -ℤ pos (bias f))
  by_subnormal zero e = (refl, refl)
  by_subnormal (suc c) e = absurd (omega arith)

  pub exponent_balance : (c : ℕ) → c - 1 + 1 + dn (exponent_by f c) ≡ up (exponent_by f c) + bias f
  exponent_balance zero = omega (arith, sub_z (pos 1) (pos (bias f)))
  exponent_balance (suc c) = omega (arith, sub_z (pos (suc c)) (pos (bias f)))

  -- no exponent is further from 0 than the bias
  pub exponent_within : Fair f → (c : ℕ) → c < 2 ^ f.expo - 1 → nat_abs (exponent_by f c) ≤ bias f
  exponent_within g zero l = omega (arith, pow_mono {i = 1} {j = f.expo - 1} (omega (arith, g.expo_two)), abs_z (pos 1 -ℤ pos (bias f)), sub_z (pos 1) (pos (bias f)))
  exponent_within g (suc c) l =
      omega (arith, pow_diff {a = f.expo} {b = 1} (omega (arith, g.expo_two)), abs_z (pos (suc c) -ℤ pos (bias f)), sub_z (pos (suc c)) (pos (bias f)))

  pub exponent_small : Fair f → Writable f → (c : ℕ) → c < 2 ^ f.expo - 1 → nat_abs (exponent_by f c) < 100000
  exponent_small g w c l = omega (arith, exponent_within g c l, pow_mono {i = f.expo - 1} {j = 16} (omega (arith, w.exponents)))

pub lead_small : (c : ℕ) → lead_by c < 16
lead_small zero = omega arith
lead_small (suc c) = omega arith

pub fields_by : (h c t : ℕ) → fields h c t ≡ (lead_by c * h + t) * 2 ^ (c - 1)
fields_by h zero t = omega arith
fields_by h (suc c) t = let e : suc c - 1 ≡ c = omega arith in rw e (omega arith)

-- ---- what they are worth
-- q is a significand of r bits behind its first, d the same as hexadecimal digits, of which k stand behind the point and j zeros were left away; both with their exponents
pub balanced : (q g z j k d r l p n : ℕ) → d * 16 ^ j ≡ q * 2 ^ z → 16 ^ k * 16 ^ j ≡ 2 ^ r * 2 ^ z → g + r + n ≡ p + l
    → q * 2 ^ g * (16 ^ k * 2 ^ n) ≡ d * 2 ^ p * 2 ^ l
balanced q g z j k d r l p n a b e =
    let s : 2 ^ g * 2 ^ r * 2 ^ n ≡ 2 ^ p * 2 ^ l =
    ap (λ c. c * 2 ^ n) (sym (pow-add 2 g r)) ∙ sym (pow-add 2 (g + r) n) ∙ ap (λ c. 2 ^ c) e ∙ pow-add 2 p l in
    mul_eq_cancel (q * 2 ^ g * (16 ^ k * 2 ^ n)) (d * 2 ^ p * 2 ^ l) (16 ^ j) (hex_pos j)
    (omega (arith, times (q * 2 ^ g * 2 ^ n) b, times (2 ^ p * 2 ^ l) a, times (q * 2 ^ z) s))

pub worth_by : (f : Format) (s : Bool) (u d k : ℕ) (e : ℤ) → u * (16 ^ k * 2 ^ dn e) ≡ d * 2 ^ up e * 2 ^ low f → Worth f s d k e (dyadic (with_sign s u) 0)
worth_by f s u d k (pos n) h = let e : u * 16 ^ k ≡ d * 2 ^ n * 2 ^ low f * 2 ^ 0 = omega arith in signed_times s u (16 ^ k) ∙ ap (with_sign s) e
worth_by f s u d k (negsuc n) h = let e : u * (16 ^ k * 2 ^ suc n) ≡ d * 2 ^ low f * 2 ^ 0 = omega arith in signed_times s u (16 ^ k * 2 ^ suc n) ∙ ap (with_sign s) e
