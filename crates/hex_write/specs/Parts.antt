-- The text of a number, by its parts. Assumes nothing.
use Rattle.std.specs.Prelude.{ℕ, ◌-◌, ◌*◌, ◌^◌, ◌≤◌, ◌≡◌, Bool, cond, List, [], ◌∷◌, ◌++◌, ltb, pos, ◌-ℤ◌}
use Rattle.ieee.specs.Format.{Format}
use Rattle.text_numbers.specs.Digits.{glyph_of, digits_of}
use Rattle.ieee_numeral_laws.specs.Numeral.{plus, dash, letter_p, prefix, inf_text, nan_text}
use Rattle.ieee_numeral_laws.specs.Write.{sign_text, after_point, trimmed, hex_digits, exponent_text}

-- `0x` and the digit before the point
abbrev pub head_text : ℕ → List ℕ
head_text lead = prefix ++ (glyph_of lead ∷ [])

-- `p`, and j digits of an exponent of this size, negative or not
abbrev pub tail_text : Bool → ℕ → ℕ → List ℕ
tail_text below j size = letter_p ∷ cond below dash plus ∷ digits_of 10 j size

-- the parts one behind the other; k digits of n stand behind the point
unfoldable pub parts_text : Bool → ℕ → ℕ → ℕ → Bool → ℕ → ℕ → List ℕ
parts_text neg lead k n below j size = sign_text neg [] ++ head_text lead ++ after_point (digits_of 16 k n) ++ tail_text below j size

-- the digits behind the point of a fraction t, and how many there are at most
pub record FractionOf (f : Format) (t k n : ℕ) : Type 0 where
  pub digits : digits_of 16 k n ≡ trimmed (digits_of 16 (hex_digits f) (t * 2 ^ (4 * hex_digits f - f.frac)))
  pub few : k ≤ 16

-- the sign and the j digits of the exponent q less the bias of e bits
pub record ExponentOf (e q : ℕ) (below : Bool) (j size : ℕ) : Type 0 where
  pub digits : cond below dash plus ∷ digits_of 10 j size ≡ exponent_text (pos q -ℤ pos (2 ^ (e - 1) - 1))
  pub few : j ≤ 5

-- an infinity, or a NaN where the fraction t is not zero
abbrev pub aside_text : Bool → ℕ → List ℕ
aside_text neg t = cond (ltb 0 t) nan_text (sign_text neg inf_text)
