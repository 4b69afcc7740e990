-- The writer: the text of a pattern, by ISO C's conversion `a` (7.23.6.1) with as few digits as are exact, put into a room or refused. Assumes nothing.
use Rattle.std.specs.Prelude.{ℕ, zero, suc, ◌+◌, ◌-◌, ◌*◌, ◌/◌, ◌%◌, ◌^◌, Bool, cond, List, [], ◌∷◌, ◌++◌, ltb, eqb, length, drop, ℤ, pos, negsuc, ◌-ℤ◌}
use Rattle.text_numbers.specs.Digits.{glyph_of, digits_of}
use Rattle.ieee.specs.Format.{Format, bias}
use Rattle.ieee.specs.Pattern.{Kind, nan, infinite, finite, kind, minus, field, fraction}
use Rattle.ieee.specs.Refusal.{Refusal, given, Answer, done, refused}
use Rattle.ieee_numeral_laws.specs.Numeral.{plus, dash, point, letter_p, prefix, inf_text, nan_text}

-- ---- the digits
-- without the zeros at its end
abbrev pub kept_before : ℕ → List ℕ → List ℕ
kept_before c [] = cond (eqb c 48) [] (c ∷ [])
kept_before c (d ∷ s) = c ∷ d ∷ s

unfoldable pub trimmed : List ℕ → List ℕ
trimmed [] = []
trimmed (c ∷ s) = kept_before c (trimmed s)

-- a point before digits, if there are any
abbrev pub after_point : List ℕ → List ℕ
after_point [] = []
after_point (c ∷ s) = point ∷ c ∷ s

-- the hexadecimal digits that hold a fraction, whose bits stand in them from the left
abbrev pub hex_digits : Format → ℕ
hex_digits f = (f.frac + 3) / 4

unfoldable pub fraction_text : Format → ℕ → List ℕ
unfolding digits_of trimmed
fraction_text f x = after_point (trimmed (digits_of 16 (hex_digits f) (fraction f x * 2 ^ (4 * hex_digits f - f.frac))))

-- n in decimal digits, as few as hold it, and at most k + 1
unfoldable pub decimal : ℕ → ℕ → List ℕ
decimal zero n = glyph_of (n % 10) ∷ []
decimal (suc k) n = cond (ltb n 10) (glyph_of n ∷ []) (decimal k (n / 10) ++ (glyph_of (n % 10) ∷ []))

unfoldable pub exponent_text : ℤ → List ℕ
unfolding decimal
exponent_text (pos n) = plus ∷ decimal 4 n
exponent_text (negsuc n) = dash ∷ decimal 4 (suc n)

-- ---- the text
-- by the exponent field: a subnormal number has no leading 1, and the exponent of the least normal one
abbrev pub lead_by : ℕ → ℕ
lead_by zero = 0
lead_by (suc e) = 1

abbrev pub exponent_by : Format → ℕ → ℤ
exponent_by f zero = pos 1 -ℤ pos (bias f)
exponent_by f (suc e) = pos (suc e) -ℤ pos (bias f)

abbrev pub magnitude_text : ℕ → List ℕ → ℤ → List ℕ
magnitude_text lead digits e = prefix ++ (glyph_of lead ∷ digits) ++ (letter_p ∷ exponent_text e)

abbrev pub sign_text : Bool → List ℕ → List ℕ
sign_text neg s = cond neg (dash ∷ s) s

unfoldable pub text_by : Format → ℕ → Kind → List ℕ
unfolding fraction_text exponent_text
text_by f x nan = nan_text
text_by f x infinite = sign_text (minus f x) inf_text
text_by f x (finite zero) = sign_text (minus f x) (magnitude_text 0 [] (pos 0))
text_by f x (finite (suc u)) = sign_text (minus f x) (magnitude_text (lead_by (field f x)) (fraction_text f x) (exponent_by f (field f x)))

unfoldable pub text_of : Format → ℕ → List ℕ
unfolding text_by kind
text_of f x = text_by f x (kind f x)

-- ---- the call: t is the text, out what the output held before
abbrev pub write_refusals : List ℕ → List ℕ → List Refusal
write_refusals t out = record { number = 8; reason = ltb (length out) (length t) } ∷ []

-- the answer, the text's length, and what the output holds after
pub record Written : Type 0 where
  pub answer : Answer
  pub output : List ℕ

-- by the refusal's number; the bytes past the text stay
unfoldable pub write_by : List ℕ → List ℕ → ℕ → Written
write_by t out zero = record { answer = done (length t); output = t ++ drop (length t) out }
write_by t out (suc k) = record { answer = refused (suc k); output = out }

unfoldable pub write_of : Format → ℕ → List ℕ → Written
unfolding text_of write_by
write_of f x out = write_by (text_of f x) out (given (write_refusals (text_of f x) out))
