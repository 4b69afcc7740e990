-- Hexadecimal numerals: what a text says, by the grammar of ISO C, 6.4.4.3 (constants) and 7.24.1.5 (a sign before them, infinities and NaNs), in lower case and with at most five digits of exponent. Assumes nothing.
use Rattle.std.specs.Prelude.{ℕ, ◌+◌, ◌*◌, ◌^◌, ◌≤◌, ◌<◌, Bool, true, false, List, [], ◌∷◌, ◌++◌, length, ℤ, pos, neg_ℤ}
use Prim.Native.Char.{code}
use Prim.Native.String.{String, [] as ε, ◌∷◌ as ◌▹◌}
use Rattle.text_numbers.specs.Digits.{digit_of}

-- a number by its sign, its digits read as one whole number, how many of them stand behind the point, and the exponent of two; an infinity by its sign; a NaN
pub data Numeral : Type 0 where
  number : Bool → ℕ → ℕ → ℤ → Numeral
  infinity : Bool → Numeral
  not_a_number : Numeral

-- a text as bytes
abbrev pub bytes_of : String → List ℕ
bytes_of ε = []
bytes_of (c ▹ s) = code c ∷ bytes_of s

-- ---- the bytes that are no digits: `+`, `-`, `.` and `p`
abbrev pub plus : ℕ
plus = 43

abbrev pub dash : ℕ
dash = 45

abbrev pub point : ℕ
point = 46

abbrev pub letter_p : ℕ
letter_p = 112

abbrev pub prefix : List ℕ
prefix = bytes_of "0x"

abbrev pub inf_text : List ℕ
inf_text = bytes_of "inf"

abbrev pub nan_text : List ℕ
nan_text = bytes_of "nan"

-- ---- the grammar
-- a sequence of digits in base b, and the number that it spells: a digit counts b to the power of how many stand behind it
pub data Digits : ℕ → List ℕ → ℕ → Type 0 where
  none : {b : ℕ} → Digits b [] 0
  first : {b c n : ℕ} {s : List ℕ} → digit_of c < b → Digits b s n → Digits b (c ∷ s) (digit_of c * b ^ length s + n)

-- one or more hexadecimal digits, with at most one point among or beside them
pub data Significand : List ℕ → ℕ → ℕ → Type 0 where
  whole : {s : List ℕ} {d : ℕ} → Digits 16 s d → 1 ≤ length s → Significand s d 0
  pointed : {s t : List ℕ} {d e : ℕ} → Digits 16 s d → Digits 16 t e → 1 ≤ length s + length t
      → Significand (s ++ (point ∷ t)) (d * 16 ^ length t + e) (length t)

-- one to five decimal digits
pub record Few (s : List ℕ) (n : ℕ) : Type 0 where
  pub digits : Digits 10 s n
  pub some : 1 ≤ length s
  pub most : length s ≤ 5

-- the same with a sign or without
pub data Exponent : List ℕ → ℤ → Type 0 where
  bare : {s : List ℕ} {n : ℕ} → Few s n → Exponent s (pos n)
  raised : {s : List ℕ} {n : ℕ} → Few s n → Exponent (plus ∷ s) (pos n)
  lowered : {s : List ℕ} {n : ℕ} → Few s n → Exponent (dash ∷ s) (neg_ℤ (pos n))

-- a number without its sign
pub data Unsigned : List ℕ → ℕ → ℕ → ℤ → Type 0 where
  constant : {s t : List ℕ} {d k : ℕ} {e : ℤ} → Significand s d k → Exponent t e → Unsigned (prefix ++ s ++ (letter_p ∷ t)) d k e

-- the whole text
pub data Says : List ℕ → Numeral → Type 0 where
  bare : {s : List ℕ} {d k : ℕ} {e : ℤ} → Unsigned s d k e → Says s (number false d k e)
  positive : {s : List ℕ} {d k : ℕ} {e : ℤ} → Unsigned s d k e → Says (plus ∷ s) (number false d k e)
  negative : {s : List ℕ} {d k : ℕ} {e : ℤ} → Unsigned s d k e → Says (dash ∷ s) (number true d k e)
  infinite : Says inf_text (infinity false)
  minus_infinite : Says (dash ∷ inf_text) (infinity true)
  nan : Says nan_text not_a_number
