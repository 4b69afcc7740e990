-- The reader: what a text says, rounded once under an attribute, or a refusal. Assumes nothing.
use Rattle.std.specs.Prelude.{ℕ, zero, suc, ◌*◌, Bool, true, false, List, [], ◌∷◌, ltb, length, ℤ, pos, ◌+ℤ◌, ◌-ℤ◌, Option, Some, None}
use Rattle.ieee.specs.Format.{Format, low, inf, canonical}
use Rattle.ieee.specs.Pattern.{signed}
use Rattle.ieee.specs.Exact.{Value}
use Rattle.ieee.specs.Round.{Attribute, ties_to_even, answer}
use Rattle.ieee.specs.Scalbn.{scaled}
use Rattle.ieee.specs.Rounded.{attributes}
use Rattle.ieee.specs.Refusal.{Refusal, given, Answer, done, refused}
use Rattle.ieee_numeral_laws.specs.Numeral.{Numeral, number, infinity, not_a_number}
use Rattle.ieee_numeral_laws.specs.Reading.{numeral_of}

-- the most bytes of a text
abbrev pub text_limit : ℕ
text_limit = 64

-- the exact value of a number in smallest units: its digits times 2 ^ e, and a sixteenth for each of the k behind the point
abbrev pub exact_numeral : Format → Bool → ℕ → ℕ → ℤ → Value
exact_numeral f s d k e = scaled s d (e +ℤ pos (low f) -ℤ pos (4 * k))

-- a zero keeps the sign written
unfoldable pub value_in : Format → Attribute → Numeral → ℕ
unfolding answer
value_in f a (number s d k e) = answer f a s (exact_numeral f s d k e)
value_in f a (infinity s) = signed f s (inf f)
value_in f a not_a_number = canonical f

-- ---- the refusals
abbrev pub outside : Option Numeral → Bool
outside (Some n) = false
outside None = true

abbrev pub read_refusals : List ℕ → List Refusal
read_refusals s = record { number = 6; reason = ltb text_limit (length s) } ∷ record { number = 7; reason = outside (numeral_of s) } ∷ []

-- ---- the answer, by the refusal's number and what the text says
unfoldable pub read_by : Format → Attribute → Option Numeral → ℕ → Answer
unfolding value_in
read_by f a (Some n) zero = done (value_in f a n)
read_by f a None zero = refused 7
read_by f a p (suc k) = refused (suc k)

unfoldable pub read_in : Format → Attribute → List ℕ → Answer
unfolding read_by numeral_of
read_in f a s = read_by f a (numeral_of s) (given (read_refusals s))

unfoldable pub read_of : Format → List ℕ → Answer
unfolding read_in
read_of f s = read_in f ties_to_even s

-- under the nth attribute; where there is none, before all else, refusal 10
abbrev pub under_number : List Attribute → ℕ → (Attribute → Answer) → Answer
under_number [] n call = refused 10
under_number (a ∷ rest) zero call = call a
under_number (a ∷ rest) (suc n) call = under_number rest n call

unfoldable pub read_rounded : Format → ℕ → List ℕ → Answer
unfolding read_in
read_rounded f n s = under_number attributes n (λ a. read_in f a s)
