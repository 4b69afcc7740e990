-- The refusals of the code by their numbers, and its answers as those of the definitions. Assumes nothing.
use Rattle.std.specs.Prelude.{ℕ, List, Result, Ok, Err, codes}
use Rattle.ieee.specs.Refusal.{Answer, done, refused}
use Rattle.fmt_fields.specs.declared.refusal.Refusal.{Refusal}
use Rattle.fmt_fields.specs.declared.refusal.Refusal.TheVariants.{NoOperation, TooManyPlaces, UnlikeLengths, BeyondDivisor, ShiftTooLong, TextTooLong, NoNumeral, NoRoom, NoAttribute}

abbrev pub refusal_number : Refusal → ℕ
refusal_number NoOperation = 1
refusal_number TooManyPlaces = 2
refusal_number UnlikeLengths = 3
refusal_number BeyondDivisor = 4
refusal_number ShiftTooLong = 5
refusal_number TextTooLong = 6
refusal_number NoNumeral = 7
refusal_number NoRoom = 8
refusal_number NoAttribute = 10

-- the words for a refusal
abbrev pub words_of : Refusal → List ℕ
words_of NoOperation = codes "no such operation"
words_of TooManyPlaces = codes "a list is too long"
words_of UnlikeLengths = codes "the lists differ in length"
words_of BeyondDivisor = codes "an operand is outside the limits of the divisor"
words_of ShiftTooLong = codes "the shift is too long"
words_of TextTooLong = codes "the text is too long"
words_of NoNumeral = codes "the text is no numeral"
words_of NoRoom = codes "the output has too few bytes"
words_of NoAttribute = codes "no such attribute of rounding"

-- a value, by the number that it stands for, or a refusal
abbrev pub answer_of : {A : Type 0} → (A → ℕ) → Result A Refusal → Answer
answer_of value (Ok v) = done (value v)
answer_of value (Err r) = refused (refusal_number r)
