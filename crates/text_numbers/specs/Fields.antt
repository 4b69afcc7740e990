-- The meaning of one field: a word, a number without a sign, a number with one. Assumes nothing.
use Rattle.std.specs.Prelude.{ℕ, min, Bool, false, cond, List, ltb, eqb, length, get_or, drop, ℤ, pos, neg_ℤ, Option, Some, None, Result, Ok, Err, codes}
use Rattle.text_numbers.specs.Digits.{read_on}
use Rattle.text_numbers.specs.declared.read.Fault.{Fault}
use Rattle.text_numbers.specs.declared.read.Fault.TheVariants.{WrongLength, WrongDigit, NoDigit, LeadingZero, MinusZero, OutOfRange}

-- the words for a fault, as said of a field
abbrev pub words_of : Fault → List ℕ
words_of WrongLength = codes "has a wrong length"
words_of WrongDigit = codes "has a wrong digit"
words_of NoDigit = codes "has no digits"
words_of LeadingZero = codes "begins with a zero"
words_of MinusZero = codes "is a zero with a sign"
words_of OutOfRange = codes "is out of range"

abbrev pub field_of : Option ℕ → Result ℕ Fault
field_of (Some v) = Ok v
field_of None = Err WrongDigit

-- a word: as many digits in base sixteen as the width, which is at most sixteen
unfoldable pub word_of : ℕ → List ℕ → Result ℕ Fault
word_of width s = cond (eqb (length s) width) (cond (ltb 16 width) (Err WrongLength) (field_of (read_on 16 0 s))) (Err WrongLength)

-- a zero before another digit
unfoldable pub leads_with_zero : List ℕ → Bool
leads_with_zero s = cond (ltb 1 (length s)) (eqb (get_or s 0 0) 48) false

-- a number without a sign: at least one digit, and no leading zero
unfoldable pub natural_of : List ℕ → Result ℕ Fault
natural_of s = cond (eqb (length s) 0) (Err NoDigit) (cond (leads_with_zero s) (Err LeadingZero) (field_of (read_on 10 0 s)))

-- with a limit: a number above m counts as m
abbrev pub capped_field : ℕ → Result ℕ Fault → Result ℕ Fault
capped_field m (Ok v) = Ok (min v m)
capped_field m (Err f) = Err f

-- a number that is at most `most`
abbrev pub up_to : ℕ → Result ℕ Fault → Result ℕ Fault
up_to most (Ok v) = cond (ltb most v) (Err OutOfRange) (Ok v)
up_to most (Err f) = Err f

-- the number itself, and its negative
abbrev pub plus_of : Result ℕ Fault → Result ℤ Fault
plus_of (Ok v) = cond (ltb 2147483647 v) (Err OutOfRange) (Ok (pos v))
plus_of (Err f) = Err f

abbrev pub minus_of : Result ℕ Fault → Result ℤ Fault
minus_of (Ok v) = cond (eqb v 0) (Err MinusZero) (cond (ltb 2147483648 v) (Err OutOfRange) (Ok (neg_ℤ (pos v))))
minus_of (Err f) = Err f

-- a number with a sign: `-` is followed by a number other than zero
unfoldable pub signed_of : List ℕ → Result ℤ Fault
signed_of s =
    cond (eqb (length s) 0) (Err NoDigit)
    (cond (eqb (get_or s 0 0) 45) (minus_of (natural_of (drop 1 s))) (plus_of (natural_of s)))
