-- A line as a place of a list. Assumes nothing.
use Rattle.std.specs.Prelude.{◌≡◌, ℕ, ◌+◌, ◌-◌, ◌^◌, min, List, Option, Some, None, Result, Ok, Err, IsErr}
use Rattle.text_numbers.specs.Fields.{word_of}
use Rattle.text_numbers.specs.declared.read.Fault.{Fault}
use Rattle.pk_list.specs.declared.place.Flaw.{Flaw}
use Rattle.pk_list.specs.declared.place.Flaw.TheVariants.{Empty, Comment, CarriageReturn, Blank, WrongDigit, WrongLength}

-- the pattern of a place, which is zero where the line is not a pattern, and its flaw
abbrev pub pattern_of : Result ℕ Flaw → ℕ
pattern_of (Ok v) = v
pattern_of (Err e) = 0

abbrev pub flaw_of : Result ℕ Flaw → Option Flaw
flaw_of (Ok v) = None
flaw_of (Err e) = Some e

-- the mark of a flaw in a word, 0 where there is none; a wrong number of characters is added to the last, as far as the word goes
abbrev pub mark_of : Option Flaw → ℕ
mark_of None = 0
mark_of (Some Empty) = 1
mark_of (Some Comment) = 2
mark_of (Some CarriageReturn) = 3
mark_of (Some Blank) = 4
mark_of (Some WrongDigit) = 5
mark_of (Some (WrongLength n)) = min (n + 6) (2 ^ 64 - 1)

-- a word of sixteen digits is its pattern, without a flaw; any other line has a flaw
pub record ReadAs (s : List ℕ) (r : Result ℕ Flaw) : Type 0 where
  pub good : (v : ℕ) → word_of 16 s ≡ Ok v → r ≡ Ok v
  pub bad : (e : Fault) → word_of 16 s ≡ Err e → IsErr r
