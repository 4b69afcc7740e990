-- `text_numbers::digits::fill_digits` meets its contract. The invariant: the digits still to be written, followed by the bytes from i on, are all digits.
-- Assumes nothing.
use Rattle.std.proofs.Common.{◌≡◌, ◌++◌, length, drop}
use Rattle.text_numbers.specs.Digits.{digits_of}
use Rattle.text_numbers.proofs.digits.fill_digits.Given as goal

abbrev pub invariant-loop-i : goal.invariant-loop-i
invariant-loop-i l = digits_of l.base (length l.initial.out) l.n ≡ digits_of l.base l.i l.rest ++ drop l.i l.out
