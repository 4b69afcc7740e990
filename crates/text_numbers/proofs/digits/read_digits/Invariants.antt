-- `text_numbers::digits::read_digits` meets its contract. The invariant: the whole spells what the rest spells after the value so far, which has a digit
-- for each byte read. Assumes nothing.
use Rattle.std.proofs.Common.{◌≡◌, ◌^◌, ◌<◌, drop}
use Rattle.text_numbers.specs.Digits.{read_on}
use Rattle.text_numbers.proofs.digits.read_digits.Given as goal

abbrev pub invariant-loop-b : goal.invariant-loop-b
invariant-loop-b l = record { small : l.value < 16 ^ l.b-index; rest : read_on l.base 0 l.s ≡ read_on l.base l.value (drop l.b-index l.s) }
