-- `text_numbers::digits::read_decimal` meets its contract. The invariant: under the limit, the whole spells what the rest spells after the value so far,
-- and the value is within the limit. Assumes nothing.
use Rattle.std.proofs.Common.{◌≡◌, ◌≤◌, drop}
use Rattle.text_numbers.specs.Digits.{read_on, capped}
use Rattle.text_numbers.proofs.digits.read_decimal.Given as goal

abbrev pub invariant-loop-b : goal.invariant-loop-b
invariant-loop-b l =
    record {
      within : l.value ≤ 4294967296;
      rest : capped 4294967296 (read_on 10 0 l.s) ≡ capped 4294967296 (read_on 10 l.value (drop l.b-index l.s));
    }
