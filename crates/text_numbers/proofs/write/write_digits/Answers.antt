-- `text_numbers::write::write_digits` meets its contract: where the digits do not fit nothing is written. Assumes nothing.
use Rattle.std.proofs.Common.{arith}
use Rattle.text_numbers.specs.Digits.{digits_of}
use Rattle.text_numbers.proofs.Placing.{no_room, length_digits}
use Rattle.text_numbers.proofs.write.write_digits.Goals as goal

pub returns-then-at-out : goal.returns-then-at-out
returns-then-at-out c =
    let args = c.args in
    no_room (digits_of args.base args.k args.n) (omega (arith, length_digits args.base args.k args.n))
