-- `text_numbers::write::write_minus` meets its contract: the digits are one byte further on, or do not fit, and then nor does the minus. Assumes nothing.
use mathlib.Core.List.{◌∷◌}
use native.Mathlib.Omega.{arith}
use Rattle.text_numbers.specs.Digits.{digits_of}
use Rattle.text_numbers.proofs.Placing.{no_room, none_before, one_before, length_digits}
use Rattle.text_numbers.proofs.write.write_minus.Goals as goal

pub returns-then-at-out : goal.returns-then-at-out
returns-then-at-out c = (c.digit_count-k.result, c.digit_count-k.ensures, no_room (45 ∷ digits_of 10 c.digit_count-k.result c.args.size) (omega arith))

pub returns-then-end-start : goal.returns-then-end-start
returns-then-end-start c = (
  c.digit_count-k.result,
  c.digit_count-k.ensures,
  none_before 45 c.write_digits-end.ensures
      (omega (arith, c.digit_count-k.ensures.some, length_digits 10 c.digit_count-k.result c.args.size)) c.if-end-start.true,
)

pub returns : goal.returns
returns c =
    (c.digit_count-k.result, c.digit_count-k.ensures, one_before 45 c.write_digits-end.ensures (omega arith) c.if-end-start.false)
