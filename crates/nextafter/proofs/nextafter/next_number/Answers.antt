-- The cases are those of the definition, by signs and magnitudes (NextPatterns). Assumes nothing.
use Rattle.std.proofs.Common.{sym, ◌∙◌, arith}
use Rattle.fmt_fields.specs.Layout.{format_of}
use Rattle.nextafter.proofs.NextPatterns.{next_of_equal, next_by_pattern, next_from_zero, next_of_zeros}
use Rattle.nextafter.proofs.nextafter.next_number.Goals as goal

pub returns-then-x-y : goal.returns-then-x-y
returns-then-x-y c = sym (next_of_equal (format_of c.args.fmt) c.args.x c.args.y c.requires.from c.requires.toward c.if-x-y.true)

pub returns-then-magnitude_of-gt0 : goal.returns-then-magnitude_of-gt0
returns-then-magnitude_of-gt0 c =
    c.next_pattern.ensures
    ∙ sym (next_by_pattern (format_of c.args.fmt) c.args.x c.args.y c.requires.from c.requires.toward (omega (arith, c.magnitude_of.ensures)) c.if-x-y.false)

pub returns-then-size-gt0 : goal.returns-then-size-gt0
returns-then-size-gt0 c =
    c.least_number.ensures
    ∙ sym (next_from_zero (format_of c.args.fmt) c.args.x c.args.y c.requires.from c.requires.toward (omega (arith, c.magnitude_of.ensures)) (omega (arith, c.magnitude_of-size.ensures)))

pub returns : goal.returns
returns c =
    sym (next_of_zeros (format_of c.args.fmt) c.args.x c.args.y c.requires.from c.requires.toward (omega (arith, c.magnitude_of.ensures)) (omega (arith, c.magnitude_of-size.ensures)))
