-- The exponent and its field distinguish the three cases (Choices). Assumes nothing.
use Rattle.std.proofs.Common.{sym, arith}
use Rattle.fmt_fields.specs.Layout.{format_of}
use Rattle.integral.proofs.Choices.{at_below, at_part, at_whole, exponent_part, exponent_at}
use Rattle.integral.proofs.point.choose_by_point.Goals as goal

pub returns-then-n-fmt : goal.returns-then-n-fmt
returns-then-n-fmt c =
    let a = c.args in
    let e = exponent_part a.fmt.fits a.x (omega arith) in
    sym (at_part (format_of a.fmt) a.x a.below a.part a.whole (omega arith) (omega arith))

pub returns-then-exponent_field-bias : goal.returns-then-exponent_field-bias
returns-then-exponent_field-bias c =
    let a = c.args in
    sym (at_below (format_of a.fmt) a.x a.below a.part a.whole (omega (arith, c.exponent_field.ensures, c.bias.ensures)))

pub returns : goal.returns
returns c =
    let a = c.args in
    let e = exponent_at a.fmt.fits a.x (omega (arith, c.exponent_field.ensures, c.bias.ensures)) in
    sym (at_whole (format_of a.fmt) a.x a.below a.part a.whole (omega arith))
