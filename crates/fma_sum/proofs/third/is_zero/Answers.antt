-- A magnitude is its exponent field and its fraction (fmt_decode: Asides). Assumes nothing.
use mathlib.Core.Path.{sym, ap, ◌∙◌}
use native.Mathlib.Omega.{arith}
use borrow.Author.Tests.{ne_eqb}
use lib.Dec.{eqb}
use Rattle.ieee.specs.Pattern.{magnitude}
use Rattle.fmt_fields.specs.Layout.{format_of}
use Rattle.fmt_decode.proofs.Asides.{field_some, fraction_alone}
use Rattle.fma_sum.proofs.third.is_zero.Goals as goal

pub returns-then-exponent_field-gt0 : goal.returns-then-exponent_field-gt0
returns-then-exponent_field-gt0 c =
    let a = c.args in
    let l = field_some (format_of a.fmt) a.z (omega (arith, c.exponent_field.ensures, c.if-exponent_field-gt0.true)) in
    sym (ne_eqb (magnitude (format_of a.fmt) a.z) 0 (omega arith))

pub returns : goal.returns
returns c =
    let a = c.args in
    ap (λ n. eqb n 0) (c.fraction_field.ensures ∙ fraction_alone (format_of a.fmt) a.z (omega (arith, c.exponent_field.ensures, c.if-exponent_field-gt0.false)))
