-- The rows of a zero product (Rows); the test for unlike signs is the definition's. Assumes nothing.
use mathlib.Core.Path.{sym, ap, ap₂, ◌∙◌}
use mathlib.Core.Bool.{not}
use native.Mathlib.Omega.{arith}
use Rattle.ieee.specs.Pattern.{unlike}
use Rattle.fmt_fields.specs.Layout.{format_of}
use Rattle.fmt_fields.specs.Raised.{attribute_of}
use Rattle.fma.proofs.Rows.{unlike_zeros, leaves_z}
use Rattle.fma.proofs.special.Operands.of_zero_product.Goals as goal

pub returns-then-magnitude_of-gt0 : goal.returns-then-magnitude_of-gt0
returns-then-magnitude_of-gt0 c =
    let g = c.args.self in
    let (b, x, y, z, n) = c.requires in
    leaves_z (format_of g.fmt) (attribute_of c.args.attribute) g.x g.y g.z b x y z n (λ e. absurd (omega (arith, e, c.magnitude_of.ensures, c.if-magnitude_of-gt0.true)))

pub returns-then-neg-is_negative : goal.returns-then-neg-is_negative
returns-then-neg-is_negative c =
    let g = c.args.self in
    let (b, x, y, z, n) = c.requires in
    let signs = ap₂ unlike (ap₂ unlike c.is_negative.ensures c.is_negative-2.ensures) c.is_negative-3.ensures in
    leaves_z (format_of g.fmt) (attribute_of c.args.attribute) g.x g.y g.z b x y z n (λ e. sym signs ∙ ap not c.if-neg-is_negative.true)

pub returns : goal.returns
returns c =
    let g = c.args.self in
    let (b, x, y, z, n) = c.requires in
    let signs = ap₂ unlike (ap₂ unlike c.is_negative.ensures c.is_negative-2.ensures) c.is_negative-3.ensures in
    c.zero_sum.ensures
    ∙ unlike_zeros (format_of g.fmt) (attribute_of c.args.attribute) g.x g.y g.z b x y z n (omega (arith, c.magnitude_of.ensures, c.if-magnitude_of-gt0.false)) (sym signs ∙ ap not c.if-neg-is_negative.false)
