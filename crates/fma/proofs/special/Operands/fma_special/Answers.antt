-- The rows in order: after the NaNs and the infinities the product is a zero (Rows). Assumes nothing.
use Prim.Native.Nat.{◌<◌}
use mathlib.Core.Path.{sym, ◌∙◌}
use native.Mathlib.Omega.{arith}
use Rattle.ieee.specs.Format.{inf}
use Rattle.ieee.specs.Pattern.{magnitude}
use Rattle.fmt_fields.specs.Layout.{format_of}
use Rattle.fmt_fields.specs.Raised.{attribute_of}
use Rattle.fma.proofs.Rows.{nan_x, nan_y, nan_z, infinite_z, then_zero}
use Rattle.fma.proofs.special.Operands.fma_special.Goals as goal

pub returns-then-mx-inf : goal.returns-then-mx-inf
returns-then-mx-inf c =
    let g = c.args.self in
    c.nan.ensures ∙ nan_x (format_of g.fmt) (attribute_of c.args.attribute) g.x g.y g.z (omega (arith, c.magnitude_of-mx.ensures, c.infinity-inf.ensures, c.if-mx-inf.true))

pub returns-then-my-inf : goal.returns-then-my-inf
returns-then-my-inf c =
    let g = c.args.self in
    c.nan-then-my-inf.ensures ∙ nan_y (format_of g.fmt) (attribute_of c.args.attribute) g.x g.y g.z (omega (arith, c.magnitude_of-my.ensures, c.infinity-inf.ensures, c.if-my-inf.true))

pub returns-then-mz-inf : goal.returns-then-mz-inf
returns-then-mz-inf c =
    let g = c.args.self in
    c.nan-then-mz-inf.ensures ∙ nan_z (format_of g.fmt) (attribute_of c.args.attribute) g.x g.y g.z (omega (arith, c.magnitude_of-mz.ensures, c.infinity-inf.ensures, c.if-mz-inf.true))

pub returns-then-mz-inf-2 : goal.returns-then-mz-inf-2
returns-then-mz-inf-2 c =
    let g = c.args.self in
    let f = format_of g.fmt in
    infinite_z f (attribute_of c.args.attribute) g.x g.y g.z c.requires.0
    (omega (arith, c.magnitude_of-mx.ensures, c.infinity-inf.ensures, c.if-mx-inf.false, c.if-mx-inf-2.false))
    (omega (arith, c.magnitude_of-my.ensures, c.infinity-inf.ensures, c.if-my-inf.false, c.if-my-inf-2.false))
    (sym c.magnitude_of-mz.ensures ∙ c.if-mz-inf-2.true ∙ c.infinity-inf.ensures)

pub of_zero_product-requires : goal.of_zero_product-requires
of_zero_product-requires c =
    let g = c.args.self in
    let f = format_of g.fmt in
    let x : magnitude f g.x < inf f = omega (arith, c.magnitude_of-mx.ensures, c.infinity-inf.ensures, c.if-mx-inf.false, c.if-mx-inf-2.false) in
    let y : magnitude f g.y < inf f = omega (arith, c.magnitude_of-my.ensures, c.infinity-inf.ensures, c.if-my-inf.false, c.if-my-inf-2.false) in
    let z : magnitude f g.z < inf f = omega (arith, c.magnitude_of-mz.ensures, c.infinity-inf.ensures, c.if-mz-inf.false, c.if-mz-inf-2.false) in
    (c.requires.0, x, y, z, then_zero f g.x g.y g.z c.requires.1 x y z)
