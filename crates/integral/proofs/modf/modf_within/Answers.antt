-- The bits behind the point with the exponent of x are its fraction, and x without them its whole part (Modfs). Assumes nothing.
use Rattle.std.proofs.Common.{◌∙◌, arith, pow-add}
use Rattle.fmt_fields.specs.Layout.{format_of}
use Rattle.integral.proofs.Masks.{without_is}
use Rattle.integral.proofs.Method.{part_within}
use Rattle.integral.proofs.Modfs.{parts_within, tail_few, tail_finite, tail_packed}
use Rattle.integral.proofs.modf.modf_within.Goals as goal

pub pack_units-m-requires : goal.pack_units-m-requires
pack_units-m-requires c =
    let a = c.args in
    let f = format_of a.fmt in
    let g = a.fmt.fits.fair in
    let b = c.fraction_mask.result.bits in
    let (l, q) = part_within a.fmt.fits a.x a.n b c.requires.exponent c.requires.within c.fraction_mask.ensures in
    rw (c.under-tail.ensures, c.exponent_field-up.ensures)
    (omega (arith, tail_few f g a.x c.requires.held b q l, pow-add 2 a.fmt.frac 1), tail_finite f g a.x c.requires.held b q l)

pub with_sign-requires : goal.with_sign-requires
with_sign-requires c =
    let a = c.args in
    let (l, q) = part_within a.fmt.fits a.x a.n c.fraction_mask.result.bits c.requires.exponent c.requires.within c.fraction_mask.ensures in
    rw (c.pack_units-m.ensures, c.under-tail.ensures, c.exponent_field-up.ensures)
    (tail_packed (format_of a.fmt) a.fmt.fits.fair a.x c.requires.held c.fraction_mask.result.bits q l)

pub returns-clause-fraction : goal.returns-clause-fraction
returns-clause-fraction c =
    let a = c.args in
    let (l, q) = part_within a.fmt.fits a.x a.n c.fraction_mask.result.bits c.requires.exponent c.requires.within c.fraction_mask.ensures in
    rw (c.with_sign.ensures, c.is_negative.ensures, c.pack_units-m.ensures, c.under-tail.ensures, c.exponent_field-up.ensures)
    (parts_within (format_of a.fmt) a.fmt.fits.fair a.x c.requires.held c.fraction_mask.result.bits q l).0

pub returns-clause-whole : goal.returns-clause-whole
returns-clause-whole c =
    let a = c.args in
    let (l, q) = part_within a.fmt.fits a.x a.n c.fraction_mask.result.bits c.requires.exponent c.requires.within c.fraction_mask.ensures in
    without_is a.x c.fraction_mask.result.bits c.under-tail.result c.under-tail.ensures
    ∙ (parts_within (format_of a.fmt) a.fmt.fits.fair a.x c.requires.held c.fraction_mask.result.bits q l).1
