-- Below 1 all of x is behind the point, from 2 ^ frac on nothing is (Modfs). Assumes nothing.
use Rattle.std.proofs.Common.{ap, ◌∙◌, arith}
use Rattle.ieee.specs.Pattern.{signed}
use Rattle.fmt_fields.specs.Layout.{format_of}
use Rattle.integral.proofs.Choices.{exponent_at}
use Rattle.integral.proofs.Modfs.{parts_below, parts_whole, parts_nan}
use Rattle.integral.proofs.modf.modf_undivided.Goals as goal

pub returns-then-exponent_field-bias-clause-fraction : goal.returns-then-exponent_field-bias-clause-fraction
returns-then-exponent_field-bias-clause-fraction c =
    (parts_below (format_of c.args.fmt) c.args.fmt.fits.fair c.args.x c.requires.held (omega (arith, c.exponent_field.ensures, c.bias.ensures))).0

pub returns-then-exponent_field-bias-clause-whole : goal.returns-then-exponent_field-bias-clause-whole
returns-then-exponent_field-bias-clause-whole c =
    let f = format_of c.args.fmt in
    c.with_sign-zero.ensures
    ∙ ap (λ b. signed f b 0) c.is_negative.ensures
    ∙ (parts_below f c.args.fmt.fits.fair c.args.x c.requires.held (omega (arith, c.exponent_field.ensures, c.bias.ensures))).1

pub returns-then-magnitude_of-infinity-clause-fraction : goal.returns-then-magnitude_of-infinity-clause-fraction
returns-then-magnitude_of-infinity-clause-fraction c =
    c.nan.ensures ∙ (parts_nan (format_of c.args.fmt) c.args.fmt.fits.fair c.args.x c.requires.held (omega (arith, c.infinity.ensures, c.magnitude_of.ensures))).0

pub returns-then-magnitude_of-infinity-clause-whole : goal.returns-then-magnitude_of-infinity-clause-whole
returns-then-magnitude_of-infinity-clause-whole c =
    c.nan-then-magnitude_of-infinity.ensures
    ∙ (parts_nan (format_of c.args.fmt) c.args.fmt.fits.fair c.args.x c.requires.held (omega (arith, c.infinity.ensures, c.magnitude_of.ensures))).1

pub returns-clause-fraction : goal.returns-clause-fraction
returns-clause-fraction c =
    let f = format_of c.args.fmt in
    let e = exponent_at c.args.fmt.fits c.args.x (omega (arith, c.exponent_field.ensures, c.bias.ensures)) in
    c.with_sign-zero.ensures
    ∙ ap (λ b. signed f b 0) c.is_negative.ensures
    ∙ (parts_whole f c.args.fmt.fits.fair c.args.x c.requires.held (omega (arith, c.requires.undivided)) (omega (arith, c.infinity.ensures, c.magnitude_of.ensures))).0

pub returns-clause-whole : goal.returns-clause-whole
returns-clause-whole c =
    let e = exponent_at c.args.fmt.fits c.args.x (omega (arith, c.exponent_field.ensures, c.bias.ensures)) in
    (parts_whole (format_of c.args.fmt) c.args.fmt.fits.fair c.args.x c.requires.held (omega (arith, c.requires.undivided)) (omega (arith, c.infinity.ensures, c.magnitude_of.ensures))).1
