-- A NaN's magnitude exceeds infinity's, and a zero or an infinity is left (Method). Assumes nothing.
use Rattle.std.proofs.Common.{◌∙◌, arith}
use Rattle.fmt_fields.specs.Layout.{format_of}
use Rattle.fmt_fields.proofs.Numbers.{infinity_some}
use Rattle.frexp.proofs.Method.{frexp_nan, frexp_stays}
use Rattle.frexp.proofs.frexp.frexp_aside.Goals as goal

pub returns-then-magnitude_of-infinity-clause-fraction : goal.returns-then-magnitude_of-infinity-clause-fraction
returns-then-magnitude_of-infinity-clause-fraction c =
    c.nan.ensures ∙ (frexp_nan (format_of c.args.fmt) (infinity_some c.args.fmt.fits) c.args.x (omega (arith, c.magnitude_of.ensures, c.infinity.ensures))).0

pub returns-then-magnitude_of-infinity-clause-exponent : goal.returns-then-magnitude_of-infinity-clause-exponent
returns-then-magnitude_of-infinity-clause-exponent c =
    (frexp_nan (format_of c.args.fmt) (infinity_some c.args.fmt.fits) c.args.x (omega (arith, c.magnitude_of.ensures, c.infinity.ensures))).1

pub returns-clause-fraction : goal.returns-clause-fraction
returns-clause-fraction c =
    (frexp_stays (format_of c.args.fmt) (infinity_some c.args.fmt.fits) c.args.x c.requires (omega (arith, c.magnitude_of.ensures, c.infinity.ensures))).0

pub returns-clause-exponent : goal.returns-clause-exponent
returns-clause-exponent c =
    (frexp_stays (format_of c.args.fmt) (infinity_some c.args.fmt.fits) c.args.x c.requires (omega (arith, c.magnitude_of.ensures, c.infinity.ensures))).1
