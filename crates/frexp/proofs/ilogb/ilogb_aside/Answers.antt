-- An infinity shows by its magnitude, and a zero or a NaN is left (Method). Assumes nothing.
use Rattle.std.proofs.Common.{arith}
use Rattle.fmt_fields.specs.Layout.{format_of}
use Rattle.fmt_fields.proofs.Numbers.{infinity_some}
use Rattle.frexp.proofs.Method.{ilogb_infinity, ilogb_none}
use Rattle.frexp.proofs.ilogb.ilogb_aside.Goals as goal

pub returns-then-magnitude_of-infinity : goal.returns-then-magnitude_of-infinity
returns-then-magnitude_of-infinity c =
    ilogb_infinity (format_of c.args.fmt) (infinity_some c.args.fmt.fits) c.args.x (omega (arith, c.magnitude_of.ensures, c.infinity.ensures))

pub returns : goal.returns
returns c =
    ilogb_none (format_of c.args.fmt) (infinity_some c.args.fmt.fits) c.args.x c.requires (λ e. c.if-magnitude_of-infinity.false (omega (arith, e, c.magnitude_of.ensures, c.infinity.ensures)))
