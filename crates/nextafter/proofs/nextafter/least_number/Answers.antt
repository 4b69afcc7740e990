-- The magnitude 1 is below the sign bit. Assumes nothing.
use Rattle.std.proofs.Common.{arith}
use Rattle.ieee.proofs.Patterns.{inf_below_top}
use Rattle.fmt_fields.specs.Layout.{format_of}
use Rattle.fmt_fields.proofs.Numbers.{infinity_some}
use Rattle.nextafter.proofs.nextafter.least_number.Goals as goal

pub with_sign-requires : goal.with_sign-requires
with_sign-requires c = omega (arith, infinity_some c.args.fmt.fits, inf_below_top (format_of c.args.fmt))
