-- Infinity is not the first magnitude (fmt_fields: Numbers). Assumes nothing.
use native.Mathlib.Omega.{arith}
use Rattle.fmt_fields.proofs.Numbers.{infinity_some}
use Rattle.round_step.proofs.flags.overflows.Goals as goal

pub overflow_sub-infinity : goal.overflow_sub-infinity
overflow_sub-infinity c = omega (arith, c.infinity.ensures, infinity_some c.args.fmt.fits)
