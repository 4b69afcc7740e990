-- The zeros at the end are counted by the bits below the lowest one (Fractions). Assumes nothing.
use Rattle.std.proofs.Common.{arith}
use Rattle.hex_write.proofs.Fractions.{aligned, no_fraction, aligned_room, zeros_fewer, zeros_room, fraction_kept}
use Rattle.hex_write.proofs.parts.fraction_part.Goals as goal

pub returns-then-t-eq0 : goal.returns-then-t-eq0
returns-then-t-eq0 c = no_fraction c.args.fmt.frac c.args.fmt.expo c.args.t c.if-t-eq0.true

pub overflow_mul-aligned : goal.overflow_mul-aligned
overflow_mul-aligned c = record { fits = aligned_room (aligned c.args.fmt.fits c.if-t-eq0.false c.requires c.pow.ensures) }

pub pow-requires-2 : goal.pow-requires-2
pow-requires-2 c = zeros_room (aligned c.args.fmt.fits c.if-t-eq0.false c.requires c.pow.ensures)

pub overflow_sub-result : goal.overflow_sub-result
overflow_sub-result c = omega (arith, zeros_fewer (aligned c.args.fmt.fits c.if-t-eq0.false c.requires c.pow.ensures))

pub returns : goal.returns
returns c = fraction_kept (aligned c.args.fmt.fits c.if-t-eq0.false c.requires c.pow.ensures) c.pow-2.result c.pow-2.ensures
