-- A text has at most 24 bytes (Lengths). Assumes nothing.
use native.Mathlib.Omega.{arith}
use Rattle.paskerotim_c.proofs.Lengths.{length32_below}
use Rattle.paskerotim_c.proofs.pk_write_hex32.Goals as goal

pub put_length-requires : goal.put_length-requires
put_length-requires c = length32_below c.args.x c.args.out.now (omega (arith, c.ranges.x)) c.write_hex.ensures.answer
