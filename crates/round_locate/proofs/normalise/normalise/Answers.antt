-- Shifted left by its leading zeros, the significand fills its word and loses no bit (algebra: Leading). Assumes nothing.
use Rattle.std.proofs.Common.{mod-eq_of_lt, arith, to_z-of_z}
use Rattle.algebra.proofs.Leading.{leading_fills}
use Rattle.round_locate.proofs.normalise.normalise.Goals as goal

pub returns : goal.returns
returns c = (
  mod-eq_of_lt (leading_fills 64 c.args.sig (omega arith) (omega arith)).most,
  simp (to_z-of_z, c.ranges.exp) at c.offset_exponent.ensures,
)
