-- The point is one byte (Sizes). Assumes nothing.
use Rattle.std.proofs.Common.{sym, arith}
use Rattle.hex_write.proofs.Sizes.{none_size, point_size}
use Rattle.hex_write.proofs.write.behind_size.Goals as goal

pub returns-then-count-eq0-clause-size : goal.returns-then-count-eq0-clause-size
returns-then-count-eq0-clause-size c n = none_size c.args.count n c.if-count-eq0.true

pub returns-else-count-eq0-clause-size : goal.returns-else-count-eq0-clause-size
returns-else-count-eq0-clause-size c n = sym (point_size c.args.count n (omega (arith, c.if-count-eq0.false)))
