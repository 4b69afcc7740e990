-- `word_division::digit::normal_shift` meets its contract: a number shifted left by its leading zeros fills its word. Assumes nothing.
use Rattle.std.proofs.Common.{arith}
use Rattle.algebra.proofs.Leading.{leading_fills}
use Rattle.word_division.proofs.digit.normal_shift.Goals as goal

pub returns : goal.returns
returns c = let fills = leading_fills 64 c.args.d c.requires c.ranges.d.fits in (omega arith, omega arith, omega arith)
