-- A fraction has 63 - frac more leading zeros in a word than in the format (Zeros). Assumes nothing.
use Rattle.std.proofs.Common.{arith}
use Rattle.fmt_decode.proofs.Zeros.{zeros_less}
use Rattle.fmt_decode.proofs.norm.zeros_before.Goals as goal

pub returns : goal.returns
returns c = omega (arith, zeros_less c.args.frac c.args.t (omega arith) c.requires.1 c.requires.2)

pub overflow_sub-result-2 : goal.overflow_sub-result-2
overflow_sub-result-2 c = omega (arith, zeros_less c.args.frac c.args.t (omega arith) c.requires.1 c.requires.2)
