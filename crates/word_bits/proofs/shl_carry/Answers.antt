-- The two shifts and k add up to a word. Assumes nothing.
use native.Mathlib.Omega.{arith}
use Rattle.word_bits.proofs.TwoShifts.{above_by_shifts}
use Rattle.word_bits.proofs.shl_carry.Goals as goal

pub returns : goal.returns
returns c = above_by_shifts 64 c.args.a _ 1 c.args.k (omega arith)
