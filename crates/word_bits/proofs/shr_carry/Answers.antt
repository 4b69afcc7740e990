-- The two shifts and k add up to a word. Assumes nothing.
use Prim.Native.Nat.{◌-◌, ◌^◌}
use native.Mathlib.Omega.{arith}
use Rattle.word_bits.proofs.TwoShifts.{below_by_shifts}
use Rattle.word_bits.proofs.shr_carry.Goals as goal

pub returns : goal.returns
returns c = below_by_shifts (2 ^ 64) c.args.a _ (64 - c.args.k) (omega arith)
