-- `reduce::refusal::refusal_of` meets its contract: each test is a refusal (Numbers). Assumes nothing.
use native.Mathlib.Omega.{arith}
use Rattle.reduce.proofs.Numbers.{divisor_past_limit, x_not_below, shift_past_limit, accepted}
use Rattle.reduce.proofs.refusal.refusal_of.Goals as goal

pub returns-then-y-pow : goal.returns-then-y-pow
returns-then-y-pow c = divisor_past_limit c.args.bits _ _ _ (omega (arith, c.pow.ensures))

pub returns-then-x-y : goal.returns-then-x-y
returns-then-x-y c = x_not_below c.args.bits _ _ _ (omega arith)

pub returns-then-e-gt4096 : goal.returns-then-e-gt4096
returns-then-e-gt4096 c = shift_past_limit c.args.bits _ _ _ (omega (arith, c.pow.ensures)) (omega arith) (omega arith)

pub returns : goal.returns
returns c = accepted c.args.bits _ _ _ (omega arith) (omega (arith, c.pow.ensures)) (omega arith)
