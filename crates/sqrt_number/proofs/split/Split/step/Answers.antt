-- The step by the first seven bits of the significand (Splits). Assumes nothing.
use native.Mathlib.Omega.{arith}
use Rattle.sqrt_number.proofs.Splits.{seven_bits, step_serves}
use Rattle.sqrt_number.proofs.split.Split.step.Goals as goal

pub overflow_sub-result-2 : goal.overflow_sub-result-2
overflow_sub-result-2 c = omega (arith, seven_bits c.args.frac c.args.self.sig c.args.self.up c.requires.0 c.requires.1)

pub returns : goal.returns
returns c = step_serves c.args.frac c.args.self.sig c.args.self.up c.requires.0 c.requires.1
