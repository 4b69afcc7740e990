-- `reduce_modular::modular::by_power` meets its contract: the bits below a power of two (reduce_laws: Scales). Assumes nothing.
use native.Mathlib.Omega.{arith}
use Rattle.reduce_laws.proofs.Scales.{power_leaves_low_bits, power_leaves_nothing}
use Rattle.reduce_modular.proofs.modular.by_power.Goals as goal

pub returns-then-e-ge64 : goal.returns-then-e-ge64
returns-then-e-ge64 c = power_leaves_nothing 64 c.args.x c.args.e c.args.y c.requires (omega arith) (omega arith)

pub returns : goal.returns
returns c = power_leaves_low_bits 64 c.args.x c.args.e c.args.y c.requires (omega arith)
