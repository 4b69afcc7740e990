-- `reduce_modular::scale::scale_of` meets its contract: all but two of the leading zeros (reduce_laws: Scales). Assumes nothing.
use mathlib.Core.Path.{refl}
use native.Mathlib.Omega.{arith}
use Rattle.reduce_laws.proofs.Scales.{scaled}
use Rattle.reduce_modular.proofs.scale.scale_of.Goals as goal

pub overflow_sub-result : goal.overflow_sub-result
overflow_sub-result c = (scaled {w = 64} (omega arith) c.requires.0 c.requires.1).two

pub returns : goal.returns
returns c = let s = scaled {w = 64} (omega arith) c.requires.0 c.requires.1 in (refl, omega (arith, s.few), s.least, s.most, s.grown)
