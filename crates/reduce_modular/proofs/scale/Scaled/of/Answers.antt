-- Scaled to 2^61, y is a power of two (reduce_laws: Scales). Assumes nothing.
use Prim.Native.Nat.{◌*◌, ◌^◌}
use mathlib.Core.Path.{sym, ◌∙◌}
use native.Mathlib.Omega.{arith}
use borrow.Author.Tests.{eqb-true}
use Rattle.reduce_laws.proofs.Scales.{power_scaled}
use Rattle.reduce_modular.proofs.scale.Scaled.of.Goals as goal

pub returns-then-is_power : goal.returns-then-is_power
returns-then-is_power c =
    let y = c.args.y in
    let s = c.scale_of-s.result in
    power_scaled y s 61 (omega arith) (eqb-true (y * 2 ^ s) (2 ^ 61) (sym c.is_power.ensures ∙ c.if-is_power.true))
