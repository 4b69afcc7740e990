-- A step doubles what is left of the carried number (Doublings). Assumes nothing.
use native.Mathlib.Nat.{mod-lt}
use native.Mathlib.Omega.{arith}
use Rattle.reduce_stepwise.proofs.Doublings.{doubled_again}
use Rattle.reduce_stepwise.proofs.reduce_stepwise.Goals as goal

pub loop-preserved : goal.loop-preserved
loop-preserved c =
    let a = c.args in (
      doubled_again a.x c.loop.counter a.y c.loop.r c.subtract_once-r.result c.loop.invariant.0 c.subtract_once-r.ensures,
      omega (arith, c.subtract_once-r.ensures, mod-lt c.loop.r {m = a.y} (omega arith)),
    )
