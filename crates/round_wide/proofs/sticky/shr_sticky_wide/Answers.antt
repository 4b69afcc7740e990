-- The quotient and the mark of the dropped bits make up the number, and the lower word takes the mark (Told). Assumes nothing.
use Prim.Native.Nat.{◌^◌}
use Rattle.word_wide.specs.Value.{value}
use Rattle.round_wide.proofs.Told.{stuck_told_wide}
use Rattle.round_wide.proofs.sticky.shr_sticky_wide.Goals as goal

pub returns : goal.returns
returns c =
    let s = c.args in
    let k = c.shr-kept in
    stuck_told_wide (2 ^ 63) (value s.v) s.k k.result.value.hi k.result.value.lo _ _ k.ensures.0 k.ensures.1 c.set_sticky.ensures
