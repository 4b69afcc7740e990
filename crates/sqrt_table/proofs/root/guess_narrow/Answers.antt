-- The guess, a round, and the last step (Steps). Assumes nothing.
use Rattle.std.proofs.Common.{◌%◌, ◌^◌, arith}
use Rattle.sqrt_table.proofs.Steps.{ready, once, narrow_within}
use Rattle.sqrt_table.proofs.root.guess_narrow.Goals as goal

pub invariant_of-last : goal.invariant_of-last
invariant_of-last c =
    let n = once c.args.m (omega arith) (omega arith) c.args.r c.refine-t.result (c.requires.2.near, c.requires.2.small) c.refine-t.ensures in
    record { takes = ready c.args.m (omega arith) (omega arith) (c.refine-t.result % 2 ^ 32) 65799 n }

pub returns : goal.returns
returns c =
    let n = once c.args.m (omega arith) (omega arith) c.args.r c.refine-t.result (c.requires.2.near, c.requires.2.small) c.refine-t.ensures in
    narrow_within c.args.m (omega arith) (omega arith) (c.refine-t.result % 2 ^ 32) c.last.result n c.last.ensures
