-- The guess and two rounds, on the upper half (Steps). Assumes nothing.
use Rattle.std.proofs.Common.{◌/◌, ◌%◌, ◌^◌, arith}
use Rattle.sqrt_table.proofs.Steps.{ready, once, again, whole}
use Rattle.sqrt_table.proofs.root.Radicand.reciprocal_root.Goals as goal

pub invariant_of-refine-2 : goal.invariant_of-refine-2
invariant_of-refine-2 c =
    let m = c.args.self.word / 2 ^ 32 in
    let b = c.args.self.begins in
    let l = c.args.self.least in
    let n = once m (omega arith) (omega arith) c.args.self.guess c.refine-r.result (b.near, b.small) c.refine-r.ensures in
    record { takes = ready m (omega arith) (omega arith) (c.refine-r.result % 2 ^ 32) 65799 n }

pub returns : goal.returns
returns c =
    let m = c.args.self.word / 2 ^ 32 in
    let b = c.args.self.begins in
    let l = c.args.self.least in
    let n = once m (omega arith) (omega arith) c.args.self.guess c.refine-r.result (b.near, b.small) c.refine-r.ensures in
    whole c.args.self.word (omega arith) (omega arith) c.refine.result (again m (omega arith) (omega arith) (c.refine-r.result % 2 ^ 32) c.refine.result n c.refine.ensures)
