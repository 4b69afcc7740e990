-- The three products of the last step (Steps). Assumes nothing.
use Rattle.sqrt_table.proofs.Steps.{wide_room, wide_is}
use Rattle.sqrt_table.proofs.root.last_wide.Goals as goal

pub returns : goal.returns
returns c =
    wide_is c.args.m c.args.r c.mul_hi-s.result c.mul_hi-d.result c.mul_hi-s.ensures c.mul_hi-d.ensures
    c.mul_hi.result c.mul_hi.ensures

pub overflow_sub-u : goal.overflow_sub-u
overflow_sub-u c =
    wide_room c.args.m c.args.r c.mul_hi-s.result c.mul_hi-d.result c.mul_hi-s.ensures c.mul_hi-d.ensures
    c.ranges.m.fits c.ranges.r.fits c.requires
