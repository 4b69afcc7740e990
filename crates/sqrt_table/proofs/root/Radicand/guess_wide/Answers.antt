-- The last step on the whole word (Steps). Assumes nothing.
use Rattle.std.proofs.Common.{◌*◌, ◌^◌, arith}
use Rattle.sqrt_table.proofs.Steps.{wide_within}
use Rattle.sqrt_table.proofs.root.Radicand.guess_wide.Goals as goal

pub returns : goal.returns
returns c =
    let r = c.reciprocal_root.ensures in
    wide_within c.args.self.word c.args.self.least (omega arith) (c.reciprocal_root.result * 2 ^ 32) c.last_wide.result (omega (arith, r.0)) r.1 c.last_wide.ensures
