-- `word_wide::sum::WideOrd::cmp` meets its contract: the upper words decide where they differ. Assumes nothing.
use Rattle.std.proofs.Common.{◌^◌, ◌∙◌, arith}
use Rattle.word_wide.proofs.Pairs.{upper_order}
use Rattle.word_wide.proofs.sum.WideOrd.cmp.Goals as goal

pub returns : goal.returns
returns c =
    let a = c.args.self.now in
    let b = c.args.other.now in
    c.cmp-2.ensures ∙ upper_order (2 ^ 64) a.hi a.lo b.hi b.lo (omega arith) (omega arith) c.if-self-other.false
