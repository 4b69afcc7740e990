-- `word_wide::shift::shl` meets its contract: by a word or more the low word becomes the high one. Assumes nothing.
use Rattle.std.proofs.Common.{◌-◌, ◌^◌, arith, pow_pos}
use Rattle.algebra.proofs.Powers.{pow_diff}
use Rattle.word_wide.proofs.Shifts.{left_by_word}
use Rattle.word_wide.proofs.shift.shl.Goals as goal

pub returns-then-k-ge64 : goal.returns-then-k-ge64
returns-then-k-ge64 c =
    let k = c.args.k in
    left_by_word (2 ^ 64) (2 ^ (k - 64)) (2 ^ k) c.args.a.hi c.args.a.lo (pow_diff c.if-k-ge64.true) (pow_pos (k - 64)) c.requires.1 _ (omega arith)
