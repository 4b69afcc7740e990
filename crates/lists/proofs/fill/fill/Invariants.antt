-- The places below i are filled. Assumes nothing.
use Rattle.std.proofs.Common.{ℕ, ◌<◌, slice_index}
use Rattle.lists.proofs.fill.fill.Given as goal

abbrev pub invariant-loop-i : goal.invariant-loop-i
invariant-loop-i g l = (k : ℕ) → k < l.i → goal.F-post g l.f (slice_index l.xs k) (slice_index l.ys k)
