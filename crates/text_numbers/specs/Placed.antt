-- The effect of every writer on its buffer: all or nothing. Assumes nothing.
use Rattle.std.specs.Prelude.{◌≡◌, cond, List, ℕ, ◌+◌, leb, length}
use Rattle.std.proofs.Math.Seq.{paste}

-- the buffer with ys from the offset at on, and the offset after them; where they do not fit, the buffer and the offset unchanged
pub record Placed (xs : List ℕ) (at : ℕ) (ys : List ℕ) (xs' : List ℕ) (at' : ℕ) : Type 0 where
  pub bytes : xs' ≡ cond (leb (at + length ys) (length xs)) (paste xs at ys (length ys)) xs
  pub offset : at' ≡ cond (leb (at + length ys) (length xs)) (at + length ys) at
