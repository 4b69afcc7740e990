-- The part of a line that is kept while it is read. Assumes nothing.
use Rattle.std.specs.Prelude.{ℕ, ◌-◌, ◌≡◌, true, false, cond, List, ltb, length, take}
use Rattle.text_numbers.specs.Placed.{Placed}
use Rattle.text_lines.specs.declared.line.Line.{Line}

-- no byte kept, and none dropped
abbrev pub none_kept : Line → Type 0
none_kept k = (k.held ≡ 0) × (k.is_long ≡ false)

-- the bytes s appended to those kept, as far as there is room, and whether there were more
pub record MoreKept (k : Line) (s : List ℕ) (k' : Line) : Type 0 where
  pub bytes : Placed k.bytes k.held (take (128 - k.held) s) k'.bytes k'.held
  pub more : k'.is_long ≡ cond (ltb (128 - k.held) (length s)) true k.is_long
