-- The name that a request begins with. Assumes nothing.
use Rattle.std.specs.Prelude.{ℕ, ◌+◌, min, List, [], ◌∷◌}
use Rattle.text_lines.specs.Offsets.{offset_of, part_of}

-- up to the first blank, or to the first dot and with it, where that one comes first
unfoldable pub name_of : List ℕ → List ℕ
name_of s = part_of s 0 (min (offset_of (46 ∷ []) s 0 + 1) (offset_of (32 ∷ []) s 0))
