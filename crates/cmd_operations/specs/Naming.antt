-- Tables of names, and the row of a name in one. Assumes nothing.
use Rattle.std.specs.Prelude.{ℕ, ◌+◌, Bool, true, false, cond, not, ◌&&◌, List, [], ◌∷◌, ◌==◌, Option, Some, None}
use Prim.Native.Char.{code}
use Prim.Native.String.{String, [] as ε, ◌∷◌ as ◌▹◌}
use Rattle.cmd_operations.specs.declared.table.Kind.{Kind}
use Rattle.cmd_operations.specs.declared.table.Operation.{Operation}
use Rattle.cmd_operations.specs.declared.table.Row.{Row}

abbrev pub bytes_of : String → List ℕ
bytes_of ε = []
bytes_of (c ▹ s) = code c ∷ bytes_of s

-- a name, and the kinds that go with it
pub record Named : Type 0 where
  pub name : List ℕ
  pub operands : List (Option Kind)
  pub answers : List (Option Kind)

-- a row of the code's table
abbrev pub as_named : Operation → Named
as_named o = record { name = o.name.now; operands = o.operands; answers = o.answers }

-- b is none of the bytes
unfoldable pub without : ℕ → List ℕ → Bool
without b [] = true
without b (c ∷ s) = not (c == b) && without b s

unfoldable pub same : List ℕ → List ℕ → Bool
same [] [] = true
same [] (b ∷ t) = false
same (a ∷ s) [] = false
same (a ∷ s) (b ∷ t) = a == b && same s t

abbrev pub row_at : ℕ → Named → Row
row_at n r = record { number = n; operands = r.operands; answers = r.answers }

-- the row of the name s, where the first row has the number n; nothing where no row has that name
unfoldable pub row_in : List ℕ → List Named → ℕ → Option Row
row_in s [] n = None
row_in s (r ∷ rs) n = cond (same s r.name) (Some (row_at n r)) (row_in s rs (n + 1))
