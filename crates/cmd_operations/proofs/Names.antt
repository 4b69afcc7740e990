-- Each name of the table finds its own row, so no two operations share a name. Assumes nothing.
use Rattle.std.proofs.Common.{◌≡◌, ℕ, zero, suc, ◌+◌, ◌<◌, List, [], ◌∷◌, length, get_or, Option, Some, ap, ◌∙◌, arith, rules}
use Rattle.std.specs.Prelude.{option_map}
use Rattle.cmd_operations.specs.declared.table.Row.{Row}
use Rattle.cmd_operations.specs.Naming.{Named, same, row_in}
use Rattle.cmd_operations.specs.Table.{operations, unnamed, rows_of, row_of}

-- the number of the row that a name finds
abbrev pub number_of : Option Row → Option ℕ
number_of r = option_map (λ (w : Row). w.number) r

-- the rows from the number n on are each found under their number
abbrev Found : List Named → List Named → ℕ → Type 0
Found all [] n = Unit {0}
Found all (r ∷ rs) n = (number_of (row_in r.name all 0) ≡ Some n) × Found all rs (n + 1)

found_at : (all rs : List Named) (n k : ℕ) → Found all rs n → k < length rs → number_of (row_in (get_or rs k unnamed.row).name all 0) ≡ Some (n + k)
found_at all [] n k h less = absurd (omega arith)
found_at all (r ∷ rs) n zero h less = h.0 ∙ ap Some (omega arith)
found_at all (r ∷ rs) n (suc k) h less = found_at all rs (n + 1) k h.1 (omega arith) ∙ ap Some (omega arith)

pub every_name_found : (k : ℕ) → k < length (rows_of operations) → number_of (row_of (get_or (rows_of operations) k unnamed.row).name) ≡ Some k
unfolding row_of row_in same
every_name_found k less = found_at (rows_of operations) (rows_of operations) 0 k (search rules) less ∙ ap Some (omega arith)
