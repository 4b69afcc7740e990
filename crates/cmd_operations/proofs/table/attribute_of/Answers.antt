-- `cmd_operations::table::attribute_of` meets its contract: the names of the code are those of the definition. Assumes nothing.
use Rattle.std.proofs.Common.{rules, tests, ℕ, List, [], Bor, eqb, ◌∙◌}
use Rattle.std.specs.Cmp.Lexicographic.{pointwise}
use Rattle.std.proofs.lemmas.Iterator.{YieldsList-from_slice}
use Rattle.std.proofs.lemmas.Iterator.Search.{position_from_yields_List}
use Rattle.cmd_operations.specs.Naming.{Named}
use Rattle.cmd_operations.specs.Table.{attribute_of}
use Rattle.cmd_operations.proofs.Naming.{number_found}
use Rattle.cmd_operations.proofs.table.attribute_of.Goals as goal

abbrev as_named : Bor (List ℕ) → Named
as_named r = record { name = r.now; operands = []; answers = [] }

pub returns : goal.returns
unfolding attribute_of
returns c =
    let s = c.args.s in
    let names = c.iter.result.rest.now in
    let searched =
    position_from_yields_List (λ (r : Bor (List ℕ)). pointwise eqb s.now r.now) _ _ c.position.result c.position.ensures.ran (YieldsList-from_slice names cc) (λ x b q k. search (rules, tests))
    in
    number_found as_named s.now names _ searched ∙ rw c.iter.ensures.rest
