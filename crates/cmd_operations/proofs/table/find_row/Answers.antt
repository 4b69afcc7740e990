-- `cmd_operations::table::find_row` meets its contract: `find` stops at the row of the name. Assumes nothing.
use Rattle.std.proofs.Common.{rules, tests, ◌∙◌}
use Rattle.std.proofs.lemmas.Iterator.{YieldsList-from_slice}
use Rattle.std.proofs.lemmas.Iterator.Consumers.{YieldsList-from_enumerate}
use Rattle.std.proofs.lemmas.Iterator.Search.{find_from_yields_List}
use Rattle.cmd_operations.specs.Naming.{as_named}
use Rattle.cmd_operations.proofs.Naming.{row_found, is_here}
use Rattle.cmd_operations.proofs.table.find_row.Goals as goal

pub returns-in_err-number : goal.returns-in_err-number
returns-in_err-number c =
    let s = c.args.s.now in
    let rows = c.args.operations.now in
    let searched =
    find_from_yields_List (is_here as_named s) _ _ c.find.result c.find.ensures.ran (YieldsList-from_enumerate (YieldsList-from_slice rows cc) cc) (λ x b q k. search (rules, tests))
    in
    c.from_residual.ensures ∙ rw (← searched, c.in_err-number.was) at (row_found as_named s rows 0)

pub returns : goal.returns
returns c =
    let s = c.args.s.now in
    let rows = c.args.operations.now in
    let searched =
    find_from_yields_List (is_here as_named s) _ _ c.find.result c.find.ensures.ran (YieldsList-from_enumerate (YieldsList-from_slice rows cc) cc) (λ x b q k. search (rules, tests))
    in
    rw (← searched, c.in_ok-number.was) at (row_found as_named s rows 0)
