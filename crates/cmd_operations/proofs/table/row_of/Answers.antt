-- `cmd_operations::table::row_of` meets its contract: the table of the code is that of the definition. Assumes nothing.
use Rattle.cmd_operations.specs.Table.{row_of}
use Rattle.cmd_operations.proofs.table.row_of.Goals as goal

pub returns : goal.returns
unfolding row_of
returns c = c.find_row.ensures
