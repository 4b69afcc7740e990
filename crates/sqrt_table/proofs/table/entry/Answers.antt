-- An entry has 16 bits (Rule). Assumes nothing.
use Rattle.std.proofs.Common.{arith}
use Rattle.sqrt_table.proofs.Rule.{entry_small}
use Rattle.sqrt_table.proofs.table.entry.Goals as goal

pub overflow_cast-result : goal.overflow_cast-result
overflow_cast-result c = record { fits = omega (arith, entry_small c.args.i c.requires) }
