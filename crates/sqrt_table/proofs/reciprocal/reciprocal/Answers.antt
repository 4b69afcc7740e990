-- An entry has 16 bits (Rule). Assumes nothing.
use Rattle.std.proofs.Common.{arith}
use Rattle.sqrt_table.proofs.Rule.{entry_small}
use Rattle.sqrt_table.proofs.reciprocal.reciprocal.Goals as goal

pub overflow_mul-result : goal.overflow_mul-result
overflow_mul-result c = record { fits = omega (arith, c.packed_entry.ensures, entry_small c.args.i c.requires) }
