-- The row's word, and the entry's 16 bits in it (Rule). Assumes nothing.
use Rattle.std.proofs.Common.{◌*◌, ◌/◌, ◌%◌, ◌^◌, ap, ◌∙◌}
use Rattle.sqrt_table.proofs.Rule.{unpacked}
use Rattle.sqrt_table.proofs.reciprocal.packed_entry.Goals as goal

pub returns : goal.returns
returns c =
    ap (λ w. w / 2 ^ (16 * (c.args.i % 4)) % 2 ^ 16) c.row-w.ensures ∙ unpacked c.args.i c.requires
