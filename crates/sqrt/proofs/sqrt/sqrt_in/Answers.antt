-- A pattern that has a root is a positive number (Asides). Assumes nothing.
use Rattle.std.proofs.Common.{sym, ◌∙◌}
use Rattle.sqrt.proofs.Asides.{rooted_at}
use Rattle.sqrt.proofs.sqrt.sqrt_in.Goals as goal

pub sqrt_number_in-requires : goal.sqrt_number_in-requires
sqrt_number_in-requires g c = rooted_at c.format.ensures _ (sym c.has_no_root.ensures ∙ c.if-has_no_root.false)
