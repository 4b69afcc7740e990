-- A pattern that is not set aside is a normal positive number (Asides). Assumes nothing.
use Rattle.std.proofs.Common.{sym, ◌∙◌}
use Rattle.sqrt.proofs.Asides.{stays_at}
use Rattle.sqrt.proofs.sqrt.sqrt.Goals as goal

pub sqrt_normal-requires : goal.sqrt_normal-requires
sqrt_normal-requires g c = stays_at c.format.ensures _ (sym c.set_aside.ensures ∙ c.if-set_aside.false)
