-- A pattern that has a root is a positive number (Asides); the others have one answer under every attribute. Assumes nothing.
use Rattle.std.proofs.Common.{sym, ◌∙◌}
use Rattle.ieee.specs.Round.{ties_to_even}
use Rattle.ieee.specs.Sqrt.{sqrt_of}
use Rattle.sqrt.proofs.Asides.{rooted_at}
use Rattle.sqrt.proofs.sqrt.sqrt_aside.Goals as goal

pub returns-then-has_no_root : goal.returns-then-has_no_root
unfolding sqrt_of
returns-then-has_no_root g c = c.special.ensures.value ties_to_even

pub sqrt_number-requires : goal.sqrt_number-requires
sqrt_number-requires g c = rooted_at c.format.ensures _ (sym c.has_no_root.ensures ∙ c.if-has_no_root.false)
