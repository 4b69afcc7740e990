-- To the nearest is under that attribute. Assumes nothing.
use Rattle.ieee.specs.Sqrt.{sqrt_of, sqrt_flags}
use Rattle.sqrt.proofs.sqrt.sqrt_flags.Goals as goal

pub returns-clause-value : goal.returns-clause-value
unfolding sqrt_of
returns-clause-value g c = c.sqrt_in.ensures.value

pub returns-clause-flags : goal.returns-clause-flags
unfolding sqrt_flags
returns-clause-flags g c = c.sqrt_in.ensures.flags
