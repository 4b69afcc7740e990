-- The nearest even is put in. Assumes nothing.
use Rattle.ieee.specs.Fma.{fma_of, fma_flags}
use Rattle.fma.proofs.fma.fma_flags.Goals as goal

pub returns-clause-value : goal.returns-clause-value
unfolding fma_of
returns-clause-value g c = c.fma_in.ensures.value

pub returns-clause-flags : goal.returns-clause-flags
unfolding fma_flags
returns-clause-flags g c = c.fma_in.ensures.flags
