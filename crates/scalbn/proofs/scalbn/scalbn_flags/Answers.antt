-- To the nearest, ties to even. Assumes nothing.
use mir.Facts.{to_z-of_z}
use Rattle.ieee.specs.Scalbn.{scalbn_of, scalbn_flags}
use Rattle.scalbn.proofs.scalbn.scalbn_flags.Goals as goal

pub returns-clause-value : goal.returns-clause-value
unfolding scalbn_of
returns-clause-value g c = simp (to_z-of_z, c.ranges.n) at c.scalbn_in.ensures.value

pub returns-clause-flags : goal.returns-clause-flags
unfolding scalbn_flags
returns-clause-flags g c = simp (to_z-of_z, c.ranges.n) at c.scalbn_in.ensures.flags
