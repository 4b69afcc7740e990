-- To the nearest, ties to even. Assumes nothing.
use mir.Facts.{to_z-of_z}
use Rattle.ieee.specs.Scalbn.{scalbn_of}
use Rattle.scalbn.proofs.scalbn.scalbn.Goals as goal

pub returns : goal.returns
unfolding scalbn_of
returns g c = simp (to_z-of_z, c.ranges.n) at c.scalbn_in.ensures.value
