-- Of what is neither normal nor subnormal the part says it at every attribute. Assumes nothing.
use Rattle.scalbn.proofs.rounded.scaled.Goals as goal

pub returns : goal.returns
returns c = c.special_scaled.ensures _ _
