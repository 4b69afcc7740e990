-- Every answer is a pattern (Rows). Assumes nothing.
use Rattle.ieee.specs.Round.{ties_to_even}
use Rattle.sqrt.proofs.Rows.{answer_held}
use Rattle.sqrt.proofs.sqrt.special.Goals as goal

pub narrow-requires : goal.narrow-requires
narrow-requires g c =
    answer_held c.format-fmt.result.fits c.format-fmt.ensures c.widen-pattern.ensures.value c.widen-pattern.ensures.held (c.sqrt_special.ensures ties_to_even)
