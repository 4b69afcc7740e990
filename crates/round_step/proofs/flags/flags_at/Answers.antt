-- A finite magnitude is below the sign bit (Rounds). Assumes nothing.
use native.Mathlib.Omega.{arith}
use Rattle.round_step.proofs.Rounds.{finite_in_word}
use Rattle.round_step.proofs.flags.flags_at.Goals as goal

pub is_tiny-requires : goal.is_tiny-requires
is_tiny-requires c =
    (omega (arith, c.args.fmt.fits.word), finite_in_word c.args.fmt.fits c.args.c.below c.requires)
