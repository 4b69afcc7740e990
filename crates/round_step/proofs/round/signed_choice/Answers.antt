-- The choice stays below the sign bit (Rounds). Assumes nothing.
use native.Mathlib.Omega.{arith}
use Rattle.ieee.specs.Round.{way_of}
use Rattle.fmt_fields.specs.Raised.{attribute_of}
use Rattle.round_step.proofs.Rounds.{finite_in_word, chosen_in_word}
use Rattle.round_step.proofs.round.signed_choice.Goals as goal

pub choose-requires : goal.choose-requires
choose-requires c = (finite_in_word c.args.fmt.fits c.args.c.below c.requires.0, c.requires.1)

pub with_sign-requires : goal.with_sign-requires
with_sign-requires c =
    omega (arith, c.choose.ensures, chosen_in_word c.args.fmt.fits c.args.c.below c.requires.0 (way_of (attribute_of c.args.attribute) c.args.neg) c.args.c.location)
