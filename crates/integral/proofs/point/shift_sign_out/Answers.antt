-- In a word of 64 bits the sign is shifted out (Choices). Assumes nothing.
use Rattle.integral.proofs.Choices.{sign_out}
use Rattle.integral.proofs.point.shift_sign_out.Goals as goal

pub returns : goal.returns
returns c = sign_out c.args.fmt.fits c.args.x
