-- The bits under a mask are a remainder (Masks). Assumes nothing.
use Rattle.std.proofs.Math.Logic.{∥∥₁_elim}
use Rattle.std.proofs.Math.Nat.{ℕ_set}
use Rattle.integral.proofs.Masks.{under_is}
use Rattle.integral.proofs.mask.Mask.under.Goals as goal

pub returns : goal.returns
returns c = ∥∥₁_elim c.args.self.last (ℕ_set _ _) (under_is c.args.v c.args.self.bits)
