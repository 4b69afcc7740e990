-- The fraction's bits, all set, shifted right, are the last of a word (Masks). Assumes nothing.
use Rattle.std.proofs.Common.{◌-◌, ◌/◌, ◌%◌, ◌^◌, sym, subst}
use Rattle.integral.specs.Point.{Mask}
use Rattle.integral.proofs.Masks.{behind_mask}
use Rattle.integral.proofs.point.fraction_mask.Goals as goal

pub invariant_of-result : goal.invariant_of-result
invariant_of-result c = record { last = ∣ subst (λ h. Mask ((h - 1) / 2 ^ (c.args.n % 64))) (sym c.pow.ensures) (behind_mask c.args.frac c.args.n) ∣₁ }
