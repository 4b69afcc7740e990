-- The sum in one word rounds as the parts do (Parts). Assumes nothing.
use native.Mathlib.Omega.{arith}
use Rattle.fmt_fields.proofs.Widths.{fits32}
use Rattle.fma.proofs.Parts.{by_parts}
use Rattle.fma.proofs.fused.U32Fused.fused.Goals as goal

pub returns-clause-sum : goal.returns-clause-sum
returns-clause-sum c =
    λ a. by_parts fits32 c.args.x c.args.y c.args.z c.requires a 38 (omega arith) (omega arith) c.product_of-p.ensures.0 c.third_of.ensures.0 c.add_third.ensures.0
