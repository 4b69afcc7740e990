-- The sum of two words is folded into one that rounds as it does (Parts). Assumes nothing.
use Prim.Native.Nat.{◌^◌}
use native.Mathlib.Omega.{arith}
use Rattle.fmt_fields.proofs.Widths.{fits64}
use Rattle.fma.proofs.Parts.{by_parts, by_fold, upper_below}
use Rattle.fma.proofs.fused.U64Fused.fused.Goals as goal

pub returns-clause-sum : goal.returns-clause-sum
returns-clause-sum c =
    let two = c.add_third.result in
    λ a. by_fold fits64 a two.sig.hi two.sig.lo two.exp two.neg (upper_below two.sig.hi two.sig.lo (2 ^ 64) c.add_third.ensures.2)
    (by_parts fits64 c.args.x c.args.y c.args.z c.requires a 64 (omega arith) (omega arith) c.product_of-p.ensures.0 c.third_of.ensures.0 c.add_third.ensures.0)
    c.fold_sum.ensures.0
