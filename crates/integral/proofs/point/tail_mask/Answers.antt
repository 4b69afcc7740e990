-- The choice is that of the definition, which is a mask (Choices). Assumes nothing.
use Rattle.std.proofs.Common.{◌≡◌, sym, subst}
use Rattle.fmt_fields.specs.Layout.{format_of}
use Rattle.integral.specs.Point.{Mask, tail_of}
use Rattle.integral.proofs.Choices.{tail_is}
use Rattle.integral.proofs.point.tail_mask.Goals as goal

pub invariant_of-result : goal.invariant_of-result
invariant_of-result c =
    let e : c.choose_by_point.result ≡ tail_of (format_of c.args.fmt) c.args.x = cc in
    record { last = ∣ subst Mask (sym e) (tail_is c.args.fmt.fits c.args.x).mask ∣₁ }
