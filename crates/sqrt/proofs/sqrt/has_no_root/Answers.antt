-- One comparison finds the four classes (Asides). Assumes nothing.
use Rattle.std.proofs.Common.{arith}
use Rattle.fmt_fields.specs.Layout.{format_of}
use Rattle.fmt_fields.proofs.Numbers.{infinity_some, top_room}
use Rattle.sqrt.proofs.Asides.{rootless_test}
use Rattle.sqrt.proofs.sqrt.has_no_root.Goals as goal

pub overflow_sub-result : goal.overflow_sub-result
overflow_sub-result c = omega (arith, infinity_some c.args.fmt.fits, c.infinity-inf.ensures)

pub returns : goal.returns
returns c =
    let w = c.args.fmt.fits in
    rootless_test (format_of c.args.fmt) c.args.x _ _ c.infinity-inf.ensures (omega (arith, infinity_some w, c.infinity-inf.ensures)) (omega arith) (omega arith) (top_room w)
