-- One comparison finds the five classes (Asides); there are normal numbers. Assumes nothing.
use Rattle.std.proofs.Common.{◌^◌, ◌≤◌, arith, pow-add}
use Rattle.algebra.proofs.Products.{times_le}
use Rattle.ieee.specs.Format.{inf}
use Rattle.ieee.proofs.Patterns.{infinity_top}
use Rattle.fmt_fields.specs.Layout.{format_of}
use Rattle.fmt_fields.proofs.Widths.{four_fields}
use Rattle.fmt_fields.proofs.Numbers.{top_room}
use Rattle.sqrt.proofs.Asides.{aside_test}
use Rattle.sqrt.proofs.sqrt.set_aside.Goals as goal

pub returns : goal.returns
returns c =
    let k = c.args.fmt in
    let f = format_of k in
    let least : 2 ^ k.frac ≤ inf f = omega (arith, infinity_top f, pow-add 2 k.frac k.expo, times_le (2 ^ k.frac) (four_fields k.fits)) in
    aside_test f c.args.x _ _ _ c.pow-least.ensures c.infinity-inf.ensures (omega (arith, least, c.pow-least.ensures, c.infinity-inf.ensures)) (omega arith) (omega arith) (top_room k.fits)
