-- The distance is at most half of the divisor, so the format holds it (Middles), and what it rounds to has room for the sign (Apart). Assumes nothing.
use Rattle.std.proofs.Common.{◌<◌, sym, subst, arith, pow-add, to_z-of_z}
use mir.Syntax.{w32}
use mir.Val.{to_z, of_z}
use Rattle.ieee.specs.Format.{units, inf}
use Rattle.fmt_fields.specs.Layout.{format_of}
use Rattle.fmt_decode.specs.Significand.{units_at}
use Rattle.remquo.proofs.Apart.{exactly_fits}
use Rattle.remquo.proofs.Middles.{left_at_most_half}
use Rattle.remquo.proofs.settle.settle.Goals as goal

pub pack-rest-requires : goal.pack-rest-requires
pack-rest-requires c =
    let a = c.args in
    let f = format_of a.fmt in
    let e = c.nearest_multiple-near.ensures.1 in
    let h = left_at_most_half a.d.rem a.d.div a.d.quo a.d.below in
    simp (to_z-of_z, c.ranges.exp)
    (omega (arith, h, e, pow-add 2 a.fmt.frac 1, pow-add 2 a.fmt.frac 2, c.requires.0), c.requires.1, subst (λ t. units_at f t a.exp < units f (inf f)) (sym e) c.requires.2)

pub with_sign-requires : goal.with_sign-requires
with_sign-requires c =
    let f = format_of c.args.fmt in
    omega (arith, c.pack-rest.ensures, exactly_fits f (units_at f c.nearest_multiple-near.result.rest (to_z w32 (of_z w32 c.args.exp))))
