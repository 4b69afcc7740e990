-- Bits are shifted out below the exponent of the smallest units (InUnits); no step wraps (Ranges). Assumes nothing.
use Rattle.std.proofs.Common.{◌≡◌, ◌/◌, ◌^◌, true, ℤ, pos, ◌+ℤ◌, ap, ◌∙◌, arith, pow-add, to_z-of_z}
use lib.Signed.{lt_z}
use Rattle.fmt_fields.specs.Layout.{format_of}
use Rattle.fmt_decode.specs.Significand.{shifted}
use Rattle.fmt_decode.proofs.InUnits.{shifted_down, own_magnitude}
use Rattle.fmt_decode.proofs.Ranges.{low_fits, units_fit}
use Rattle.fmt_decode.proofs.pack.pack.Goals as goal

pub returns-then-up-lt0 : goal.returns-then-up-lt0
returns-then-up-lt0 c =
    let w = c.args.fmt.fits in
    let up : ℤ = c.args.exp +ℤ c.low_of.result in
    let low = low_fits w c.low_of.result c.low_of.ensures in
    let sum = units_fit w c.args.exp c.low_of.result (omega (arith, c.requires.1.small)) c.low_of.ensures in
    let below : lt_z up (pos 0) ≡ true = simp (to_z-of_z, c.ranges.exp, low, sum) at c.if-up-lt0.true in
    let size = simp (to_z-of_z, c.ranges.exp, low, sum) at c.unsigned_abs.ensures.value in
    let is = ap (λ k. c.args.sig / 2 ^ k) size ∙ shifted_down c.args.sig up below ∙ ap (λ z. shifted c.args.sig (c.args.exp +ℤ z)) c.low_of.ensures in
    own_magnitude (format_of c.args.fmt) c.args.sig c.unsigned_abs.result _ (omega (arith, c.requires.0, pow-add 2 c.args.fmt.frac 1)) is c.requires.2
