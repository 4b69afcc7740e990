-- A number that is not normal is its fraction, with the least exponent (Significands). Assumes nothing.
use Rattle.std.proofs.Common.{◌≡◌, ◌∙◌, arith, to_z-of_z, w32, SFits}
use Rattle.ieee.specs.Pattern.{field}
use Rattle.fmt_fields.specs.Layout.{format_of}
use Rattle.fmt_decode.proofs.Significands.{significand_subnormal, exponent_from}
use Rattle.fmt_decode.proofs.Ranges.{exponent_in_range}
use Rattle.fmt_decode.proofs.norm.unpack.Goals as goal

-- the exponent is a word
back : (c : goal.After-is_negative) → SFits w32 c.exponent_of.result
back c = record { sfits = c.exponent_of.type_inv }

pub returns : goal.returns
returns c =
    let f = format_of c.args.fmt in
    let z : field f c.args.x ≡ 0 = omega (arith, c.exponent_field.ensures, c.if-exponent_field-gt0.false) in
    let e = c.exponent_of.ensures ∙ exponent_from f c.args.x (omega (arith, z)) in (
      c.fraction_field.ensures ∙ significand_subnormal f c.args.x z,
      simp (to_z-of_z, back c) e,
      c.is_negative.ensures,
      simp (to_z-of_z, back c) (exponent_in_range c.args.fmt.fits c.args.x e),
    )
