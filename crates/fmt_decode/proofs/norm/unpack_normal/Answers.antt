-- The field less 1 is the exponent in smallest units, and the implicit bit stands above the fraction (Significands). Assumes nothing.
use Rattle.std.proofs.Common.{◌+◌, ◌-◌, ap, ◌∙◌, ap₂, to_z-of_z, w32, SFits}
use Rattle.fmt_fields.specs.Layout.{format_of}
use Rattle.fmt_decode.proofs.Significands.{significand_normal, exponent_from}
use Rattle.fmt_decode.proofs.Ranges.{exponent_in_range}
use Rattle.fmt_decode.proofs.norm.unpack_normal.Goals as goal

-- the exponent is a word
back : (c : goal.After-is_negative) → SFits w32 c.exponent_of.result
back c = record { sfits = c.exponent_of.type_inv }

pub returns : goal.returns
returns c =
    let f = format_of c.args.fmt in
    let e = c.exponent_of.ensures ∙ exponent_from f c.args.x (ap (λ q. q - 1) c.exponent_field-up.ensures) in (
      ap₂ ◌+◌ c.pow.ensures c.fraction_field.ensures ∙ significand_normal f c.args.x c.requires,
      simp (to_z-of_z, back c) e,
      c.is_negative.ensures,
      simp (to_z-of_z, back c) (exponent_in_range c.args.fmt.fits c.args.x e),
    )
