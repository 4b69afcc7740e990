-- Normal numbers, infinities and NaNs show by their exponent field, zeros by their fraction too (Asides). Assumes nothing.
use Rattle.std.proofs.Common.{◌-◌, ◌^◌, ◌≤◌, eqb, sym, ap, ◌∙◌, ⊎_elim, arith}
use Rattle.ieee.specs.Pattern.{field}
use Rattle.fmt_fields.specs.Layout.{format_of}
use Rattle.fmt_fields.proofs.Numbers.{infinity_some}
use Rattle.fmt_fields.proofs.Normals.{normal_between, not_normal}
use Rattle.fmt_decode.proofs.Asides.{aside_normal, aside_subnormal, aside_high, field_last}
use Rattle.fmt_decode.proofs.norm.is_zero_nan_inf.Goals as goal

pub returns-then-is_normal : goal.returns-then-is_normal
returns-then-is_normal c =
    let f = format_of c.args.fmt in
    let (p, l) = normal_between f c.args.x (sym c.is_normal.ensures ∙ c.if-is_normal.true) in
    aside_normal f c.args.x p l

pub returns-then-exponent_field-gt0 : goal.returns-then-exponent_field-gt0
returns-then-exponent_field-gt0 c =
    let f = format_of c.args.fmt in
    let last : 2 ^ c.args.fmt.expo - 1 ≤ field f c.args.x =
    ⊎_elim (λ z. absurd (omega (arith, z, c.exponent_field.ensures, c.if-exponent_field-gt0.true))) (λ z. omega (arith, z)) (not_normal f c.args.x (sym c.is_normal.ensures ∙ c.if-is_normal.false)) in
    sym (aside_high f c.args.x (field_last f c.args.x last))

pub returns : goal.returns
returns c =
    ap (λ n. eqb n 0) c.fraction_field.ensures
    ∙ aside_subnormal (format_of c.args.fmt) c.args.x (infinity_some c.args.fmt.fits) (omega (arith, c.exponent_field.ensures, c.if-exponent_field-gt0.false))
