-- The exponent of a number normalised is ilogb's (Method), and a normal number is so as it stands (fmt_decode: Significands). Assumes nothing.
use Rattle.std.proofs.Common.{pos, ◌+ℤ◌, sym, ap, ◌∙◌}
use mir.Syntax.{w32}
use mir.Facts.{to_z-of_z}
use Rattle.fmt_fields.specs.Layout.{format_of}
use Rattle.fmt_fields.proofs.Numbers.{infinity_some}
use Rattle.fmt_decode.proofs.Asides.{ordinary}
use Rattle.frexp.proofs.Method.{ilogb_normalised, normal_ordinary, unpacked_normalised}
use Rattle.frexp.proofs.ilogb.ilogb_pattern.Goals as goal

pub returns-then-is_normal : goal.returns-then-is_normal
returns-then-is_normal c =
    let f = format_of c.args.fmt in
    let h = sym c.is_normal.ensures ∙ c.if-is_normal.true in
    let o = normal_ordinary f c.args.x h in
    let r = c.unpack_normal.result in
    let e = (unpacked_normalised f c.args.x h r.sig r.exp r.neg c.unpack_normal.ensures).1 in
    to_z-of_z {w = w32} (record { sfits = c.leading_exponent.type_inv })
    ∙ c.leading_exponent.ensures
    ∙ ap (λ z. z +ℤ pos c.args.fmt.frac) e
    ∙ ilogb_normalised f c.args.fmt.fits.fair c.args.x o.least o.most

pub norm_of-requires : goal.norm_of-requires
norm_of-requires c =
    (ordinary (format_of c.args.fmt) c.args.x (infinity_some c.args.fmt.fits) (sym c.is_zero_nan_inf.ensures ∙ c.if-is_zero_nan_inf.false)).least

pub returns : goal.returns
returns c =
    let f = format_of c.args.fmt in
    let o = ordinary f c.args.x (infinity_some c.args.fmt.fits) (sym c.is_zero_nan_inf.ensures ∙ c.if-is_zero_nan_inf.false) in
    to_z-of_z {w = w32} (record { sfits = c.leading_exponent-2.type_inv })
    ∙ c.leading_exponent-2.ensures
    ∙ ap (λ z. z +ℤ pos c.args.fmt.frac) c.norm_of.ensures.1
    ∙ ilogb_normalised f c.args.fmt.fits.fair c.args.x o.least o.most
