-- A normal number is normalised as it stands (Method), and any other number is normalised; the rest is set aside (fmt_decode: Asides). Assumes nothing.
use Rattle.std.proofs.Common.{sym, ◌∙◌, subst}
use Rattle.ieee.specs.Pattern.{Pattern}
use Rattle.ieee.proofs.Frexps.{frexp_pattern}
use Rattle.fmt_fields.specs.Layout.{format_of}
use Rattle.fmt_fields.proofs.Numbers.{infinity_some}
use Rattle.fmt_decode.proofs.Asides.{ordinary}
use Rattle.frexp.proofs.Method.{normal_ordinary, unpacked_normalised}
use Rattle.frexp.proofs.frexp.frexp_pattern.Goals as goal

pub break_number-requires-clause-some : goal.break_number-requires-clause-some
break_number-requires-clause-some c = (normal_ordinary (format_of c.args.fmt) c.args.x (sym c.is_normal.ensures ∙ c.if-is_normal.true)).least

pub break_number-requires-clause-finite : goal.break_number-requires-clause-finite
break_number-requires-clause-finite c = (normal_ordinary (format_of c.args.fmt) c.args.x (sym c.is_normal.ensures ∙ c.if-is_normal.true)).most

pub break_number-requires-clause-normalised : goal.break_number-requires-clause-normalised
break_number-requires-clause-normalised c =
    let r = c.unpack_normal.result in
    unpacked_normalised (format_of c.args.fmt) c.args.x (sym c.is_normal.ensures ∙ c.if-is_normal.true) r.sig r.exp r.neg c.unpack_normal.ensures

pub returns-then-is_normal-clause-held : goal.returns-then-is_normal-clause-held
returns-then-is_normal-clause-held c =
    let f = format_of c.args.fmt in
    subst (Pattern f) (sym c.break_number.ensures.fraction) (frexp_pattern f c.args.x c.requires.held)

pub returns-then-is_zero_nan_inf-clause-held : goal.returns-then-is_zero_nan_inf-clause-held
returns-then-is_zero_nan_inf-clause-held c =
    let f = format_of c.args.fmt in
    subst (Pattern f) (sym c.frexp_aside.ensures.fraction) (frexp_pattern f c.args.x c.requires.held)

pub norm_of-requires : goal.norm_of-requires
norm_of-requires c =
    (ordinary (format_of c.args.fmt) c.args.x (infinity_some c.args.fmt.fits) (sym c.is_zero_nan_inf.ensures ∙ c.if-is_zero_nan_inf.false)).least

pub break_number-requires-2-clause-some : goal.break_number-requires-2-clause-some
break_number-requires-2-clause-some c =
    (ordinary (format_of c.args.fmt) c.args.x (infinity_some c.args.fmt.fits) (sym c.is_zero_nan_inf.ensures ∙ c.if-is_zero_nan_inf.false)).least

pub break_number-requires-2-clause-finite : goal.break_number-requires-2-clause-finite
break_number-requires-2-clause-finite c =
    (ordinary (format_of c.args.fmt) c.args.x (infinity_some c.args.fmt.fits) (sym c.is_zero_nan_inf.ensures ∙ c.if-is_zero_nan_inf.false)).most

pub returns-clause-held : goal.returns-clause-held
returns-clause-held c =
    let f = format_of c.args.fmt in
    subst (Pattern f) (sym c.break_number-2.ensures.fraction) (frexp_pattern f c.args.x c.requires.held)
