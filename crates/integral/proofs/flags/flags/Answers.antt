-- By the magnitude (Raises), which lies as the shifted one does (Choices). Assumes nothing.
use Rattle.std.proofs.Common.{ap, ◌∙◌, arith}
use Rattle.ieee.specs.Flags.{nan_flags}
use Rattle.fmt_fields.specs.Layout.{format_of}
use Rattle.integral.proofs.Choices.{number_out, rest_out}
use Rattle.integral.proofs.Raises.{number_flags, rest_flags}
use Rattle.integral.proofs.flags.flags.Goals as goal

pub returns-then-shift_sign_out-inf : goal.returns-then-shift_sign_out-inf
returns-then-shift_sign_out-inf c =
    c.inexact_if.ensures
    ∙ number_flags (format_of c.args.fmt) c.args.x c.args.r (number_out c.args.fmt.fits c.args.x c.infinity.result c.shift_sign_out-inf.result c.infinity.ensures c.shift_sign_out-inf.ensures (omega (arith, c.shift_sign_out.ensures)))

pub returns : goal.returns
returns c =
    c.invalid_if.ensures
    ∙ ap nan_flags c.is_signalling.ensures
    ∙ rest_flags (format_of c.args.fmt) c.args.x c.args.r (rest_out c.args.fmt.fits c.args.x c.infinity.result c.shift_sign_out-inf.result c.infinity.ensures c.shift_sign_out-inf.ensures (omega (arith, c.shift_sign_out.ensures)))
