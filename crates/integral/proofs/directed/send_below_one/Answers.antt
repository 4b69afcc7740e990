-- The cases are the definition's (Directions). Assumes nothing.
use Rattle.std.proofs.Common.{◌+◌, ◌-◌, ◌^◌, ◌∙◌, arith}
use Rattle.algebra.proofs.Products.{times}
use Rattle.fmt_fields.specs.Layout.{format_of}
use Rattle.integral.proofs.Choices.{none_out}
use Rattle.integral.proofs.Directions.{zero_below, number_below}
use Rattle.integral.proofs.directed.send_below_one.Goals as goal

pub returns-then-shift_sign_out-eq0 : goal.returns-then-shift_sign_out-eq0
returns-then-shift_sign_out-eq0 c =
    zero_below (format_of c.args.fmt) c.args.up c.args.x (none_out c.args.fmt.fits c.args.x (omega (arith, c.shift_sign_out.ensures)))

pub returns : goal.returns
returns c =
    c.one_or_zero-sent.ensures
    ∙ number_below (format_of c.args.fmt) c.args.up c.args.x (λ z. c.if-shift_sign_out-eq0.false (c.shift_sign_out.ensures ∙ omega (arith, times (2 ^ (64 - (c.args.fmt.frac + c.args.fmt.expo))) z)))
