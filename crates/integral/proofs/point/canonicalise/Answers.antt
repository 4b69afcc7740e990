-- A NaN's magnitude exceeds infinity's, also when both are shifted (Choices). Assumes nothing.
use Rattle.std.proofs.Common.{sym, ◌∙◌, arith}
use Rattle.integral.proofs.Choices.{past_is_nan, rest_stays}
use Rattle.integral.proofs.point.canonicalise.Goals as goal

pub returns-then-shift_sign_out-inf : goal.returns-then-shift_sign_out-inf
returns-then-shift_sign_out-inf c =
    c.nan-one.ensures
    ∙ sym (past_is_nan c.args.fmt.fits c.args.x c.infinity.result c.shift_sign_out-inf.result c.infinity.ensures c.shift_sign_out-inf.ensures (omega (arith, c.shift_sign_out.ensures)))

pub returns : goal.returns
returns c =
    sym (rest_stays c.args.fmt.fits c.args.x c.infinity.result c.shift_sign_out-inf.result c.infinity.ensures c.shift_sign_out-inf.ensures (omega (arith, c.shift_sign_out.ensures)))
