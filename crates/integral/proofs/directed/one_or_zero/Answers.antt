-- 1 is a magnitude, and of two answers the sign's word keeps one (Directions). Assumes nothing.
use Rattle.std.proofs.Common.{◌≡◌, ◌*◌, ◌^◌, sym, ap, ◌∙◌, arith}
use Rattle.ieee.specs.Format.{bias}
use Rattle.fmt_fields.specs.Layout.{format_of}
use Rattle.integral.specs.Directed.{one_or_zero}
use Rattle.integral.proofs.Directions.{one_word, one_least, up_fits, up_in_words, down_in_words}
use Rattle.integral.proofs.directed.one_or_zero.Goals as goal

pub overflow_mul-one : goal.overflow_mul-one
overflow_mul-one c =
    let one : c.bias.result * c.pow.result ≡ bias (format_of c.args.fmt) * 2 ^ c.args.fmt.frac = (λ i. c.bias.ensures i * c.pow.ensures i) in
    record { fits = omega (arith, one, one_word c.args.fmt.fits) }

pub overflow_sub-result : goal.overflow_sub-result
overflow_sub-result c =
    omega (arith, one_least c.args.fmt.fits c.args.x _ _ _ c.pow-top.ensures (λ i. c.bias.ensures i * c.pow.ensures i) c.sign_word-sign.ensures)

pub overflow_add-result : goal.overflow_add-result
overflow_add-result c =
    record { fits = up_fits c.args.fmt.fits c.args.x _ _ _ c.pow-top.ensures (λ i. c.bias.ensures i * c.pow.ensures i) c.sign_word-sign.ensures }

pub returns-then-up : goal.returns-then-up
returns-then-up c =
    up_in_words c.args.fmt.fits c.args.x _ _ _ c.pow-top.ensures (λ i. c.bias.ensures i * c.pow.ensures i) c.sign_word-sign.ensures
    ∙ ap (λ u. one_or_zero (format_of c.args.fmt) u c.args.x) (sym c.if-up.true)

pub overflow_add-result-2 : goal.overflow_add-result-2
overflow_add-result-2 c =
    record { fits = omega (arith, one_least c.args.fmt.fits c.args.x _ _ _ c.pow-top.ensures (λ i. c.bias.ensures i * c.pow.ensures i) c.sign_word-sign.ensures) }

pub returns : goal.returns
returns c =
    down_in_words c.args.fmt.fits c.args.x _ _ _ c.pow-top.ensures (λ i. c.bias.ensures i * c.pow.ensures i) c.sign_word-sign.ensures
    ∙ ap (λ u. one_or_zero (format_of c.args.fmt) u c.args.x) (sym c.if-up.false)
