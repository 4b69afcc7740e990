-- Each branch is a row of sqrt under every attribute (Rows). Assumes nothing.
use Rattle.std.proofs.Common.{◌<◌, sym, ap, ◌%◌, ◌∙◌, arith}
use Rattle.ieee.specs.Pattern.{magnitude}
use Rattle.fmt_fields.specs.Layout.{format_of}
use Rattle.fmt_fields.proofs.Numbers.{infinity_some}
use Rattle.sqrt.proofs.Asides.{past_of}
use Rattle.sqrt.proofs.Rows.{at_zero, at_infinity, past_infinity}
use Rattle.sqrt.proofs.sqrt.sqrt_special.Goals as goal

pub returns-then-x-top-eq0 : goal.returns-then-x-top-eq0
returns-then-x-top-eq0 c a =
    sym (at_zero (format_of c.args.fmt) a c.args.x (infinity_some c.args.fmt.fits) c.requires.0 (omega (arith, ap (λ t. c.args.x % t) c.pow-top.ensures, c.if-x-top-eq0.true)))

pub returns-then-x-inf : goal.returns-then-x-inf
returns-then-x-inf c a =
    sym (at_infinity (format_of c.args.fmt) a c.args.x (omega (arith, c.infinity-inf.ensures, c.if-x-inf.true)))

pub returns : goal.returns
returns c a =
    let f = format_of c.args.fmt in
    let some : 0 < magnitude f c.args.x = omega (arith, ap (λ t. c.args.x % t) c.pow-top.ensures, c.if-x-top-eq0.false) in
    let l = past_of f c.args.x c.requires.1 some (omega (arith, c.infinity-inf.ensures, c.if-x-inf.false)) in
    c.nan.ensures ∙ sym (past_infinity f a c.args.x l some)
