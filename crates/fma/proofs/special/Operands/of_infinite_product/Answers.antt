-- The rows of an infinite factor (Rows); the test for unlike signs is the definition's. Assumes nothing.
use mathlib.Core.Path.{sym, ap, ap₂, ◌∙◌}
use mathlib.Core.Bool.{not}
use native.Mathlib.Omega.{arith}
use Rattle.ieee.specs.Pattern.{signed, unlike}
use Rattle.fmt_fields.specs.Layout.{format_of}
use Rattle.fmt_fields.proofs.Numbers.{infinity_some}
use Rattle.fma.proofs.Rows.{zero_x, zero_y, infinite_product, opposite, decides}
use Rattle.fma.proofs.special.Operands.of_infinite_product.Goals as goal

pub returns-then-magnitude_of-eq0 : goal.returns-then-magnitude_of-eq0
returns-then-magnitude_of-eq0 c =
    let g = c.args.self in
    λ a. c.nan.ensures ∙ zero_x (format_of g.fmt) a g.x g.y g.z (infinity_some g.fmt.fits) c.requires.3 (sym c.magnitude_of.ensures ∙ c.if-magnitude_of-eq0.true)

pub returns-then-magnitude_of-eq0-2 : goal.returns-then-magnitude_of-eq0-2
returns-then-magnitude_of-eq0-2 c =
    let g = c.args.self in
    λ a. c.nan-then-magnitude_of-eq0-2.ensures ∙ zero_y (format_of g.fmt) a g.x g.y g.z (infinity_some g.fmt.fits) c.requires.3 (sym c.magnitude_of-2.ensures ∙ c.if-magnitude_of-eq0-2.true)

pub returns-then-magnitude_of-inf : goal.returns-then-magnitude_of-inf
returns-then-magnitude_of-inf c =
    let g = c.args.self in
    let f = format_of g.fmt in
    let p = infinite_product f g.x g.y g.z c.requires.3 (omega (arith, c.magnitude_of.ensures, c.if-magnitude_of-eq0.false)) (omega (arith, c.magnitude_of-2.ensures, c.if-magnitude_of-eq0-2.false)) c.requires.0 c.requires.1 in
    let answer = c.with_sign-answer.ensures ∙ ap₂ (signed f) (ap₂ unlike c.is_negative.ensures c.is_negative-2.ensures) c.infinity-inf.ensures in
    λ a. answer ∙ decides f a g.x g.y g.z p c.requires.2 (λ h. absurd (omega (arith, h, c.magnitude_of-3.ensures, c.if-magnitude_of-inf.true, c.infinity-inf.ensures)))

pub returns-then-neg-is_negative : goal.returns-then-neg-is_negative
returns-then-neg-is_negative c =
    let g = c.args.self in
    let f = format_of g.fmt in
    let p = infinite_product f g.x g.y g.z c.requires.3 (omega (arith, c.magnitude_of.ensures, c.if-magnitude_of-eq0.false)) (omega (arith, c.magnitude_of-2.ensures, c.if-magnitude_of-eq0-2.false)) c.requires.0 c.requires.1 in
    let sign = ap₂ unlike c.is_negative.ensures c.is_negative-2.ensures in
    let answer = c.with_sign-answer.ensures ∙ ap₂ (signed f) sign c.infinity-inf.ensures in
    λ a. answer ∙ decides f a g.x g.y g.z p c.requires.2 (λ h. sym (ap₂ unlike sign c.is_negative-3.ensures) ∙ ap not c.if-neg-is_negative.true)

pub returns : goal.returns
returns c =
    let g = c.args.self in
    let f = format_of g.fmt in
    let p = infinite_product f g.x g.y g.z c.requires.3 (omega (arith, c.magnitude_of.ensures, c.if-magnitude_of-eq0.false)) (omega (arith, c.magnitude_of-2.ensures, c.if-magnitude_of-eq0-2.false)) c.requires.0 c.requires.1 in
    let sign = ap₂ unlike c.is_negative.ensures c.is_negative-2.ensures in
    λ a. c.nan-2.ensures ∙ opposite f a g.x g.y g.z p (omega (arith, c.magnitude_of-3.ensures, c.if-magnitude_of-inf.false, c.infinity-inf.ensures, c.requires.2)) (sym (ap₂ unlike sign c.is_negative-3.ensures) ∙ ap not c.if-neg-is_negative.false)
