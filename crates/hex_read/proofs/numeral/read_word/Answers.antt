-- Each test is one of the definition. Assumes nothing.
use Rattle.std.proofs.Common.{◌≡◌, true, false, ap, ◌∙◌, arith, Some}
use Rattle.ieee.specs.Pattern.{signed}
use Rattle.ieee.proofs.Patterns.{inf_below_top}
use Rattle.fmt_fields.specs.Layout.{format_of}
use Rattle.ieee_numeral_laws.specs.Numeral.{inf_text, nan_text}
use Rattle.ieee_numeral_laws.specs.Reading.{same}
use Rattle.ieee_numeral_laws.specs.Read.{value_in}
use Rattle.hex_read.specs.Found.{word_of}
use Rattle.hex_read.proofs.Texts.{same_by}
use Rattle.hex_read.proofs.numeral.read_word.Goals as goal
use Rattle.hex_read.proofs.numeral.read_word.Goals.{else-not-neg-via-then-not-neg+else-same-2, else-not-neg-via-else-not-neg}

pub returns-then-plus : goal.returns-then-plus
unfolding word_of
returns-then-plus c a = rw c.if-plus.true

pub with_sign-requires : goal.with_sign-requires
with_sign-requires c = omega (arith, c.infinity.ensures, inf_below_top (format_of c.args.fmt))

pub returns-then-same : goal.returns-then-same
unfolding word_of value_in
returns-then-same c a =
    let is_inf : same c.args.s.now inf_text ≡ true = same_by c.args.s.now inf_text c.same.result c.same.ensures.0 c.same.ensures.1 ∙ c.if-same.true in
    rw (c.if-plus.false, is_inf) (ap Some (c.with_sign.ensures ∙ ap (signed (format_of c.args.fmt) c.args.neg) c.infinity.ensures))

pub returns-then-same-2 : goal.returns-then-same-2
unfolding word_of value_in
returns-then-same-2 c a =
    let not_inf : same c.args.s.now inf_text ≡ false = same_by c.args.s.now inf_text c.same.result c.same.ensures.0 c.same.ensures.1 ∙ c.if-same.false in
    let nan = c.same-then-not-neg in
    let is_nan : same c.args.s.now nan_text ≡ true = same_by c.args.s.now nan_text nan.result nan.ensures.0 nan.ensures.1 ∙ c.if-same-2.true in
    rw (c.if-plus.false, not_inf, c.if-not-neg.true, is_nan) (ap Some c.nan.ensures)

pub returns : goal.returns
unfolding word_of
returns c a =
    let not_inf : same c.args.s.now inf_text ≡ false = same_by c.args.s.now inf_text c.same.result c.same.ensures.0 c.same.ensures.1 ∙ c.if-same.false in
    elim c.else-not-neg.branch [
      | else-not-neg-via-then-not-neg+else-same-2 w ↦
          let nan = w.same-then-not-neg in
          let not_nan : same c.args.s.now nan_text ≡ false = same_by c.args.s.now nan_text nan.result nan.ensures.0 nan.ensures.1 ∙ w.if-same-2.false in
          rw (c.if-plus.false, not_inf, w.if-not-neg.true, not_nan)
      | else-not-neg-via-else-not-neg w ↦ rw (c.if-plus.false, not_inf, w.if-not-neg.false)
    ]
