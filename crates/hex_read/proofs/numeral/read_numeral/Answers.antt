-- The sign sets the offset; the rest is a number or a word (Numerals). Assumes nothing.
use Rattle.std.proofs.Common.{ap, ◌∙◌, false, Some}
use lib.Dec.{eqb}
use Rattle.fmt_fields.specs.Layout.{format_of}
use Rattle.fmt_fields.specs.Raised.{attribute_of}
use Rattle.hex_read.proofs.Texts.{numeral_empty}
use Rattle.hex_read.proofs.Numerals.{number_small, number_found, word_found}
use Rattle.hex_read.proofs.numeral.read_numeral.Goals as goal

pub returns-in_err-first : goal.returns-in_err-first
returns-in_err-first c = rw (c.from_residual.ensures, numeral_empty c.args.s.now c.in_err-first.ensures.item.3)

pub value_of-requires : goal.value_of-requires
value_of-requires c = number_small false _ c.in-Some.n (c.in-Some.ensures false)

pub returns-in-Some : goal.returns-in-Some
returns-in-Some c =
    let a = c.args in
    let first = c.in_ok-first.field-0.now in
    let (some, is) = c.in_ok-first.ensures.item.3 in
    ap Some c.value_of.ensures
    ∙ number_found (format_of a.fmt) (attribute_of a.attribute) a.s.now first c.from.result (is 0) some c.from.ensures c.in-Some.n c.requires.fraction (c.in-Some.ensures (eqb first 45))

pub returns-in-None : goal.returns-in-None
returns-in-None c =
    let a = c.args in
    let first = c.in_ok-first.field-0.now in
    let (some, is) = c.in_ok-first.ensures.item.3 in
    c.read_word.ensures (attribute_of a.attribute)
    ∙ word_found (format_of a.fmt) (attribute_of a.attribute) a.s.now first c.from.result (is 0) some c.from.ensures (c.in-None.ensures (eqb first 45))
