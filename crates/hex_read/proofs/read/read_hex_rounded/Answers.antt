-- The five numbers have an attribute, and any other is refused (Answers). Assumes nothing.
use Rattle.std.proofs.Common.{refl, ap, ◌∙◌}
use Rattle.std.proofs.lemmas.Result.{err_from_is_err_and}
use Rattle.ieee.specs.Refusal.{done}
use Rattle.fmt_fields.specs.Raised.{attribute_of}
use Rattle.hex_read.proofs.Answers.{passed_on, under_layout, unknown}
use Rattle.hex_read.proofs.read.read_hex_rounded.Goals as goal

pub returns-in_err-attribute : goal.returns-in_err-attribute
returns-in_err-attribute g c =
    let p = err_from_is_err_and c.from_residual.result c.from_residual.ensures.1 in
    passed_on g.W.Width.pattern p.1 (p.2 ∙ c.in_err-attribute.ensures.0) (unknown g.W.Width.layout c.args.number c.args.text.now c.in_err-attribute.ensures.1) refl

pub returns-in_err-read_in : goal.returns-in_err-read_in
returns-in_err-read_in g c =
    let r = c.from_residual-in_err-read_in in
    let p = err_from_is_err_and r.result r.ensures.1 in
    passed_on g.W.Width.pattern p.1 p.2 c.in_err-read_in.ensures.value (under_layout c.args.number c.args.text.now c.format.ensures (attribute_of c.in_ok-attribute.attribute) c.in_ok-attribute.ensures)

pub returns : goal.returns
returns g c =
    ap done c.narrow.ensures ∙ c.in_ok-read_in.ensures.value ∙ under_layout c.args.number c.args.text.now c.format.ensures (attribute_of c.in_ok-attribute.attribute) c.in_ok-attribute.ensures
