-- A sum of no steps is its zero, any other what its location gives (Parts). Assumes nothing.
use mathlib.Core.Path.{refl, ◌∙◌}
use Rattle.fmt_fields.specs.Layout.{format_of}
use Rattle.fmt_fields.specs.Raised.{attribute_of}
use Rattle.fma.proofs.Parts.{by_none, by_location, finishes, finishes_inside}
use Rattle.fma.proofs.rounded.round_sum.Goals as goal

pub returns-then-s-eq0 : goal.returns-then-s-eq0
returns-then-s-eq0 c =
    let s = c.args.s in
    (λ k. (c.zero_sum.ensures k, c.none.ensures k)) ∙ by_none (format_of c.args.fmt) (attribute_of c.args.attribute) s.neg s.sig s.exp c.if-s-eq0.true refl

pub finish_inside-requires : goal.finish_inside-requires
finish_inside-requires c = finishes_inside c.args.fmt.fits _ c.locate_sum-l.result c.locate_sum-l.ensures c.if-l.true

pub finish-requires : goal.finish-requires
finish-requires c = finishes c.args.fmt.fits _ c.locate_sum-l.result c.locate_sum-l.ensures

pub returns-then-l : goal.returns-then-l
returns-then-l c =
    let s = c.args.s in
    by_location c.args.fmt.fits (attribute_of c.args.attribute) s.neg s.sig s.exp c.locate_sum-l.result c.if-s-eq0.false c.locate_sum-l.ensures c.finish_inside.ensures refl

pub returns : goal.returns
returns c =
    let s = c.args.s in
    by_location c.args.fmt.fits (attribute_of c.args.attribute) s.neg s.sig s.exp c.locate_sum-l.result c.if-s-eq0.false c.locate_sum-l.ensures c.finish.ensures refl
