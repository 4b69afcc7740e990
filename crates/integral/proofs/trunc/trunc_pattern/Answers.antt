-- Cutting at the point is trunc (Method). Assumes nothing.
use Rattle.std.proofs.Common.{suc, ◌*◌, ◌/◌, sym, ap, ◌∙◌, subst}
use Rattle.ieee.specs.Pattern.{Pattern}
use Rattle.ieee.proofs.Wholes.{trunc_pattern}
use Rattle.fmt_fields.specs.Layout.{format_of}
use Rattle.integral.specs.Point.{Tail}
use Rattle.integral.proofs.Choices.{tail_is}
use Rattle.integral.proofs.Method.{trunc_by_tail}
use Rattle.integral.proofs.trunc.trunc_pattern.Goals as goal

pub returns-clause-value : goal.returns-clause-value
returns-clause-value c =
    let f = format_of c.args.fmt in
    let x = c.args.x in
    let b = c.tail_mask.result.bits in
    c.clear.ensures
    ∙ ap (λ y. y / suc b * suc b) c.canonicalise-one.ensures
    ∙ trunc_by_tail f c.args.fmt.fits.fair x b c.requires (subst (Tail f x) (sym c.tail_mask.ensures) (tail_is c.args.fmt.fits x))

pub returns-clause-held : goal.returns-clause-held
returns-clause-held c =
    let f = format_of c.args.fmt in
    subst (Pattern f) (sym (returns-clause-value c)) (trunc_pattern f c.args.fmt.fits.fair c.args.x c.requires)
