-- The tests are of magnitudes (FlagRows). Assumes nothing.
use mathlib.Core.Path.{sym, ap, ◌∙◌}
use lib.Dec.{eqb}
use Rattle.fmt_fields.specs.Layout.{format_of}
use Rattle.fmt_fields.proofs.Numbers.{infinity_some}
use Rattle.fma.proofs.FlagRows.{clash_first, clash_second, clash_none}
use Rattle.fma.proofs.special.Operands.is_clash.Goals as goal

pub returns-then-mx-inf : goal.returns-then-mx-inf
returns-then-mx-inf c =
    let g = c.args.self in
    ap (λ n. eqb n 0) c.magnitude_of-my.ensures
    ∙ clash_first (format_of g.fmt) (infinity_some g.fmt.fits) g.x g.y (sym c.magnitude_of-mx.ensures ∙ c.if-mx-inf.true ∙ c.infinity-inf.ensures)

pub returns-then-my-inf : goal.returns-then-my-inf
returns-then-my-inf c =
    let g = c.args.self in
    ap (λ n. eqb n 0) c.magnitude_of-mx.ensures
    ∙ clash_second (format_of g.fmt) (infinity_some g.fmt.fits) g.x g.y (λ e. c.if-mx-inf.false (c.magnitude_of-mx.ensures ∙ e ∙ sym c.infinity-inf.ensures)) (sym c.magnitude_of-my.ensures ∙ c.if-my-inf.true ∙ c.infinity-inf.ensures)

pub returns : goal.returns
returns c =
    let g = c.args.self in
    clash_none (format_of g.fmt) (infinity_some g.fmt.fits) g.x g.y (λ e. c.if-mx-inf.false (c.magnitude_of-mx.ensures ∙ e ∙ sym c.infinity-inf.ensures)) (λ e. c.if-my-inf.false (c.magnitude_of-my.ensures ∙ e ∙ sym c.infinity-inf.ensures))
