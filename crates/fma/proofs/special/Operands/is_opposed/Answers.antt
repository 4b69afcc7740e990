-- The tests are of magnitudes (FlagRows). Assumes nothing.
use Prim.Native.Nat.{max}
use mathlib.Core.Path.{sym, ap₂, ◌∙◌}
use Rattle.ieee.specs.Pattern.{unlike}
use Rattle.fmt_fields.specs.Layout.{format_of}
use Rattle.fmt_fields.proofs.Numbers.{infinity_some}
use Rattle.fma.proofs.FlagRows.{opposed_none, opposed_finite, opposed_both}
use Rattle.fma.proofs.special.Operands.is_opposed.Goals as goal

pub returns-then-magnitude_of-inf : goal.returns-then-magnitude_of-inf
returns-then-magnitude_of-inf c =
    let g = c.args.self in
    opposed_none (format_of g.fmt) (infinity_some g.fmt.fits) g.x g.y g.z (λ e. c.if-magnitude_of-inf.true (c.magnitude_of-3.ensures ∙ e ∙ sym c.infinity-inf.ensures))

pub returns-then-top-inf : goal.returns-then-top-inf
returns-then-top-inf c =
    let g = c.args.self in
    let top = c.max-top.ensures ∙ ap₂ max c.magnitude_of.ensures c.magnitude_of-2.ensures in
    opposed_finite (format_of g.fmt) (infinity_some g.fmt.fits) g.x g.y g.z (λ e. c.if-top-inf.true (top ∙ e ∙ sym c.infinity-inf.ensures))

pub returns : goal.returns
returns c =
    let g = c.args.self in
    let top = c.max-top.ensures ∙ ap₂ max c.magnitude_of.ensures c.magnitude_of-2.ensures in
    ap₂ unlike (ap₂ unlike c.is_negative.ensures c.is_negative-2.ensures) c.is_negative-3.ensures
    ∙ opposed_both (format_of g.fmt) (infinity_some g.fmt.fits) g.x g.y g.z c.requires (sym top ∙ c.if-top-inf.false ∙ c.infinity-inf.ensures) (sym c.magnitude_of-3.ensures ∙ c.if-magnitude_of-inf.false ∙ c.infinity-inf.ensures)
