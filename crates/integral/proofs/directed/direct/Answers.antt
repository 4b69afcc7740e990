-- The choice by the point is floor, or ceil (Directions). Assumes nothing.
use Rattle.std.proofs.Common.{sym, ap, ◌∙◌, subst}
use Rattle.ieee.specs.Pattern.{Pattern}
use Rattle.fmt_fields.specs.Layout.{format_of}
use Rattle.integral.specs.Point.{behind_of, by_point}
use Rattle.integral.specs.Directed.{goes_away, cut_by}
use Rattle.integral.proofs.Directions.{directed_by_point, directed_pattern}
use Rattle.integral.proofs.directed.direct.Goals as goal

pub returns-clause-value : goal.returns-clause-value
returns-clause-value c =
    let f = format_of c.args.fmt in
    let x = c.args.x in
    let mask = c.fraction_mask.ensures ∙ ap (behind_of c.args.fmt.frac) c.exponent_of-n.ensures in
    let part = c.cut_by-part.ensures ∙ ap (cut_by (goes_away f c.args.up x) x) mask in
    c.choose_by_point.ensures
    ∙ (λ i. by_point f x (c.send_below_one-below.ensures i) (part i) (c.requires.stays i))
    ∙ directed_by_point c.args.fmt.fits c.args.up x c.requires.held

pub returns-clause-held : goal.returns-clause-held
returns-clause-held c =
    let f = format_of c.args.fmt in
    subst (Pattern f) (sym (returns-clause-value c)) (directed_pattern f c.args.fmt.fits.fair c.args.up c.args.x c.requires.held)
