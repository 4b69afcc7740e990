-- Both parts of a pattern are patterns (ieee: Modfs). Assumes nothing.
use Rattle.std.proofs.Common.{sym, subst}
use Rattle.ieee.specs.Pattern.{Pattern}
use Rattle.ieee.proofs.Modfs.{modf_pattern, modf_whole_pattern}
use Rattle.fmt_fields.specs.Layout.{format_of}
use Rattle.integral.proofs.modf.modf_pattern.Goals as goal

pub returns-then-n-fmt-clause-fraction_held : goal.returns-then-n-fmt-clause-fraction_held
returns-then-n-fmt-clause-fraction_held c =
    let f = format_of c.args.fmt in
    subst (Pattern f) (sym c.modf_within.ensures.fraction) (modf_pattern f c.args.x)

pub returns-then-n-fmt-clause-whole_held : goal.returns-then-n-fmt-clause-whole_held
returns-then-n-fmt-clause-whole_held c =
    let f = format_of c.args.fmt in
    subst (Pattern f) (sym c.modf_within.ensures.whole) (modf_whole_pattern f c.args.fmt.fits.fair c.args.x c.requires)

pub returns-clause-fraction_held : goal.returns-clause-fraction_held
returns-clause-fraction_held c =
    let f = format_of c.args.fmt in
    subst (Pattern f) (sym c.modf_undivided.ensures.fraction) (modf_pattern f c.args.x)

pub returns-clause-whole_held : goal.returns-clause-whole_held
returns-clause-whole_held c =
    let f = format_of c.args.fmt in
    subst (Pattern f) (sym c.modf_undivided.ensures.whole) (modf_whole_pattern f c.args.fmt.fits.fair c.args.x c.requires)
