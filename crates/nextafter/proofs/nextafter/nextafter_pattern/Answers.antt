-- The rows of NaNs are the definition's (ieee: Nexts). Assumes nothing.
use Rattle.std.proofs.Common.{sym, ◌∙◌, subst, arith}
use Rattle.ieee.specs.Pattern.{Pattern}
use Rattle.ieee.proofs.Patterns.{kind_nan}
use Rattle.ieee.proofs.Nexts.{next_rows, next_pattern_lem}
use Rattle.fmt_fields.specs.Layout.{format_of}
use Rattle.nextafter.proofs.nextafter.nextafter_pattern.Goals as goal

pub returns-then-magnitude_of-inf-clause-value : goal.returns-then-magnitude_of-inf-clause-value
returns-then-magnitude_of-inf-clause-value c =
    let f = format_of c.args.fmt in
    c.nan.ensures ∙ sym ((next_rows f).nan_x c.args.x c.args.y (kind_nan f c.args.x (omega (arith, c.magnitude_of.ensures, c.infinity-inf.ensures))))

pub returns-then-magnitude_of-inf-2-clause-value : goal.returns-then-magnitude_of-inf-2-clause-value
returns-then-magnitude_of-inf-2-clause-value c =
    let f = format_of c.args.fmt in
    c.nan-then-magnitude_of-inf-2.ensures ∙ sym ((next_rows f).nan_y c.args.x c.args.y (kind_nan f c.args.y (omega (arith, c.magnitude_of-2.ensures, c.infinity-inf.ensures))))

pub returns-clause-held : goal.returns-clause-held
returns-clause-held c =
    let f = format_of c.args.fmt in
    subst (Pattern f) (sym c.next_number.ensures) (next_pattern_lem f c.args.x c.args.y c.requires.from c.requires.toward)
