-- Where there is no remainder the answer is the canonical NaN, and an x below y is its own answer (Fmods). Assumes nothing.
use mathlib.Core.Path.{sym, ◌∙◌}
use Rattle.ieee.proofs.Patterns.{canonical_pattern}
use Rattle.fmt_fields.specs.Layout.{format_of}
use Rattle.fmod.proofs.Fmods.{fmod_none, lesser_stays}
use Rattle.fmod.proofs.fmod.settled_answer.Goals as goal

pub returns-then-has_no_remainder : goal.returns-then-has_no_remainder
returns-then-has_no_remainder c =
    let a = c.args in
    let f = format_of a.fmt in
    (c.nan.ensures ∙ fmod_none f a.x a.y (sym c.has_no_remainder.ensures ∙ c.if-has_no_remainder.true), rw c.nan.ensures (canonical_pattern f))

pub returns : goal.returns
returns c =
    (lesser_stays c.args.fmt.fits c.args.x c.args.y (sym c.has_no_remainder.ensures ∙ c.if-has_no_remainder.false) c.requires.1 c.requires.0, c.requires.0)
