-- Where there is no remainder the answer is the canonical NaN (Kept). Assumes nothing.
use Rattle.std.proofs.Common.{pos, sym, ◌∙◌, subst}
use Rattle.fmt_fields.specs.Layout.{format_of}
use Rattle.remquo.specs.Nearest.{Divides}
use Rattle.remquo.proofs.Kept.{none_left}
use Rattle.remquo.proofs.remquo.remquo_pattern.Goals as goal

pub returns-then-has_no_remainder : goal.returns-then-has_no_remainder
returns-then-has_no_remainder c =
    let a = c.args in
    let f = format_of a.fmt in
    subst (λ v. Divides f a.x a.y v (pos 0)) (sym c.nan.ensures) (none_left f a.x a.y (sym c.has_no_remainder.ensures ∙ c.if-has_no_remainder.true))
