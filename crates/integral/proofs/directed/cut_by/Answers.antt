-- The cut in words is the definition's (Directions). Assumes nothing.
use Rattle.std.proofs.Common.{suc, ◌+◌, ◌*◌, ◌/◌, ◌%◌, ◌^◌, ap, ◌∙◌}
use Rattle.std.proofs.Math.Logic.{∥∥₁_elim}
use Rattle.std.proofs.Math.Nat.{ℕ_set}
use Rattle.fmt_fields.specs.Layout.{format_of}
use Rattle.integral.specs.Directed.{goes_away}
use Rattle.integral.proofs.Directions.{cut_wrapped}
use Rattle.integral.proofs.directed.cut_by.Goals as goal

pub returns : goal.returns
returns c =
    let a = c.args in
    let d = suc a.mask.bits in
    let e = c.away_word-away.ensures in
    ∥∥₁_elim a.mask.last (ℕ_set _ _)
    (λ m. cut_wrapped (goes_away (format_of a.fmt) a.up a.x) a.x a.mask.bits _ _ c.ranges.x.fits m
    (c.clear.ensures ∙ ap (λ n. (a.x + n) % 2 ^ 64 / d * d) e)
    (c.clear-2.ensures ∙ ap (λ n. n / d * d) e))
