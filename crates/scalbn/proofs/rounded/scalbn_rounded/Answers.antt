-- The five numbers have an attribute, and any other is refused (fmt_fields: Attributes). Assumes nothing.
use mathlib.Core.Path.{refl}
use mir.Facts.{to_z-of_z}
use Rattle.std.proofs.lemmas.Result.{err_from_is_err_and}
use Rattle.ieee.specs.Scalbn.{scalbn_in, scalbn_flags_in}
use Rattle.ieee.specs.Rounded.{scalbn_rounded, answered}
use Rattle.fmt_fields.proofs.Attributes.{by_attribute, refused}
use Rattle.scalbn.proofs.rounded.scalbn_rounded.Goals as goal

pub returns-in_err-attribute : goal.returns-in_err-attribute
unfolding scalbn_rounded
returns-in_err-attribute g c =
    let f = g.W.Width.layout in
    let x = g.W.Width.pattern c.args.x in
    let h = c.in_err-attribute.ensures in
    let p = err_from_is_err_and c.from_residual.result c.from_residual.ensures.1 in
    rw (p.1, p.2, h.0) (refused c.args.number h.1 (λ a. answered (scalbn_in f a x c.args.n) (scalbn_flags_in f a x c.args.n)) refl)

pub returns : goal.returns
unfolding scalbn_rounded
returns g c =
    let f = g.W.Width.layout in
    let x = g.W.Width.pattern c.args.x in
    by_attribute c.args.number c.in_ok-attribute.ensures (λ a. scalbn_in f a x c.args.n) (λ a. scalbn_flags_in f a x c.args.n) refl
    (simp (to_z-of_z, c.ranges.n) at c.scalbn_in.ensures.value, simp (to_z-of_z, c.ranges.n) at c.scalbn_in.ensures.flags)
