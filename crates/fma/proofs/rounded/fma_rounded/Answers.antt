-- A number names an attribute or is refused (fmt_fields: Attributes). Assumes nothing.
use mathlib.Core.Path.{refl}
use Rattle.std.proofs.lemmas.Result.{err_from_is_err_and}
use Rattle.ieee.specs.Fma.{fma_in, fma_flags_in}
use Rattle.ieee.specs.Rounded.{answered, fma_rounded}
use Rattle.fmt_fields.proofs.Attributes.{by_attribute, refused}
use Rattle.fma.proofs.rounded.fma_rounded.Goals as goal

pub returns-in_err-attribute : goal.returns-in_err-attribute
unfolding fma_rounded
returns-in_err-attribute g c =
    let f = g.W.Width.layout in
    let x = g.W.Width.pattern c.args.x in
    let y = g.W.Width.pattern c.args.y in
    let z = g.W.Width.pattern c.args.z in
    let (e, is, same) = err_from_is_err_and c.from_residual.result c.from_residual.ensures.1 in
    let (none, past) = c.in_err-attribute.ensures in
    rw (is, same, none) (refused c.args.number past (λ a. answered (fma_in f a x y z) (fma_flags_in f a x y z)) refl)

pub returns : goal.returns
unfolding fma_rounded
returns g c =
    let f = g.W.Width.layout in
    let x = g.W.Width.pattern c.args.x in
    let y = g.W.Width.pattern c.args.y in
    let z = g.W.Width.pattern c.args.z in
    by_attribute c.args.number c.in_ok-attribute.ensures (λ a. fma_in f a x y z) (λ a. fma_flags_in f a x y z) refl (c.fma_in.ensures.value, c.fma_in.ensures.flags)
