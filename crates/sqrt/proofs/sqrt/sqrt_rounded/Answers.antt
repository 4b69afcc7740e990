-- A call by number is the call under that attribute, or refused (fmt_fields: Attributes). Assumes nothing.
use Rattle.std.proofs.Common.{refl}
use Rattle.std.proofs.lemmas.Result.{err_from_is_err_and}
use Rattle.ieee.specs.Sqrt.{sqrt_in, sqrt_flags_in}
use Rattle.ieee.specs.Rounded.{answered, sqrt_rounded}
use Rattle.fmt_fields.proofs.Attributes.{by_attribute, refused}
use Rattle.sqrt.proofs.sqrt.sqrt_rounded.Goals as goal

pub returns-in_err-attribute : goal.returns-in_err-attribute
unfolding sqrt_rounded
returns-in_err-attribute g c =
    let f = g.W.Width.layout in
    let x = g.W.Width.pattern c.args.x in
    let p = err_from_is_err_and c.from_residual.result c.from_residual.ensures.1 in
    rw (p.1, p.2, c.in_err-attribute.ensures.0) (refused c.args.number c.in_err-attribute.ensures.1 (λ b. answered (sqrt_in f b x) (sqrt_flags_in f b x)) refl)

pub returns : goal.returns
unfolding sqrt_rounded
returns g c =
    let f = g.W.Width.layout in
    let x = g.W.Width.pattern c.args.x in
    by_attribute c.args.number c.in_ok-attribute.ensures (λ b. sqrt_in f b x) (λ b. sqrt_flags_in f b x) refl (c.sqrt_in.ensures.value, c.sqrt_in.ensures.flags)
