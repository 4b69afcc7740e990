-- Either answer is a pattern of the format (Rows). Assumes nothing.
use mathlib.Core.Path.{◌≡◌, sym, ap, ◌∙◌, subst}
use Rattle.ieee.specs.Pattern.{Pattern}
use Rattle.ieee.specs.Fma.{fma_in}
use Rattle.fmt_fields.specs.Raised.{attribute_of}
use Rattle.round_step.specs.Outcome.{told}
use Rattle.fma_laws.specs.Fused.{rounded_sum}
use Rattle.fma.proofs.Rows.{fma_pattern}
use Rattle.fma.proofs.rounded.fma_in.Goals as goal

pub narrow-requires : goal.narrow-requires
narrow-requires g c =
    let a = attribute_of c.args.attribute in
    let x = c.widen.result in
    let y = c.widen-2.result in
    let z = c.widen-3.result in
    let fmt = c.format in
    subst (λ f. Pattern f c.by_row.result.value) fmt.ensures (subst (Pattern _) (sym (ap (λ g. g.0) c.by_row.ensures)) (fma_pattern fmt.result.fits a x y z))

pub narrow-requires-2 : goal.narrow-requires-2
narrow-requires-2 g c =
    let a = attribute_of c.args.attribute in
    let x = c.widen.result in
    let y = c.widen-2.result in
    let z = c.widen-3.result in
    let fmt = c.format in
    let s = c.fused.result in
    let r = c.round_sum.result in
    let e = subst (λ f. told r ≡ rounded_sum f a s.neg s.sig s.exp) fmt.ensures c.round_sum.ensures ∙ c.fused.ensures.sum a in
    subst (Pattern g.W.Width.layout) (sym (ap (λ g. g.0) e)) (subst (λ f. Pattern f (fma_in f a x y z)) fmt.ensures (fma_pattern fmt.result.fits a x y z))
