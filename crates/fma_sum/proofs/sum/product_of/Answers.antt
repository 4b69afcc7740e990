-- The product of the significands, the sum of the exponents and the sign of the two unpacked numbers, all small (fma_laws: Room). Assumes nothing.
use Prim.Native.Nat.{◌*◌, ◌^◌, ◌≤◌}
use mathlib.Core.Path.{◌≡◌, ap₂, ◌∙◌}
use native.Mathlib.Omega.{arith}
use lib.IntN.{◌+ℤ◌}
use lib.Pow.{pow_mono}
use Rattle.ieee.specs.Pattern.{unlike}
use Rattle.fmt_fields.specs.Layout.{format_of}
use Rattle.fmt_fields.proofs.Numbers.{infinity_some}
use Rattle.fmt_decode.proofs.Asides.{ordinary}
use Rattle.fma_laws.specs.Fused.{product_sig, product_exp}
use Rattle.fma_laws.proofs.Room.{below_pow, sig_most, product_bits, product_small}
use Rattle.fma_sum.proofs.sum.product_of.Goals as goal

pub norm_of-requires : goal.norm_of-requires
norm_of-requires g c = (ordinary (format_of c.args.fmt) c.args.x (infinity_some c.args.fmt.fits) c.requires.1).least

pub norm_of-requires-2 : goal.norm_of-requires-2
norm_of-requires-2 g c = (ordinary (format_of c.args.fmt) c.args.y (infinity_some c.args.fmt.fits) c.requires.2).least

pub multiply-requires : goal.multiply-requires
multiply-requires g c =
    let w = c.args.fmt.fits in
    let f = format_of c.args.fmt in
    let ox = ordinary f c.args.x (infinity_some w) c.requires.1 in
    let oy = ordinary f c.args.y (infinity_some w) c.requires.2 in
    let short : 2 ^ c.args.fmt.frac ≤ 2 ^ 61 = pow_mono {j = 61} (omega (arith, w.word, w.fair.expo_two)) in
    let sig : 2 * (c.norm_of.result.sig * c.norm_of-2.result.sig) ≡ product_sig f c.args.x c.args.y = ap₂ (λ a b. 2 * (a * b)) c.norm_of.ensures.0 c.norm_of-2.ensures.0 in (
      omega (arith, c.norm_of.ensures.0, sig_most f w.fair c.args.x ox, short),
      rw sig (below_pow (omega (arith, c.requires.0)) (product_bits f w.fair c.args.x c.args.y ox oy)),
      omega (arith, c.norm_of.ensures.3.small),
      omega (arith, c.norm_of-2.ensures.3.small),
    )

pub returns : goal.returns
returns g c =
    let w = c.args.fmt.fits in
    let f = format_of c.args.fmt in
    let ox = ordinary f c.args.x (infinity_some w) c.requires.1 in
    let oy = ordinary f c.args.y (infinity_some w) c.requires.2 in
    let sig = c.multiply.ensures.0 ∙ ap₂ (λ a b. 2 * (a * b)) c.norm_of.ensures.0 c.norm_of-2.ensures.0 in
    let exp : c.multiply.result.exp ≡ product_exp f c.args.x c.args.y = c.multiply.ensures.1 ∙ ap₂ ◌+ℤ◌ c.norm_of.ensures.1 c.norm_of-2.ensures.1 in (
      (sig, exp, c.multiply.ensures.2 ∙ ap₂ unlike c.norm_of.ensures.2 c.norm_of-2.ensures.2),
      rw sig (product_bits f w.fair c.args.x c.args.y ox oy),
      rw exp (product_small w c.args.x c.args.y ox oy),
    )
