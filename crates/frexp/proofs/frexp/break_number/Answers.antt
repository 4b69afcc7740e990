-- The significand over the exponent field of 1/2 is the fraction, and below infinity (Method). Assumes nothing.
use Rattle.std.proofs.Common.{◌+◌, ◌-◌, ◌*◌, pos, ◌+ℤ◌, ap, ◌∙◌, arith, pow_mono}
use mir.Syntax.{w32}
use mir.Val.{SFits}
use mir.Facts.{to_z-of_z}
use Rattle.algebra.proofs.Integers.{add_z, eq_z_fact, sfits_z}
use Rattle.ieee.specs.Pattern.{signed}
use Rattle.fmt_fields.specs.Layout.{format_of}
use Rattle.fmt_fields.proofs.Numbers.{top_room}
use Rattle.fmt_decode.proofs.Ranges.{low_small, range_bounds}
use Rattle.frexp.proofs.Method.{exponent_normalised, frexp_in_words}
use Rattle.frexp.proofs.frexp.break_number.Goals as goal

pub overflow_sub-half : goal.overflow_sub-half
overflow_sub-half c = omega (arith, c.pow-half.ensures, pow_mono {i = 2} {j = c.args.fmt.expo - 1} (omega (arith, c.requires.three)))

pub overflow_mul-half : goal.overflow_mul-half
overflow_mul-half c =
    let a = c.args in
    let n = c.requires.normalised in
    let w = frexp_in_words (format_of a.fmt) a.fmt.fits.fair a.x c.requires.some c.requires.finite c.requires.three a.n.sig c.pow-half.result c.pow.result n.0 c.pow-half.ensures c.pow.ensures in
    record { fits = omega (arith, w.0, top_room a.fmt.fits) }

pub overflow_add-n : goal.overflow_add-n
overflow_add-n c =
    let a = c.args in
    let n = c.requires.normalised in
    let w = frexp_in_words (format_of a.fmt) a.fmt.fits.fair a.x c.requires.some c.requires.finite c.requires.three a.n.sig c.pow-half.result c.pow.result n.0 c.pow-half.ensures c.pow.ensures in
    record { fits = omega (arith, w.0, top_room a.fmt.fits) }

pub with_sign-requires : goal.with_sign-requires
with_sign-requires c =
    let a = c.args in
    (frexp_in_words (format_of a.fmt) a.fmt.fits.fair a.x c.requires.some c.requires.finite c.requires.three a.n.sig c.pow-half.result c.pow.result c.requires.normalised.0 c.pow-half.ensures c.pow.ensures).0

pub returns-clause-fraction : goal.returns-clause-fraction
returns-clause-fraction c =
    let a = c.args in
    let f = format_of a.fmt in
    let n = c.requires.normalised in
    let m = a.n.sig + (c.pow-half.result - 3) * c.pow.result in
    c.with_sign.ensures
    ∙ ap (λ s. signed f s m) n.2
    ∙ (frexp_in_words f a.fmt.fits.fair a.x c.requires.some c.requires.finite c.requires.three a.n.sig c.pow-half.result c.pow.result n.0 c.pow-half.ensures c.pow.ensures).1

pub returns-clause-exponent : goal.returns-clause-exponent
returns-clause-exponent c =
    let a = c.args in
    let w = a.fmt.fits in
    let n = c.requires.normalised in
    let b = range_bounds w a.n.exp n.3 in
    let s = add_z a.n.exp (pos a.fmt.frac) in
    let e = eq_z_fact c.leading_exponent.ensures in
    let d = add_z c.leading_exponent.result (pos 1) in
    let held : SFits w32 c.leading_exponent.result = record { sfits = c.leading_exponent.type_inv } in
    let next : SFits w32 (c.leading_exponent.result +ℤ pos 1) = sfits_z w32 (c.leading_exponent.result +ℤ pos 1) (omega (arith, w.word)) (omega (arith, low_small w, w.word)) in
    simp (to_z-of_z, held, next)
    (ap (λ z. z +ℤ pos 1) (c.leading_exponent.ensures ∙ ap (λ z. z +ℤ pos a.fmt.frac) n.1)
    ∙ exponent_normalised (format_of a.fmt) w.fair a.x c.requires.some c.requires.finite)
