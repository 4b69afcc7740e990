-- A normal number has no leading zeros, and a subnormal one is shifted left by its own (Significands); no step wraps (Ranges). Assumes nothing.
use Rattle.std.proofs.Common.{◌≡◌, suc, ◌*◌, ◌^◌, ◌<◌, pos, ◌-ℤ◌, ap, ◌∙◌, ap₂, mod-eq_of_lt, arith, pow_mono, to_z-of_z, to_z, w32}
use mir.Facts.{to_z_pos}
use lib.Count.{count_leading_zeros}
use Rattle.fmt_fields.specs.Layout.{format_of}
use Rattle.fmt_decode.proofs.Significands.{significand_some, sig_shifted, exp_lowered, zeros_fill, filled_stays}
use Rattle.fmt_decode.proofs.Ranges.{exp_in_range, range_fits}
use Rattle.fmt_decode.proofs.norm.norm_of.Goals as goal

pub returns-then-n-pow : goal.returns-then-n-pow
returns-then-n-pow c =
    let r = c.unpack-n.ensures in
    let (i, j) = filled_stays (format_of c.args.fmt) c.args.x c.requires (omega (arith, r.0, c.pow.ensures, c.if-n-pow.true)) in
    (r.0 ∙ i, r.1 ∙ j, r.2, r.3)

pub zeros_before-zeros-requires : goal.zeros_before-zeros-requires
zeros_before-zeros-requires c =
    let w = c.args.fmt.fits in (
      omega (arith, w.word, w.fair.expo_two),
      omega (arith, c.unpack-n.ensures.0, significand_some (format_of c.args.fmt) c.args.x c.requires),
      omega (arith, c.pow.ensures, c.if-n-pow.false),
    )

pub returns : goal.returns
returns c =
    let w = c.args.fmt.fits in
    let f = format_of c.args.fmt in
    let x = c.args.x in
    let r = c.unpack-n.ensures in
    let z = c.zeros_before-zeros.ensures ∙ ap (count_leading_zeros (suc c.args.fmt.frac)) r.0 in
    let sig = ap₂ (λ t k. t * 2 ^ k) r.0 z ∙ sig_shifted f x in
    let exp = ap₂ (λ e k. e -ℤ pos k) r.1 z ∙ exp_lowered f x in
    let room : c.unpack-n.result.sig * 2 ^ c.zeros_before-zeros.result < 2 ^ 64 = omega (arith, sig, sig_shifted f x, (zeros_fill f x c.requires).most, pow_mono {i = suc c.args.fmt.frac} {j = 64} (omega (arith, w.word))) in
    let zeros_pos : to_z w32 c.zeros_before-zeros.result ≡ pos c.zeros_before-zeros.result = to_z_pos w32 (omega (arith, z, (zeros_fill f x c.requires).fewer, w.word)) in
    let goes = exp_in_range w x c.requires exp in
    let before = range_fits w c.unpack-n.result.exp r.3 in
    let after = range_fits w (c.unpack-n.result.exp -ℤ pos c.zeros_before-zeros.result) goes in
    (mod-eq_of_lt room ∙ sig, simp (to_z-of_z, before, zeros_pos, after) exp, r.2, simp (to_z-of_z, before, zeros_pos, after) goes)
