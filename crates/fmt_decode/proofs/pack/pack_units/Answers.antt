-- The significand stays below its implicit bit and takes all of up, or reaches it and leaves the rest to the exponent field (Packs). Assumes nothing.
use Rattle.std.proofs.Common.{◌≡◌, ℕ, ◌+◌, ◌-◌, ◌*◌, ◌%◌, ◌^◌, ◌<◌, ◌∙◌, mod-eq_of_lt, arith}
use lib.Count.{count_leading_zeros}
use Rattle.algebra.proofs.Products.{times}
use Rattle.algebra.proofs.Leading.{leading_fills}
use Rattle.ieee.specs.Round.{exactly}
use Rattle.fmt_fields.specs.Layout.{format_of}
use Rattle.fmt_decode.proofs.Packs.{leads, zero_packed, low_packed, high_packed}
use Rattle.fmt_decode.proofs.pack.pack_units.Goals as goal

module _ (c : goal.After-pow) where
  abbrev most : ℕ
  most = count_leading_zeros 64 c.args.sig - (63 - c.args.fmt.frac)

  abbrev whole : ℕ
  whole = c.args.sig * 2 ^ most + (c.args.up - most) * 2 ^ c.args.fmt.frac

  -- the significand shifted left until its leading bit is the implicit one, and the rest of up above it
  parts : (c.args.sig * 2 ^ most < 2 ^ 64) × (whole ≡ exactly (format_of c.args.fmt) (c.args.sig * 2 ^ c.args.up)) × (whole < 2 ^ 63)
  parts = high_packed c.args.fmt.fits c.args.sig c.args.up c.requires.1 _ c.requires.0 (leading_fills 64 c.args.sig (omega arith) c.ranges.sig.fits) c.if-up-most.false

  sum_is : c.args.sig * 2 ^ most % 2 ^ 64 + (c.args.up - most) * c.pow.result ≡ whole
  sum_is = omega (arith, mod-eq_of_lt parts.0, times (c.args.up - most) c.pow.ensures)

pub returns-then-sig-eq0 : goal.returns-then-sig-eq0
returns-then-sig-eq0 c = zero_packed c.args.fmt.fits c.args.sig c.args.up c.requires.1 c.if-sig-eq0.true

pub overflow_sub-most-2 : goal.overflow_sub-most-2
overflow_sub-most-2 c = (leads c.args.fmt.fits c.args.sig _ c.requires.0 (leading_fills 64 c.args.sig (omega arith) c.ranges.sig.fits)).least

pub returns-then-up-most : goal.returns-then-up-most
returns-then-up-most c =
    let (l, e) = low_packed c.args.fmt.fits c.args.sig c.args.up c.requires.1 _ c.requires.0 (leading_fills 64 c.args.sig (omega arith) c.ranges.sig.fits) c.if-up-most.true in
    omega (arith, mod-eq_of_lt l, e)

pub overflow_mul-result : goal.overflow_mul-result
overflow_mul-result c = record { fits = omega (arith, sum_is c, (parts c).2) }

pub overflow_add-result : goal.overflow_add-result
overflow_add-result c = record { fits = omega (arith, sum_is c, (parts c).2) }

pub returns : goal.returns
returns c = sum_is c ∙ (parts c).1
