-- A point and the digits behind it, or nothing (Puts, Sizes). Assumes nothing.
use Rattle.std.proofs.Common.{◌<◌, arith}
use Rattle.ieee_numeral_laws.proofs.Spellings.{digits_length}
use Rattle.hex_write.proofs.Puts.{put_none, put_as, put_behind, put_placed}
use Rattle.hex_write.proofs.Sizes.{no_point, point_before, point_size}
use Rattle.hex_write.proofs.put.put_fraction.Goals as goal

pub returns-then-f-eq0 : goal.returns-then-f-eq0
returns-then-f-eq0 c = put_as (no_point c.args.f.count c.args.f.digits c.if-f-eq0.true) (put_none c.args.out.now c.args.at)

pub put_byte-first-requires : goal.put_byte-first-requires
put_byte-first-requires c = omega (arith, point_size c.args.f.count c.args.f.digits (omega (arith, c.if-f-eq0.false)))

pub returns : goal.returns
returns c =
    let some : 0 < c.args.f.count = omega (arith, c.if-f-eq0.false) in
    let size = point_size c.args.f.count c.args.f.digits some in
    let digits = digits_length 16 c.args.f.count c.args.f.digits in
    put_as (point_before c.args.f.count c.args.f.digits some)
    (put_behind (omega arith) c.put_byte-first.ensures (put_placed (omega arith) c.write_word.ensures))
