-- `0x` by its bytes, and the digits behind it (Numbers, Texts). Assumes nothing.
use Rattle.std.proofs.Common.{◌≡◌, get_or, arith}
use Rattle.hex_read.proofs.Texts.{unsigned_short, unsigned_zero, unsigned_x}
use Rattle.hex_read.proofs.Numbers.{unsigned_scanned}
use Rattle.hex_read.proofs.number.read_number.Goals as goal

pub returns-in_default : goal.returns-in_default
returns-in_default c neg = rw (unsigned_short neg c.args.s.now c.in_default.len_below)

pub returns-in_default-2 : goal.returns-in_default-2
returns-in_default-2 c neg = rw (unsigned_x neg c.args.s.now (λ e. absurd (omega arith)))

pub returns-in_default-3 : goal.returns-in_default-3
returns-in_default-3 c neg = rw (unsigned_zero neg c.args.s.now (λ e. absurd (omega arith)))

pub returns : goal.returns
returns c neg =
    let s = c.args.s.now in
    let q = c.scan_digits-ahead.ensures.scanned 0 0 c.none.ensures.held in
    let zero : get_or s 0 0 ≡ 48 = omega arith in
    let letter : get_or s 1 0 ≡ 120 = omega arith in
    unsigned_scanned neg s c.scan_digits-ahead.result _ c.in-48.len_at_least zero letter q (c.read_point.ensures neg q.spelt q.holds)
