-- Without a point the end follows, and with one the digits behind it first (Numbers, Texts). Assumes nothing.
use Rattle.std.proofs.Common.{◌≡◌, get_or, arith}
use borrow.Author.Tests.{ltb-true}
use Rattle.hex_read.proofs.Texts.{point_short, point_other}
use Rattle.hex_read.proofs.Numbers.{point_scanned}
use Rattle.hex_read.proofs.number.read_point.Goals as goal
use Rattle.hex_read.proofs.number.read_point.Goals.{in_default-via-then-s-lt1, in_default-via-else-s-lt1+in_default-1}

pub returns-in_default : goal.returns-in_default
returns-in_default c neg d h =
    let a = c.args in
    elim c.in_default.branch [
      | in_default-via-then-s-lt1 w ↦ rw (point_short neg d a.n a.s.now (omega (arith, ltb-true))) (c.read_end.ensures neg d h)
      | in_default-via-else-s-lt1+in_default-1 w ↦ rw (point_other neg d a.n a.s.now (λ e. absurd (omega arith))) (c.read_end.ensures neg d h)
    ]

pub returns : goal.returns
returns c neg d h =
    let s = c.args.s.now in
    let q = c.scan_digits-behind.ensures.scanned d 0 h in
    let point : get_or s 0 0 ≡ 46 = omega arith in
    point_scanned neg d c.args.n s c.scan_digits-behind.result _ c.in-46.len_at_least point q (c.read_end-2.ensures neg q.spelt q.holds)
