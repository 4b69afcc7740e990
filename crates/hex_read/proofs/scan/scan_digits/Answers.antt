use Rattle.std.proofs.Common.{arith}
use Rattle.hex_read.proofs.Scans.{one_more, at_other, at_end_lem}
use Rattle.hex_read.proofs.scan.scan_digits.Goals as goal

pub returns-in_default-clause-scanned : goal.returns-in_default-clause-scanned
returns-in_default-clause-scanned c v n h = at_other (c.loop-i.invariant.along v n h) c.loop-i-test.true c.in_default.ensures

pub loop-i-preserved : goal.loop-i-preserved
loop-i-preserved c =
    record {
      extra = omega (arith, c.with_digit-lead.ensures.extra);
      along = λ v n h. one_more (c.loop-i.invariant.along v n h) _ _ c.in-Some.ensures.1 c.loop-i-test.true (omega (arith, c.in-Some.ensures)) c.with_digit-lead.ensures.held;
    }

pub returns-clause-scanned : goal.returns-clause-scanned
returns-clause-scanned c v n h = at_end_lem (c.loop-i.invariant.along v n h) (omega arith)
