-- The invariant: the whole text gives what the rest gives after the digits that are held (Scans). Assumes nothing.
use Rattle.std.proofs.Common.{ℕ, ◌+◌, ◌≤◌}
use Rattle.hex_read.specs.Scanned.{Holds}
use Rattle.hex_read.proofs.Scans.{Along}
use Rattle.hex_read.proofs.scan.scan_digits.Given as goal

abbrev pub invariant-loop-i : goal.invariant-loop-i
invariant-loop-i l =
    record {
      extra : l.lead.extra ≤ l.initial.lead.extra + l.i;
      along : (v n : ℕ) → Holds v l.initial.lead → Along v n l.s l.lead l.i;
    }
