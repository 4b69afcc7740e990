-- `text_lines::scan::find_arrow` meets its contract. The invariant: the first offset from i on is the first of all. Assumes nothing.
use Rattle.std.proofs.Common.{◌≡◌}
use Rattle.text_lines.specs.Offsets.{offset_of, arrow}
use Rattle.text_lines.proofs.scan.find_arrow.Given as goal

abbrev pub invariant-loop-i : goal.invariant-loop-i
invariant-loop-i l = offset_of arrow l.s l.i ≡ offset_of arrow l.s 0
