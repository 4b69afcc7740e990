-- `text_lines::scan::has_blank_too_many` meets its contract. The invariant: two blanks are adjacent in the rest, with the blank before it, exactly
-- where they are in the whole. Assumes nothing.
use Rattle.std.proofs.Common.{◌≡◌, true, drop}
use Rattle.text_lines.proofs.Scanning.{doubled}
use Rattle.text_lines.proofs.scan.has_blank_too_many.Given as goal

abbrev pub invariant-loop-c : goal.invariant-loop-c
invariant-loop-c l = doubled l.after_blank (drop l.c-index l.s) ≡ doubled true l.s
