use Rattle.std.proofs.Common.{sym, ◌∙◌, arith}
use Rattle.text_lines.specs.Offsets.{arrow}
use Rattle.text_lines.proofs.Scanning.{starts_rest, offset_here, offset_on, offset_end}
use Rattle.text_lines.proofs.scan.find_arrow.Goals as goal

pub returns-then-starts_with-clause-value : goal.returns-then-starts_with-clause-value
returns-then-starts_with-clause-value c =
    let s = c.args.s.now in
    offset_here arrow s c.loop-i.i c.loop-i-test.true (sym (starts_rest arrow s c.loop-i.i) ∙ sym c.starts_with.ensures.value ∙ c.if-starts_with.true)
    ∙ c.loop-i.invariant

pub loop-i-preserved : goal.loop-i-preserved
loop-i-preserved c =
    let s = c.args.s.now in
    offset_on arrow s c.loop-i.i c.loop-i-test.true (sym (starts_rest arrow s c.loop-i.i) ∙ sym c.starts_with.ensures.value ∙ c.if-starts_with.false)
    ∙ c.loop-i.invariant

pub returns-clause-value : goal.returns-clause-value
returns-clause-value c = offset_end arrow c.args.s.now c.loop-i.i (omega arith) ∙ c.loop-i.invariant
