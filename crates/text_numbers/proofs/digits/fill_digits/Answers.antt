use Rattle.std.proofs.Common.{sym, ◌∙◌, arith}
use Rattle.text_numbers.proofs.Writing.{write_digit, none_written, all_written}
use Rattle.text_numbers.proofs.digits.fill_digits.Goals as goal

pub loop-i-init : goal.loop-i-init
loop-i-init c = none_written _ c.args.n c.args.out.now

pub loop-i-preserved : goal.loop-i-preserved
loop-i-preserved c = c.loop-i.invariant ∙ write_digit _ c.loop-i.rest c.loop-i.out c.loop-i.i _ c.glyph.ensures c.loop-i-test.true (omega arith)

pub returns : goal.returns
returns c = sym (c.loop-i.invariant ∙ all_written _ c.loop-i.rest c.loop-i.out c.loop-i.i (omega arith))
