-- The words of infinities and NaNs (Texts). Assumes nothing.
use Rattle.hex_write.proofs.Answers.{wrote_as}
use Rattle.hex_write.proofs.Texts.{aside_nan, aside_minus, aside_plus}
use Rattle.hex_write.proofs.write.write_aside.Goals as goal

pub returns-then-fraction-gt0 : goal.returns-then-fraction-gt0
returns-then-fraction-gt0 c = wrote_as c.args.out.now _ (aside_nan c.args.neg c.args.fraction c.if-fraction-gt0.true) c.write_text.ensures

pub returns-then-neg : goal.returns-then-neg
returns-then-neg c = wrote_as c.args.out.now _ (aside_minus c.args.neg c.args.fraction c.if-fraction-gt0.false c.if-neg.true) c.write_text-then-neg.ensures

pub returns : goal.returns
returns c = wrote_as c.args.out.now _ (aside_plus c.args.neg c.args.fraction c.if-fraction-gt0.false c.if-neg.false) c.write_text-2.ensures
