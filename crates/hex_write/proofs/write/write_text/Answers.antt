-- The bytes are copied where they fit, and the answer is that of the definition (Answers). Assumes nothing.
use Rattle.std.proofs.Common.{◌++◌, length, drop, refl, ap}
use Rattle.hex_write.proofs.Answers.{refused, written}
use Rattle.hex_write.proofs.write.write_text.Goals as goal

pub returns-then-out-text : goal.returns-then-out-text
returns-then-out-text c = refused c.args.text.now c.args.out.now c.if-out-text.true

pub returns : goal.returns
returns c = written c.args.text.now c.args.out.now c.if-out-text.false (ap (λ l. l ++ drop (length c.args.text.now) c.args.out.now) c.copy_from_slice.ensures.after) refl
