-- `text_lines::scan::find` meets its contract: the offset in the rest counts from its start. Assumes nothing.
use Rattle.std.proofs.Common.{arith}
use Rattle.text_lines.proofs.Scanning.{byte_found, byte_not_found}
use Rattle.text_lines.proofs.scan.find.Goals as goal

pub overflow_add-result : goal.overflow_add-result
overflow_add-result c =
    let found = byte_found c.args.b c.args.s.now c.args.from c.part.result.now c.part.ensures c.in-Some.n c.in-Some.ensures in record { fits = omega arith }

pub returns-in-Some-clause-value : goal.returns-in-Some-clause-value
returns-in-Some-clause-value c = (byte_found c.args.b c.args.s.now c.args.from c.part.result.now c.part.ensures c.in-Some.n c.in-Some.ensures).0

pub returns-in-Some-clause-within : goal.returns-in-Some-clause-within
returns-in-Some-clause-within c = omega (arith, byte_found c.args.b c.args.s.now c.args.from c.part.result.now c.part.ensures c.in-Some.n c.in-Some.ensures)

pub returns-in-None-clause-value : goal.returns-in-None-clause-value
returns-in-None-clause-value c = byte_not_found c.args.b c.args.s.now c.args.from c.part.result.now c.part.ensures c.in-None.ensures
