-- Past the last number there is no row. Assumes nothing.
use Rattle.std.proofs.Common.{arith}
use Rattle.pk.proofs.Answering.{no_row}
use Rattle.pk.proofs.call.answer_under.Goals as goal

pub returns-in_default : goal.returns-in_default
returns-in_default c = no_row _ (omega arith) c.two_answers.ensures
