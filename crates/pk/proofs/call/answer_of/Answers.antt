use Rattle.cmd_operations.specs.Table.{flagged}
use Rattle.pk.proofs.Answering.{under, both}
use Rattle.pk.proofs.call.answer_of.Goals as goal

pub returns-in-2 : goal.returns-in-2
returns-in-2 c = under 2 _ c.in-2.is (both flagged c.flagged-in-2.ensures c.trunc_flags.ensures.value c.trunc_flags.ensures.flags)
