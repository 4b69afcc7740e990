-- The flags are those of the value (Raises). Assumes nothing.
use Rattle.std.proofs.Common.{◌∙◌}
use Rattle.ieee.specs.Whole.{trunc_flags}
use Rattle.fmt_fields.specs.Layout.{format_of}
use Rattle.integral.proofs.Raises.{trunc_raises}
use Rattle.integral.proofs.trunc.trunc_flags.Goals as goal

pub returns-clause-flags : goal.returns-clause-flags
returns-clause-flags g c =
    c.flags.ensures
    ∙ trunc_raises (format_of c.format-fmt.result) c.widen-from.result c.trunc_pattern-whole.result c.trunc_pattern-whole.ensures.value
    ∙ (λ i. trunc_flags (c.format-fmt.ensures i) (c.widen-from.ensures.value i))
