-- The sign sets the offset and the rest is read (Exponents). Assumes nothing.
use Rattle.std.proofs.Common.{sym, ◌∙◌}
use Rattle.hex_read.proofs.Exponents.{exponent_none, exponent_part}
use Rattle.hex_read.proofs.exponent.read_exponent.Goals as goal

pub returns-in_err-first-clause-value : goal.returns-in_err-first-clause-value
returns-in_err-first-clause-value c = c.from_residual.ensures ∙ sym (exponent_none c.args.s.now c.in_err-first.ensures.item.3)

pub returns-clause-value : goal.returns-clause-value
returns-clause-value c =
    let (some, is) = c.in_ok-first.ensures.item.3 in
    c.read_few.ensures.value ∙ exponent_part c.args.s.now c.in_ok-first.field-0.now c.from.result (is 0) some c.from.ensures
