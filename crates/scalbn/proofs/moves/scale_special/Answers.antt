-- The branches are the definition's. Assumes nothing.
use mathlib.Core.Path.{◌∙◌}
use native.Mathlib.Omega.{arith}
use borrow.Author.Tests.{ne_eqb}
use Rattle.ieee.proofs.Patterns.{canonical_pattern}
use Rattle.fmt_fields.specs.Layout.{format_of}
use Rattle.scalbn.proofs.moves.scale_special.Goals as goal

pub returns : goal.returns
returns c =
    (rw (ne_eqb _ 0 (λ e. c.if-fraction_field-eq0.false (c.fraction_field.ensures ∙ e))) c.nan.ensures, omega (arith, c.nan.ensures, canonical_pattern (format_of c.args.fmt)))
