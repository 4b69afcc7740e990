-- Numbers are told by the exponent field (Choices). Assumes nothing.
use Rattle.std.proofs.Common.{◌-◌, ltb, ◌∙◌}
use Rattle.fmt_fields.specs.Layout.{format_of}
use Rattle.integral.proofs.Choices.{number_by_field}
use Rattle.integral.proofs.point.is_number.Goals as goal

pub returns : goal.returns
returns c =
    (λ i. ltb (c.exponent_field.ensures i) (c.pow.ensures i - 1)) ∙ number_by_field (format_of c.args.fmt) c.args.x
