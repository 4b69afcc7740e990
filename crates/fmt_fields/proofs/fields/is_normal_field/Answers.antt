-- Two exponent bits have four fields. Assumes nothing.
use Rattle.std.proofs.Common.{arith, pow_mono}
use Rattle.fmt_fields.proofs.fields.is_normal_field.Goals as goal

pub overflow_sub-last : goal.overflow_sub-last
overflow_sub-last c = omega (arith, c.pow-last.ensures, pow_mono {i = 2} {j = c.args.expo} c.requires.least)
