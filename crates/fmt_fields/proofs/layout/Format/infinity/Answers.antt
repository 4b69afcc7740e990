-- The pattern of infinity plus one unit of the exponent field is the sign bit (ieee: Patterns). Assumes nothing.
use Rattle.std.proofs.Common.{arith}
use Rattle.ieee.proofs.Patterns.{infinity_top}
use Rattle.fmt_fields.specs.Layout.{format_of}
use Rattle.fmt_fields.proofs.layout.Format.infinity.Goals as goal

pub overflow_sub-result : goal.overflow_sub-result
overflow_sub-result c = omega (arith, c.pow.ensures, c.pow-2.ensures, infinity_top (format_of c.args.self))

pub returns : goal.returns
returns c = omega (arith, c.pow.ensures, c.pow-2.ensures, infinity_top (format_of c.args.self))
