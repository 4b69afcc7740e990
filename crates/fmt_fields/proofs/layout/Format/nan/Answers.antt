-- The sum stays below the sign bit (ieee: Patterns). Assumes nothing.
use Rattle.std.proofs.Common.{◌-◌, arith, pow_mono}
use Rattle.ieee.proofs.Patterns.{infinity_top}
use Rattle.fmt_fields.specs.Layout.{format_of}
use Rattle.fmt_fields.proofs.Numbers.{top_room}
use Rattle.fmt_fields.proofs.layout.Format.nan.Goals as goal

pub overflow_add-result : goal.overflow_add-result
overflow_add-result c =
    let f = c.args.self in
    record { fits = omega (arith, c.infinity.ensures, c.pow.ensures, infinity_top (format_of f), top_room f.fits, pow_mono {i = f.frac - 1} {j = f.frac} (omega arith)) }
