-- The comparisons find the magnitudes without a remainder: one those of x, one those of y (Sorts). Assumes nothing.
use Rattle.std.proofs.Common.{◌+◌, ◌%◌, sym, arith}
use Rattle.fmt_fields.specs.Layout.{format_of}
use Rattle.fmt_fields.proofs.Numbers.{infinity_some, top_room}
use Rattle.fmt_decode.proofs.Sorts.{x_without, y_test}
use Rattle.fmt_decode.proofs.remainder.has_no_remainder.Goals as goal

pub returns-then-magnitude_of-inf : goal.returns-then-magnitude_of-inf
returns-then-magnitude_of-inf c =
    sym (x_without (format_of c.args.fmt) (infinity_some c.args.fmt.fits) c.args.x c.args.y (omega (arith, c.if-magnitude_of-inf.true, c.infinity-inf.ensures, c.magnitude_of.ensures)))

pub returns : goal.returns
returns c =
    let f = c.args.fmt.fits in
    let size = c.magnitude_of-2 in
    y_test (format_of c.args.fmt) (infinity_some f) c.args.x c.args.y _ ((size.result + 18446744073709551615) % 18446744073709551616) size.result c.infinity-inf.ensures size.ensures (omega arith) (omega arith) (top_room f) (omega (arith, c.infinity-inf.ensures, c.magnitude_of.ensures))
