-- An infinite y and a zero x are rows of their own (Kept). Assumes nothing.
use Rattle.std.proofs.Common.{◌≡◌, sym, ◌∙◌, arith}
use Rattle.ieee.specs.Format.{inf}
use Rattle.ieee.specs.Pattern.{magnitude}
use Rattle.fmt_fields.specs.Layout.{format_of}
use Rattle.fmt_fields.proofs.Numbers.{infinity_some}
use Rattle.fmt_decode.proofs.Sorts.{remains}
use Rattle.remquo.proofs.Kept.{by_infinite, y_below, of_zero}
use Rattle.remquo.proofs.remquo.remquo_finite.Goals as goal
use Rattle.remquo.proofs.remquo.remquo_finite.Goals.{Else-magnitude_of-infinity}

other : (c : Else-magnitude_of-infinity) → magnitude (format_of c.args.fmt) c.args.y ≡ inf (format_of c.args.fmt) → ⊥
other c e = c.if-magnitude_of-infinity.false (c.magnitude_of.ensures ∙ e ∙ sym c.infinity.ensures)

pub returns-then-magnitude_of-infinity : goal.returns-then-magnitude_of-infinity
returns-then-magnitude_of-infinity c =
    let a = c.args in
    by_infinite (format_of a.fmt) a.x a.y (infinity_some a.fmt.fits) c.requires.1 c.requires.0 (sym c.magnitude_of.ensures ∙ c.if-magnitude_of-infinity.true ∙ c.infinity.ensures)

pub returns-then-magnitude_of-eq0 : goal.returns-then-magnitude_of-eq0
returns-then-magnitude_of-eq0 c =
    let a = c.args in
    of_zero (format_of a.fmt) a.x a.y (infinity_some a.fmt.fits) c.requires.1 (other (goal.at.returns-then-magnitude_of-eq0 c).Else-magnitude_of-infinity) c.requires.0
    (sym c.magnitude_of-2.ensures ∙ c.if-magnitude_of-eq0.true)

pub remquo_numbers-requires : goal.remquo_numbers-requires
remquo_numbers-requires c =
    let a = c.args in
    let f = format_of a.fmt in
    let some = infinity_some a.fmt.fits in
    let g = remains f some a.x a.y c.requires.1 in (
      c.requires.0,
      omega (arith, c.magnitude_of-2.ensures, c.if-magnitude_of-eq0.false),
      g.below,
      g.least,
      y_below f a.x a.y some c.requires.1 (other (goal.at.remquo_numbers-requires c).Else-magnitude_of-infinity),
    )
