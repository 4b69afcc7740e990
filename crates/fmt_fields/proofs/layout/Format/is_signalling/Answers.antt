-- What is below the first signalling NaN wraps past the quiet ones (ieee: Signals). Assumes nothing.
use Rattle.std.proofs.Common.{suc, ◌+◌, ◌-◌, ◌%◌, arith}
use Rattle.ieee.proofs.Decide.{alike, leb_reads}
use Rattle.ieee.proofs.Patterns.{inf_below_top}
use Rattle.ieee.proofs.Signals.{signals_reads}
use Rattle.fmt_fields.specs.Layout.{format_of}
use Rattle.fmt_fields.proofs.Numbers.{top_room}
use Rattle.fmt_fields.proofs.layout.Format.is_signalling.Goals as goal

pub overflow_add-first : goal.overflow_add-first
overflow_add-first c =
    let f = c.args.self in
    record { fits = omega (arith, c.infinity-first.ensures, inf_below_top (format_of f), top_room f.fits) }

pub returns : goal.returns
returns c =
    let f = format_of c.args.self in
    let i = c.infinity-first in
    let q = c.nan-quiet in
    let m = c.magnitude_of in
    let w = (m.result + (18446744073709551616 - (i.result + 1))) % 18446744073709551616 in
    let least = inf_below_top f in
    let room = top_room c.args.self.fits in
    alike (leb_reads (suc w) (q.result - (i.result + 1))) (signals_reads f c.args.self.fits.fair c.args.x) (
      λ h. (omega (arith, h, i.ensures, q.ensures, m.ensures), omega (arith, h, i.ensures, q.ensures, m.ensures)),
      λ h. omega (arith, h.0, h.1, i.ensures, q.ensures, m.ensures),
    )
