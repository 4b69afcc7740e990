-- The parts are the number's (Splits), and so is their root (Layouts). Assumes nothing.
use Rattle.fmt_fields.specs.Layout.{format_of}
use Rattle.sqrt_number.proofs.Layouts.{table_ready, nearest_row}
use Rattle.sqrt_number.proofs.Splits.{parts}
use Rattle.sqrt_number.proofs.sqrt_number.Goals as goal

pub by_table-requires : goal.by_table-requires
by_table-requires g c =
    let f = c.format-fmt.result in
    let h = parts (format_of f) c.args.x c.of-parts.ensures.sig c.of-parts.ensures.up c.norm_of.ensures.0 c.norm_of.ensures.1 in
    table_ready f.fits c.args.x c.of-parts.result.sig c.of-parts.result.up h c.format-fmt.ensures g.met.W.Rooted.tabled c.requires

pub returns : goal.returns
returns g c =
    let f = c.format-fmt.result in
    let h = parts (format_of f) c.args.x c.of-parts.ensures.sig c.of-parts.ensures.up c.norm_of.ensures.0 c.norm_of.ensures.1 in
    nearest_row f.fits c.args.x c.of-parts.result.sig c.of-parts.result.up h c.format-fmt.ensures g.met.W.Rooted.tabled c.requires _ c.by_table.ensures.rounded
