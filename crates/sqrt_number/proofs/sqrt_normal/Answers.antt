-- The parts are the number's (Splits), and so is their root (Layouts). Assumes nothing.
use Rattle.std.proofs.Common.{◌<◌, sym, subst}
use Rattle.ieee.specs.Pattern.{field}
use Rattle.fmt_fields.specs.Layout.{format_of}
use Rattle.sqrt_number.specs.Split.{Above}
use Rattle.sqrt_number.proofs.Layouts.{table_ready, nearest_row}
use Rattle.sqrt_number.proofs.Splits.{normal_parts}
use Rattle.sqrt_number.proofs.sqrt_normal.Goals as goal

pub by_table-requires : goal.by_table-requires
by_table-requires g c =
    let f = c.format-fmt.result in
    let n = subst (λ f. Above f c.args.x × (0 < field f c.args.x)) (sym c.format-fmt.ensures) c.requires in
    let h = normal_parts (format_of f) c.args.x c.of-normal.ensures.sig c.of-normal.ensures.up n.0.some n.1 c.unpack_normal.ensures.0 c.unpack_normal.ensures.1 in
    table_ready f.fits c.args.x c.of-normal.result.sig c.of-normal.result.up h c.format-fmt.ensures g.met.W.Rooted.tabled c.requires.0

pub returns : goal.returns
returns g c =
    let f = c.format-fmt.result in
    let n = subst (λ f. Above f c.args.x × (0 < field f c.args.x)) (sym c.format-fmt.ensures) c.requires in
    let h = normal_parts (format_of f) c.args.x c.of-normal.ensures.sig c.of-normal.ensures.up n.0.some n.1 c.unpack_normal.ensures.0 c.unpack_normal.ensures.1 in
    nearest_row f.fits c.args.x c.of-normal.result.sig c.of-normal.result.up h c.format-fmt.ensures g.met.W.Rooted.tabled c.requires.0 _ c.by_table.ensures.rounded
