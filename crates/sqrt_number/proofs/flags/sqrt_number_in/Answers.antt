-- The parts are the number's (Splits), and so are their root and its flags (Layouts). Assumes nothing.
use Rattle.fmt_fields.specs.Layout.{format_of}
use Rattle.fmt_fields.specs.Raised.{attribute_of}
use Rattle.sqrt_number.proofs.Layouts.{table_ready, table_row}
use Rattle.sqrt_number.proofs.Splits.{parts}
use Rattle.sqrt_number.proofs.flags.sqrt_number_in.Goals as goal

pub by_table-requires : goal.by_table-requires
by_table-requires g c =
    let f = c.format-fmt.result in
    let h = parts (format_of f) c.args.x c.of.ensures.sig c.of.ensures.up c.norm_of.ensures.0 c.norm_of.ensures.1 in
    table_ready f.fits c.args.x c.of.result.sig c.of.result.up h c.format-fmt.ensures g.met.W.Rooted.tabled c.requires

pub returns-clause-value : goal.returns-clause-value
returns-clause-value g c =
    let f = c.format-fmt.result in
    let h = parts (format_of f) c.args.x c.of.ensures.sig c.of.ensures.up c.norm_of.ensures.0 c.norm_of.ensures.1 in
    (table_row f.fits c.args.x c.of.result.sig c.of.result.up h c.format-fmt.ensures g.met.W.Rooted.tabled c.requires (attribute_of c.args.attribute) _ _ c.by_table.ensures).0

pub returns-clause-flags : goal.returns-clause-flags
returns-clause-flags g c =
    let f = c.format-fmt.result in
    let h = parts (format_of f) c.args.x c.of.ensures.sig c.of.ensures.up c.norm_of.ensures.0 c.norm_of.ensures.1 in
    (table_row f.fits c.args.x c.of.result.sig c.of.result.up h c.format-fmt.ensures g.met.W.Rooted.tabled c.requires (attribute_of c.args.attribute) _ _ c.by_table.ensures).1
