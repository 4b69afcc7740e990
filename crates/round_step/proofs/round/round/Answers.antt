-- The location, the choice, the sign and the flags give the outcome (Rounds); a location is at most 3 (round_laws: Choices). Assumes nothing.
use mathlib.Core.Path.{◌∙◌}
use mir.Facts.{to_z-of_z}
use Rattle.round_laws.specs.Location.{stretched}
use Rattle.fmt_fields.specs.Layout.{format_of}
use Rattle.fmt_fields.specs.Raised.{attribute_of}
use Rattle.round_locate.specs.Located.{Locates}
use Rattle.round_step.proofs.Rounds.{in_bounds, round_is}
use Rattle.round_step.proofs.round.round.Goals as goal

location_is : (c : goal.After-locate-c) → Locates (format_of c.args.fmt) (stretched c.args.sig c.args.exp) c.locate-c.result
location_is c = simp (to_z-of_z, c.ranges.exp) at c.locate-c.ensures

pub finish-requires : goal.finish-requires
finish-requires c =
    let e = location_is c in
    in_bounds c.args.fmt.fits (stretched c.args.sig c.args.exp) e.0.0 e.0.1

pub returns : goal.returns
returns c =
    c.finish.ensures
    ∙ round_is (format_of c.args.fmt) c.args.fmt.fits.fair (attribute_of c.args.attribute) c.args.neg c.args.sig c.args.exp (location_is c.before).0
