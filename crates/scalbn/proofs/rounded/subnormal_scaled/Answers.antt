-- The value is located, and chosen by (Parts). Assumes nothing.
use Rattle.fmt_fields.specs.Raised.{attribute_of}
use Rattle.scalbn.proofs.Parts.{ready, low_located}
use Rattle.scalbn.proofs.rounded.subnormal_scaled.Goals as goal

pub finish-requires : goal.finish-requires
finish-requires c = ready c.args.fmt.fits _ _ c.locate_subnormal-low.ensures

pub returns : goal.returns
returns c = low_located c.args.fmt.fits (attribute_of c.args.attribute) c.requires.0 c.ranges.n c.requires.1 _ c.locate_subnormal-low.ensures c.is_negative.ensures c.finish.ensures
