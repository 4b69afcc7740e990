-- The field moves among those of normal numbers, or the value is located (Parts). Assumes nothing.
use Rattle.fmt_fields.specs.Raised.{attribute_of}
use Rattle.scalbn.proofs.Parts.{ready, moved, located}
use Rattle.scalbn.proofs.rounded.normal_scaled.Goals as goal

pub returns-then-is_normal_field : goal.returns-then-is_normal_field
returns-then-is_normal_field c =
    moved c.args.fmt.fits (attribute_of c.args.attribute) c.requires.0 c.ranges.n c.requires.1 c.moved_field-field.ensures c.is_normal_field.ensures c.if-is_normal_field.true
    c.with_field.ensures.0 c.none.ensures

pub finish-requires : goal.finish-requires
finish-requires c = ready c.args.fmt.fits _ _ c.locate_moved.ensures

pub returns : goal.returns
returns c = located c.args.fmt.fits (attribute_of c.args.attribute) c.requires.0 c.ranges.n c.requires.1 _ c.locate_moved.ensures c.is_negative.ensures c.finish.ensures
