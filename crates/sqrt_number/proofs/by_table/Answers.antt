-- The root of the radicand and its residual, by the layout of the word (Tables). Assumes nothing.
use Rattle.std.proofs.Common.{false, ap, ◌∙◌}
use Rattle.ieee.specs.Round.{way_of}
use Rattle.fmt_fields.specs.Raised.{attribute_of, flags_of}
use Rattle.sqrt_table.proofs.Rule as rule
use Rattle.sqrt_number.proofs.Tables.{long, empty, begun, room, held, raised_root}
use Rattle.sqrt_number.proofs.by_table.Goals as goal

pub invariant_of-near_root : goal.invariant_of-near_root
invariant_of-near_root g c =
    record {
      least = long c.format-fmt.ensures c.args.parts.sig c.args.parts.up c.requires c.word-word.result c.word-word.ensures;
      begins = rule.begins _ _ (begun c.format-fmt.ensures c.args.parts.sig c.args.parts.up c.requires c.word-word.result c.word-word.ensures c.step.result c.reciprocal-guess.result c.step.ensures c.reciprocal-guess.ensures).1;
    }

pub near_root-near-requires : goal.near_root-near-requires
near_root-near-requires g c = empty c.format-fmt.ensures c.args.parts.sig c.args.parts.up c.requires c.word-word.result c.word-word.ensures

pub round_near-requires : goal.round_near-requires
round_near-requires g c =
    room c.format-fmt.ensures c.args.parts.sig c.args.parts.up c.requires c.word-word.result c.word-word.ensures
    c.near_root-near.result.root c.near_root-near.result.rem c.near_root-near.ensures

pub narrow-requires : goal.narrow-requires
narrow-requires g c =
    held c.format-fmt.ensures c.args.parts.sig c.args.parts.up c.requires c.word-word.result c.word-word.ensures
    c.near_root-near.result.root c.near_root-near.result.rem c.near_root-near.ensures
    (way_of (attribute_of c.args.attribute) false) c.round_near.result.value c.round_near.ensures.value

pub returns : goal.returns
returns g c =
    raised_root c.format-fmt.ensures c.args.parts.sig c.args.parts.up c.requires c.word-word.result c.word-word.ensures
    c.near_root-near.result.root c.near_root-near.result.rem c.near_root-near.ensures
    (way_of (attribute_of c.args.attribute) false) _ (c.narrow.ensures.value ∙ c.round_near.ensures.value)
    _ (ap flags_of c.narrow.ensures.flags ∙ c.round_near.ensures.flags)
