-- Five digits hold every exponent of a format that fits (Exponents). Assumes nothing.
use Rattle.hex_write.proofs.Exponents.{exponent_parted}
use Rattle.hex_write.proofs.parts.exponent_part.Goals as goal

pub returns : goal.returns
returns c = exponent_parted c.args.expo c.args.field c.pow-bias.result _ _ c.requires.most c.requires.field c.pow-bias.ensures c.abs_diff-size.ensures c.digit_count.ensures
