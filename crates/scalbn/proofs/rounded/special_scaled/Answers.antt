-- Neither a normal number nor below them (Parts). Assumes nothing.
use Rattle.fmt_fields.specs.Layout.{format_of}
use Rattle.scalbn.proofs.Parts.{special}
use Rattle.scalbn.proofs.rounded.special_scaled.Goals as goal

pub returns : goal.returns
returns c = special (format_of c.args.fmt) c.requires.0 c.requires.1 c.requires.2 c.scale_special.ensures.0 c.is_signalling.ensures c.invalid_if.ensures
