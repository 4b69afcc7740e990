-- A format of the code, as that of the definitions. Assumes nothing.
use Rattle.ieee.specs.Format as ieee
use Rattle.fmt_fields.specs.Width.{format}
use Rattle.fmt_fields.specs.declared.layout.Format.{Format}

abbrev pub format_of : Format → ieee.Format
format_of f = format f.frac f.expo
