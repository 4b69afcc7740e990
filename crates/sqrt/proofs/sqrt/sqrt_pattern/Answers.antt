-- A pattern that has a root is a positive number (Asides), and every answer is a pattern (Rows). Assumes nothing.
use Rattle.std.proofs.Common.{sym, ◌∙◌}
use Rattle.ieee.specs.Round.{ties_to_even}
use Rattle.ieee.specs.Sqrt.{sqrt_of}
use Rattle.fmt_fields.specs.Layout.{format_of}
use Rattle.sqrt.proofs.Asides.{rooted_above}
use Rattle.sqrt.proofs.Rows.{whole}
use Rattle.sqrt.proofs.sqrt.sqrt_pattern.Goals as goal

pub sqrt_by_digits-requires : goal.sqrt_by_digits-requires
sqrt_by_digits-requires c = rooted_above (format_of c.args.fmt) c.args.x (sym c.has_no_root.ensures ∙ c.if-has_no_root.false)

pub returns-then-has_no_root : goal.returns-then-has_no_root
unfolding sqrt_of
returns-then-has_no_root c = whole c.args.fmt.fits c.args.x c.requires (c.sqrt_special.ensures ties_to_even)

pub returns : goal.returns
returns c = whole c.args.fmt.fits c.args.x c.requires c.sqrt_by_digits.ensures
