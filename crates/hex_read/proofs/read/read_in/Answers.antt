-- The length first, then what was found (Answers). Assumes nothing.
use Rattle.hex_read.proofs.Answers.{too_long, is_read, held_pattern}
use Rattle.hex_read.proofs.read.read_in.Goals as goal

pub returns-then-text-gt-LIMIT-clause-value : goal.returns-then-text-gt-LIMIT-clause-value
returns-then-text-gt-LIMIT-clause-value c = too_long _ _ c.args.text.now c.if-text-gt-LIMIT.true

pub returns-clause-value : goal.returns-clause-value
returns-clause-value c = rw (c.ok_or.ensures.value, c.read_numeral.ensures) (is_read _ _ c.args.text.now c.if-text-gt-LIMIT.false)

pub returns-clause-held : goal.returns-clause-held
returns-clause-held c = rw (c.ok_or.ensures.value, c.read_numeral.ensures) (held_pattern _ c.args.fmt.fits.fair _ _)
