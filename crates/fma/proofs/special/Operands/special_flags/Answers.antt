-- The rows in order (FlagRows). Assumes nothing.
use mathlib.Core.Path.{sym, ap, ◌∙◌}
use Rattle.ieee.specs.Flags.{nan_flags}
use Rattle.fmt_fields.specs.Layout.{format_of}
use Rattle.fma.proofs.FlagRows.{signalled_row, clash_row, silent_row}
use Rattle.fma.proofs.special.Operands.special_flags.Goals as goal

pub returns-then-any_signals : goal.returns-then-any_signals
returns-then-any_signals c =
    λ a. c.invalid_if.ensures ∙ signalled_row (format_of c.args.self.fmt) a c.args.self.x c.args.self.y c.args.self.z (sym c.any_signals.ensures ∙ c.if-any_signals.true)

pub returns-then-is_clash : goal.returns-then-is_clash
returns-then-is_clash c =
    λ a. c.invalid_if-then-is_clash.ensures
    ∙ clash_row (format_of c.args.self.fmt) a c.args.self.x c.args.self.y c.args.self.z (sym c.any_signals.ensures ∙ c.if-any_signals.false) (sym c.is_clash.ensures ∙ c.if-is_clash.true)

pub returns : goal.returns
returns c =
    λ a. c.invalid_if-2.ensures
    ∙ ap nan_flags c.is_opposed.ensures
    ∙ sym (silent_row (format_of c.args.self.fmt) c.args.self.fmt.fits.fair a c.args.self.x c.args.self.y c.args.self.z c.requires.0 c.requires.1 (sym c.any_signals.ensures ∙ c.if-any_signals.false) (sym c.is_clash.ensures ∙ c.if-is_clash.false))
