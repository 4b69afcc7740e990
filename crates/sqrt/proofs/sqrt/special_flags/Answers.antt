-- Each branch is a row of the flags under every attribute (Rows). Assumes nothing.
use Rattle.std.proofs.Common.{ltb, sym, ap, ◌∙◌, arith}
use Rattle.ieee.specs.Flags.{nan_flags}
use Rattle.fmt_fields.specs.Layout.{format_of}
use Rattle.sqrt.proofs.Rows.{nan_flags_lem, other_flags}
use Rattle.sqrt.proofs.sqrt.special_flags.Goals as goal

pub returns-then-magnitude_of-infinity : goal.returns-then-magnitude_of-infinity
returns-then-magnitude_of-infinity c a =
    c.invalid_if.ensures
    ∙ ap nan_flags c.is_signalling.ensures
    ∙ sym (nan_flags_lem (format_of c.args.fmt) a c.args.x c.args.fmt.fits.fair (omega (arith, c.infinity.ensures, c.magnitude_of.ensures, c.if-magnitude_of-infinity.true)))

pub returns : goal.returns
returns c a =
    c.invalid_if-2.ensures
    ∙ ap (λ t. nan_flags (ltb t c.args.x)) c.pow.ensures
    ∙ sym (other_flags (format_of c.args.fmt) a c.args.x c.args.fmt.fits.fair c.requires.0 c.requires.1 (omega (arith, c.infinity.ensures, c.magnitude_of.ensures, c.if-magnitude_of-infinity.false)))
