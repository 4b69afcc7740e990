-- A number is its own answer where it stays, and what is past the numbers stays (Directions); the flags go by the magnitude (Raises). Assumes nothing.
use Rattle.std.proofs.Common.{sym, ap, ◌∙◌, subst, arith, ltb-false, ltb-true}
use Rattle.ieee.specs.Format.{inf}
use Rattle.ieee.specs.Flags.{nan_flags}
use Rattle.ieee.specs.Pattern.{Pattern, magnitude}
use Rattle.fmt_fields.specs.Layout.{format_of}
use Rattle.integral.proofs.Choices.{not_past}
use Rattle.integral.proofs.Directions.{past_numbers, directed_pattern}
use Rattle.integral.proofs.Raises.{number_flags, rest_flags, directed_raises}
use Rattle.integral.proofs.directed.directed_flags.Goals as goal

pub direct-r-requires-clause-stays : goal.direct-r-requires-clause-stays
direct-r-requires-clause-stays c =
    let f = format_of c.args.fmt in
    sym (not_past f c.args.x (omega (arith, ltb-true (magnitude f c.args.x) (inf f) (sym c.is_number.ensures ∙ c.if-is_number.true))))

pub returns-then-is_number-clause-flags : goal.returns-then-is_number-clause-flags
returns-then-is_number-clause-flags c =
    let f = format_of c.args.fmt in
    let x = c.args.x in
    let r = c.direct-r.result in
    c.inexact_if.ensures
    ∙ number_flags f x r (ltb-true (magnitude f x) (inf f) (sym c.is_number.ensures ∙ c.if-is_number.true))
    ∙ directed_raises f x r c.args.up c.direct-r.ensures.value

pub returns-clause-value : goal.returns-clause-value
returns-clause-value c =
    let f = format_of c.args.fmt in
    let x = c.args.x in
    c.canonicalise.ensures ∙ past_numbers f c.args.fmt.fits.fair c.args.up x (ltb-false (magnitude f x) (inf f) (sym c.is_number.ensures ∙ c.if-is_number.false))

pub returns-clause-held : goal.returns-clause-held
returns-clause-held c =
    let f = format_of c.args.fmt in
    subst (Pattern f) (sym (returns-clause-value c)) (directed_pattern f c.args.fmt.fits.fair c.args.up c.args.x c.requires)

pub returns-clause-flags : goal.returns-clause-flags
returns-clause-flags c =
    let f = format_of c.args.fmt in
    let x = c.args.x in
    let r = c.canonicalise.result in
    c.invalid_if.ensures
    ∙ ap nan_flags c.is_signalling.ensures
    ∙ rest_flags f x r (ltb-false (magnitude f x) (inf f) (sym c.is_number.ensures ∙ c.if-is_number.false))
    ∙ directed_raises f x r c.args.up (returns-clause-value c)
