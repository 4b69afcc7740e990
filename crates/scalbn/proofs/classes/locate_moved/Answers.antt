-- A field that is not of normal numbers is below them or past them (fmt_fields: Normals), and either is a location (scalbn_laws: Scales). Assumes nothing.
use Prim.Native.Nat.{◌-◌, ◌^◌, ◌≤◌}
use mathlib.Core.Path.{◌≡◌, sym, ap, ◌∙◌}
use mathlib.Core.Logic.{⊎_elim}
use native.Mathlib.Omega.{arith}
use lib.IntN.{pos, ◌+ℤ◌}
use mir.Syntax.{w64}
use mir.Val.{SFits}
use mir.Facts.{to_z-of_z}
use Rattle.fmt_fields.specs.Layout.{format_of}
use Rattle.fmt_fields.proofs.Decoded.{significand_room}
use Rattle.fmt_fields.proofs.Normals.{not_normal_field}
use Rattle.fmt_exponents.specs.Field.{above, depth_of}
use Rattle.fmt_exponents.proofs.Exponents.{depth_least, above_is}
use Rattle.round_laws.specs.Location.{inside_at}
use Rattle.round_laws.proofs.Insides.{largest_outside}
use Rattle.scalbn_laws.specs.Normal.{moved_to}
use Rattle.scalbn_laws.proofs.Scales.{below_lies, below_outside, over_lies}
use Rattle.scalbn.proofs.classes.locate_moved.Goals as goal
use Rattle.scalbn.proofs.classes.locate_moved.Goals.{After-field_or_zero}

to_is : (c : After-field_or_zero) → c.move_field-to.result ≡ moved_to (format_of c.args.fmt) c.args.x c.args.n
to_is c = (simp (to_z-of_z, c.ranges.n) at c.move_field-to.ensures) ∙ ap (λ v. c.args.n +ℤ pos v) c.exponent_field.ensures

to_back : (c : After-field_or_zero) → SFits w64 c.move_field-to.result
to_back c = record { sfits = c.move_field-to.type_inv }

field_is : (c : After-field_or_zero) → c.field_or_zero.result ≡ above (moved_to (format_of c.args.fmt) c.args.x c.args.n)
field_is c = (simp (to_z-of_z, to_back c) at c.field_or_zero.ensures) ∙ ap above (to_is c)

pub returns-then-field_or_zero-eq0 : goal.returns-then-field_or_zero-eq0
returns-then-field_or_zero-eq0 c =
    let u = (goal.at.returns-then-field_or_zero-eq0 c).After-field_or_zero in
    let f = format_of c.args.fmt in
    let z = moved_to f c.args.x c.args.n in
    let k = c.bits_below_unit.result in
    let depth : k ≡ depth_of z = (simp (to_z-of_z, to_back u) at c.bits_below_unit.ensures) ∙ ap depth_of (to_is u) in
    let (a, b, h, y) = below_lies f c.args.fmt.fits.fair c.args.x c.args.n c.requires.0 k (sym (field_is u) ∙ c.if-field_or_zero-eq0.true) depth (significand_room c.args.fmt.fits c.args.x) in
    let (i, j, l, m, o) = c.locate_below_unit.ensures in
    ((i ∙ sym a, j ∙ sym b, l ∙ sym h, m ∙ sym y), o ∙ below_outside f c.args.x k (omega (arith, depth, depth_least z)) i)

-- the field is the last or past it
pub returns : goal.returns
returns c =
    let u = (goal.at.returns c).After-field_or_zero in
    let f = format_of c.args.fmt in
    let z = moved_to f c.args.x c.args.n in
    let some = c.if-field_or_zero-eq0.false in
    let far : 2 ^ c.args.fmt.expo - 1 ≤ above z = ⊎_elim (λ e. absurd (some (field_is u ∙ e))) (λ l. l) (not_normal_field c.args.fmt.expo (above z) c.requires.1) in
    let up : z ≡ pos (above z) = above_is z (omega (arith, field_is u, some)) in
    let (a, b, h, y) = over_lies f c.args.fmt.fits.fair c.args.x c.args.n c.requires.0 (above z) up far in
    let last = ap (λ n. n - 1) c.infinity.ensures in
    ((last ∙ sym a, sym b, sym h, sym y), largest_outside f ∙ ap (inside_at f) (sym last))
