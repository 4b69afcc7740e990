-- The remainder at the exponent of y is that of x by y, and packed it is finite, so its sign fits above it (Fmods). Assumes nothing.
use Prim.Native.Nat.{ℕ}
use mathlib.Core.Path.{◌≡◌, ap, ap₂, ◌∙◌}
use native.Mathlib.Omega.{arith}
use mir.Syntax.{w32}
use mir.Val.{SFits, to_z, of_z}
use mir.Facts.{to_z-of_z}
use Rattle.ieee.specs.Pattern.{signed}
use Rattle.ieee.specs.Round.{exactly}
use Rattle.fmt_fields.specs.Layout.{format_of}
use Rattle.fmt_decode.specs.Significand.{exponent, units_at}
use Rattle.fmt_decode.proofs.Ranges.{range_fits}
use Rattle.fmod.proofs.Fmods.{Finishes, reduces}
use Rattle.fmod.proofs.fmod.finish.Goals as goal
use Rattle.fmod.proofs.fmod.finish.Goals.{After-unpack-b}

ends : (c : After-unpack-b) → Finishes (format_of c.args.fmt) c.args.x c.args.y c.args.left
ends c = (reduces c.args.fmt.fits c.args.x c.args.y c.requires.0).finishes c.args.left c.requires.1

exp-fits : (c : After-unpack-b) → SFits w32 c.unpack-b.result.exp
exp-fits c = range_fits c.args.fmt.fits c.unpack-b.result.exp c.unpack-b.ensures.3

units-are : (c : After-unpack-b) → let f = format_of c.args.fmt in units_at f c.args.left c.unpack-b.result.exp ≡ units_at f c.args.left (exponent f c.args.y)
units-are c = ap (units_at (format_of c.args.fmt) c.args.left) c.unpack-b.ensures.1

packed-is : (c : After-unpack-b) {m : ℕ} → m ≡ exactly (format_of c.args.fmt) (units_at (format_of c.args.fmt) c.args.left (to_z w32 (of_z w32 c.unpack-b.result.exp)))
    → m ≡ exactly (format_of c.args.fmt) (units_at (format_of c.args.fmt) c.args.left (exponent (format_of c.args.fmt) c.args.y))
packed-is c e = (simp (to_z-of_z, exp-fits c) at e) ∙ ap (exactly (format_of c.args.fmt)) (units-are c)

pub pack-m-requires : goal.pack-m-requires
pack-m-requires c =
    let u = (goal.at.pack-m-requires c).After-unpack-b in
    simp (to_z-of_z, exp-fits u) ((ends u).few, c.unpack-b.ensures.3, omega (arith, units-are u, (ends u).fits))

pub with_sign-requires : goal.with_sign-requires
with_sign-requires c =
    let u = (goal.at.with_sign-requires c).After-unpack-b in
    omega (arith, packed-is u c.pack-m.ensures, (ends u).below)

pub returns : goal.returns
returns c =
    let u = (goal.at.returns c).After-unpack-b in
    let is = c.with_sign.ensures ∙ ap₂ (signed (format_of c.args.fmt)) c.is_negative.ensures (packed-is u c.pack-m.ensures) in
    (is ∙ (ends u).is, rw is (ends u).pattern)
