-- With q at its highest, what is left to do is shift the lower of the two right (Alignments). Assumes nothing.
use Prim.Native.Nat.{◌+◌, min}
use mathlib.Core.Path.{◌≡◌, ap, ◌∙◌}
use native.Mathlib.Omega.{arith}
use lib.IntN.{ℤ, pos, ◌-ℤ◌}
use lib.Pow.{shl_exact}
use mir.Syntax.{w32}
use mir.Val.{SFits}
use mir.Facts.{to_z-of_z}
use Rattle.algebra.proofs.Integers.{up, dn, sub_z, one_z, mag_z_fact, sfits_z}
use Rattle.round_wide.specs.Stuck.{stuck}
use Rattle.fma_align.proofs.Alignments.{sides_told, aligns_from_room}
use Rattle.fma_align.proofs.magnitude.U64Magnitude.align.Goals as goal

pub returns : goal.returns
returns c =
    let s = c.args in
    let e : ℤ = s.e in
    let h : ℤ = s.g -ℤ pos 38 in
    let d : ℤ = s.g -ℤ s.e in
    let at = c.sides_of-at in
    let fits : SFits w32 h = sfits_z w32 h (omega (arith, mag_z_fact s.g c.requires.2, sub_z s.g (pos 38))) (omega (arith, mag_z_fact s.g c.requires.2, sub_z s.g (pos 38))) in
    let (a, b) = simp (to_z-of_z, c.ranges.e, c.ranges.g, fits) at at.ensures in
    let told = sides_told e h a b in
    let sides : (at.result.below + 38 + dn d ≡ at.result.above + up d) × (min at.result.below at.result.above ≡ 0) =
    omega (arith, told.0, told.1, sub_z h e, one_z (h -ℤ e), sub_z s.g (pos 38), sub_z s.g e) in
    aligns_from_room 38 s.p s.q d _ _ _ _ sides.0 sides.1 c.shr_sticky.ensures
    (c.shr_sticky-2.ensures ∙ ap (λ v. stuck v at.result.above) (shl_exact 26 38 64 (omega (arith, c.requires.0)) (omega arith)))
