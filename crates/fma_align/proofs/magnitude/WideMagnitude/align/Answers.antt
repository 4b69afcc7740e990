-- Each branch is the definition's (Alignments), and the two words of the shifted q are its quotient and remainder (word_wide: Pairs). Assumes nothing.
use Prim.Native.Nat.{◌*◌, ◌^◌}
use mathlib.Core.Path.{refl}
use native.Mathlib.Nat.{add-zero}
use native.Mathlib.Omega.{arith}
use lib.IntN.{◌-ℤ◌}
use mir.Facts.{to_z-of_z}
use Rattle.word_wide.specs.Value.{value}
use Rattle.word_wide.proofs.Pairs.{rejoined}
use Rattle.fma_align.proofs.Alignments.{sides_told, aligns_below, aligns_near, aligns_far}
use Rattle.fma_align.proofs.magnitude.WideMagnitude.align.Goals as goal

pub returns-then-at-gt0 : goal.returns-then-at-gt0
returns-then-at-gt0 c =
    let s = c.args in
    let (a, b) = simp (to_z-of_z, c.ranges.e, c.ranges.g) at c.sides_of-at.ensures in
    let at = sides_told s.e s.g a b in
    aligns_below 64 (value s.p) s.q (s.g -ℤ s.e) _ _ at.1 c.if-at-gt0.true (omega (arith, c.from.ensures, c.shr_sticky.ensures))

pub returns-then-at-lt64 : goal.returns-then-at-lt64
returns-then-at-lt64 c =
    let s = c.args in
    let n = c.sides_of-at.result.below in
    let (a, b) = simp (to_z-of_z, c.ranges.e, c.ranges.g) at c.sides_of-at.ensures in
    let at = sides_told s.e s.g a b in
    aligns_near 64 (value s.p) s.q (s.g -ℤ s.e) _ n _ at.1 c.if-at-gt0.false at.0 c.if-at-lt64.true
    (rejoined (2 ^ 64) (s.q * 2 ^ n) (s.q * 2 ^ n) _ _ c.shl_carry.ensures refl refl)

pub returns : goal.returns
returns c =
    let s = c.args in
    let (a, b) = simp (to_z-of_z, c.ranges.e, c.ranges.g) at c.sides_of-at.ensures in
    let at = sides_told s.e s.g a b in
    aligns_far 64 (value s.p) s.q (s.g -ℤ s.e) _ _ c.sides_of-at.result.below _ at.1 c.if-at-gt0.false at.0 c.if-at-lt64.false c.shr_sticky_wide.ensures (add-zero _)
