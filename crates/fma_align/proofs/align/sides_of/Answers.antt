-- The larger exponent less either is how far that is below (Alignments; algebra: Integers). Assumes nothing.
use Prim.Native.Nat.{◌^◌, ◌<◌}
use mathlib.Core.Path.{◌≡◌}
use native.Mathlib.Omega.{arith}
use lib.IntN.{ℤ, nat_abs, ◌-ℤ◌}
use lib.Signed.{mag}
use mir.Syntax.{w32}
use mir.Val.{SFits}
use mir.Facts.{to_z-of_z}
use Rattle.algebra.proofs.Integers.{sub_z, abs_z, mag_z_fact, sfits_z}
use Rattle.fmt_exponents.specs.Field.{above}
use Rattle.fma_align.proofs.Alignments.{top_is}
use Rattle.fma_align.proofs.align.sides_of.Goals as goal

pub returns : goal.returns
returns c =
    let a : ℤ = c.args.a in
    let b : ℤ = c.args.b in
    let t : ℤ = c.max-top.result in
    let top = top_is b a t (simp (to_z-of_z, c.ranges.a, c.ranges.b) at c.max-top.ensures.value) in
    let small : mag t < 2 ^ 19 = top.small (2 ^ 19) c.requires.1 c.requires.0 in
    let fits : SFits w32 t = record { sfits = omega (arith, small) } in
    let n = mag_z_fact t small in
    let k = mag_z_fact a c.requires.0 in
    let m = mag_z_fact b c.requires.1 in
    let x : SFits w32 (t -ℤ a) = sfits_z w32 (t -ℤ a) (omega (arith, k, n, sub_z t a)) (omega (arith, k, n, sub_z t a)) in
    let y : SFits w32 (t -ℤ b) = sfits_z w32 (t -ℤ b) (omega (arith, m, n, sub_z t b)) (omega (arith, m, n, sub_z t b)) in
    let below : nat_abs (t -ℤ a) ≡ above (b -ℤ a) = omega (arith, abs_z (t -ℤ a), top.some, top.sides) in
    let over : nat_abs (t -ℤ b) ≡ above (a -ℤ b) = omega (arith, abs_z (t -ℤ b), top.some, top.sides) in
    simp (to_z-of_z, c.ranges.a, c.ranges.b, fits, x, y) (below, over)
