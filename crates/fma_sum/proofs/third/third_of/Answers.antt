-- A number that is not a zero is unpacked, and what that gives is small (fma_laws: Room). Assumes nothing.
use Prim.Native.Nat.{ℕ, ◌+◌, ◌*◌, ◌^◌, ◌<◌}
use mathlib.Core.Path.{◌≡◌, sym, ◌∙◌}
use mathlib.Core.Bool.{Bool, false, cond}
use native.Mathlib.Omega.{arith}
use borrow.Author.Tests.{eqb-false}
use lib.Dec.{eqb}
use lib.Signed.{mag}
use mir.Syntax.{w32}
use mir.Val.{SFits}
use mir.Facts.{to_z-of_z}
use Rattle.ieee.specs.Format.{Format, inf}
use Rattle.ieee.specs.Pattern.{magnitude}
use Rattle.fmt_fields.specs.Layout.{format_of}
use Rattle.fmt_decode.specs.Significand.{exp_of}
use Rattle.fmt_decode.proofs.Asides.{Ordinary}
use Rattle.fma_laws.specs.Fused.{third_sig, lowest}
use Rattle.fma_laws.proofs.Room.{below_pow, third_bits}
use Rattle.fma_sum.proofs.third.third_of.Goals as goal

-- z is a number that is not a zero
other : (f : Format) (z : ℕ) {b : Bool} → b ≡ eqb (magnitude f z) 0 → b ≡ false → eqb (magnitude f z) 0 ≡ false
other f z e h = sym e ∙ h

some : (f : Format) (z : ℕ) → eqb (magnitude f z) 0 ≡ false → magnitude f z < inf f → Ordinary f z
some f z e h = let n = eqb-false (magnitude f z) 0 e in record { least = omega (arith, n); most = h }

pub overflow_mul-result : goal.overflow_mul-result
overflow_mul-result c =
    let f = format_of c.args.fmt in
    let z = c.args.z in
    let w = c.args.fmt.fits in
    let o = some f z (other f z c.is_zero.ensures c.if-is_zero.false) c.requires in
    let short : c.norm_of-n.result.sig * 2 < 2 ^ (c.args.fmt.frac + 2) = omega (arith, c.norm_of-n.ensures.0, third_bits f w.fair z o) in
    record { fits = omega (arith, below_pow {j = 63} (omega (arith, w.word, w.fair.expo_two)) short) }

pub returns : goal.returns
returns c =
    let f = format_of c.args.fmt in
    let z = c.args.z in
    let n = c.norm_of-n in
    let e = other f z c.is_zero.ensures c.if-is_zero.false in
    let short : n.result.sig * 2 < 2 ^ (c.args.fmt.frac + 2) = omega (arith, n.ensures.0, third_bits f c.args.fmt.fits.fair z (some f z e c.requires)) in
    let small : mag n.result.exp < 2 ^ 18 = omega (arith, n.ensures.3.small) in
    let back : SFits w32 n.result.exp = record { sfits = omega (arith, small) } in
    let sig : n.result.sig * 2 ≡ cond (eqb (magnitude f z) 0) 0 (third_sig f z) = rw e (omega (arith, n.ensures.0)) in
    let exp : n.result.exp ≡ cond (eqb (magnitude f z) 0) lowest (exp_of f z) = rw e n.ensures.1 in
    simp (to_z-of_z, back) ((sig, exp, n.ensures.2), short, small)
