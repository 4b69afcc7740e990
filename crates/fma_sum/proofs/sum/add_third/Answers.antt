-- Each step is the definition's, and every number fits (fma_laws: Room). Assumes nothing.
use Prim.Native.Nat.{◌+◌, ◌^◌, ◌<◌}
use mathlib.Core.Path.{◌≡◌, ap, ap₂, ◌∙◌}
use native.Mathlib.Omega.{arith}
use lib.IntN.{ℤ, pos, ◌+ℤ◌, ◌-ℤ◌}
use lib.Signed.{mag}
use mir.Syntax.{w32}
use mir.Val.{SFits}
use mir.Facts.{to_z-of_z}
use Rattle.ieee.specs.Pattern.{unlike}
use Rattle.fma_laws.specs.Aligned.{joined, joined_sign, down_by}
use Rattle.fma_laws.proofs.Room.{added_below, joined_below, added_exp_small}
use Rattle.fma_sum.proofs.sum.add_third.Goals as goal

-- a small exponent fits
fits : (e : ℤ) → mag e < 2 ^ 18 → SFits w32 e
fits e h = record { sfits = omega arith }

pub add_signed-s-requires : goal.add_signed-s-requires
add_signed-s-requires g c =
    let p = c.args.p in
    let q = c.args.q in
    let (a, b, _) = simp (to_z-of_z, fits p.exp c.requires.1, fits q.exp c.requires.2) at c.align-a.ensures in
    added_below g.S.Magnitude.left (g.S.Magnitude.number p.sig) q.sig (q.exp -ℤ p.exp) a b c.requires.0

pub returns : goal.returns
returns g c =
    let p = c.args.p in
    let q = c.args.q in
    let l = g.S.Magnitude.left in
    let d : ℤ = q.exp -ℤ p.exp in
    let (a, b, k) = simp (to_z-of_z, fits p.exp c.requires.1, fits q.exp c.requires.2) at c.align-a.ensures in
    let (sum, neg) = c.add_signed-s.ensures in
    let e : ℤ = c.add_to_exponent.result in
    let exp : e ≡ p.exp +ℤ pos (down_by l d) = simp (to_z-of_z, fits p.exp c.requires.1) at c.add_to_exponent.ensures ∙ ap (λ u. p.exp +ℤ pos u) k in
    let small : mag e < 2 ^ 19 + 2 ^ 18 = rw exp (added_exp_small p.exp q.exp c.requires.1 c.requires.2 l) in
    let back : SFits w32 e = record { sfits = omega (arith, small) } in
    let below = joined_below (unlike p.neg q.neg) _ _ sum (added_below l (g.S.Magnitude.number p.sig) q.sig d a b c.requires.0) in
    simp (to_z-of_z, back) ((sum ∙ ap₂ (joined (unlike p.neg q.neg)) a b, neg ∙ ap₂ (joined_sign p.neg q.neg) a b, exp), small, below)
