-- The toolchain's division of numbers is our rounding of the exact quotient. Assumes nothing.
use Prim.Native.Nat.{ℕ, suc, ◌*◌, ◌^◌, ◌<◌}
use mathlib.Core.Path.{◌≡◌, refl, ap, ◌∙◌}
use mathlib.Core.Bool.{Bool, cond}
use native.Mathlib.Nat.{mul-pos}
use native.Mathlib.Omega.{arith}
use borrow.Author.Tests.{ne_eqb}
use lib.Dec.{eqb}
use lib.IntN.{ℤ}
use lib.Ieee.{nan as their-nan, inf as their-inf, fin, Format as Theirs, up, down, round, div, to_bits}
use lib.Ieee.Fits.{up_pos, down_pos}
use Rattle.algebra.proofs.Products.{order, times}
use Rattle.ieee.specs.Format.{low}
use Rattle.ieee.specs.Pattern.{minus, signed, unlike, finite, kind}
use Rattle.ieee.specs.Exact.{ratio}
use Rattle.ieee.specs.Round.{even, rounded}
use Rattle.ieee_agreement_laws.specs.Toolchain.{ours, on}
use Rattle.ieee_agreement_laws.proofs.Patterns.{unpacked}
use Rattle.ieee_agreement_laws.proofs.Rounding.{round_as}
use Rattle.ieee_agreement_laws.proofs.Products.{not_zero_of}

module _ (k : Theirs) where
  -- m 2 ^ e over n 2 ^ d, which is u over v units
  number_over : (s t : Bool) (m n : ℕ) (e d : ℤ) (u v : ℕ) → m * up e * 2 ^ low (ours k) ≡ u * down e → n * up d * 2 ^ low (ours k) ≡ suc v * down d
      → to_bits k (cond (eqb n 0) (cond (eqb m 0) their-nan (their-inf (unlike s t))) (round k (unlike s t) (m * up e * down d) (n * up d * down e)))
      ≡ signed (ours k) (unlike s t) (rounded (ours k) even (ratio (u * 2 ^ low (ours k)) (suc v)))
  number_over s t m n e d u v p q =
      let P = 2 ^ low (ours k) in
      let z = not_zero_of n d (low (ours k)) v q in
      let n_pos : 0 < n = order n 0 (λ h. absurd (z (omega arith))) (λ h. h) in
      ap (λ b. to_bits k (cond b (cond (eqb m 0) their-nan (their-inf (unlike s t))) (round k (unlike s t) (m * up e * down d) (n * up d * down e)))) (ne_eqb n 0 z)
      ∙ round_as k (unlike s t) (m * up e * down d) (n * up d * down e) (u * P) (suc v) (mul-pos (mul-pos n_pos (up_pos d)) (down_pos e)) (omega arith)
      (omega (arith, times (down d * suc v) p, times (u * down e) q))

  number_div : (s t : Bool) (m n : ℕ) (e d : ℤ) → div k (fin s m e) (fin t n d)
      ≡ cond (eqb n 0) (cond (eqb m 0) their-nan (their-inf (unlike s t))) (round k (unlike s t) (m * up e * down d) (n * up d * down e))
  unfolding div
  number_div s t m n e d = refl

  pub div_same : (x y u v : ℕ) → kind (ours k) x ≡ finite u → kind (ours k) y ≡ finite (suc v)
      → on div k x y ≡ signed (ours k) (unlike (minus (ours k) x) (minus (ours k) y)) (rounded (ours k) even (ratio (u * 2 ^ low (ours k)) (suc v)))
  div_same x y u v p q =
      let s = minus (ours k) x in
      let t = minus (ours k) y in
      let nx = unpacked k x u p in
      let ny = unpacked k y (suc v) q in
      let m = nx.significand in
      let n = ny.significand in
      let e = nx.exponent in
      let d = ny.exponent in
      (λ i. to_bits k (div k (nx.number.read_as i) (ny.number.read_as i)))
      ∙ ap (to_bits k) (number_div s t m n e d) ∙ number_over s t m n e d u v nx.number.counts ny.number.counts
