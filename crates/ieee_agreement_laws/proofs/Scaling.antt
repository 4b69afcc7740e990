-- The toolchain's product with the number 2 ^ n, for every whole n, is our scalbn. Assumes nothing.
use Prim.Native.Nat.{ℕ, suc, ◌*◌, ◌^◌}
use mathlib.Core.Path.{◌≡◌, refl, sym, ap, ◌∙◌}
use mathlib.Core.Bool.{Bool, false}
use native.Mathlib.Nat.{mul-pos}
use native.Mathlib.Omega.{arith}
use lib.IntN.{ℤ, pos, negsuc}
use lib.Pow.{pow_pos}
use lib.Ieee.{Float, Format as Theirs, up, down, mul, round, of_bits, to_bits}
use lib.Ieee.Fits.{down_pos}
use Rattle.algebra.proofs.Products.{times}
use Rattle.ieee.specs.Format.{low, inf}
use Rattle.ieee.specs.Pattern.{Pattern, minus, signed, unlike, Kind, kind}
use Rattle.ieee.specs.Round.{ties_to_even, answer}
use Rattle.ieee.specs.Scalbn.{scaled, scalbn_by, scalbn_in, scalbn_of}
use Rattle.ieee.proofs.Units.{units_lt}
use Rattle.ieee.proofs.Patterns.{finite_is, infinity_is}
use Rattle.ieee.proofs.Exacts.{answer_of, sign_own}
use Rattle.ieee.proofs.Scalbns.{clamp_alike}
use Rattle.ieee_agreement_laws.specs.Toolchain.{ours, Same, nans, infinities, numbers, power}
use Rattle.ieee_agreement_laws.proofs.Formats.{fair}
use Rattle.ieee_agreement_laws.proofs.Patterns.{pattern_same, write_nan, write_infinite}
use Rattle.ieee_agreement_laws.proofs.Rounding.{round_as}
use Rattle.ieee_agreement_laws.proofs.Operations.{unlike_plus}

scaled_same : (k : Theirs) (s : Bool) (m : ℕ) (e : ℤ) (u : ℕ) (n : ℤ) → m * up e * 2 ^ low (ours k) ≡ u * down e
    → to_bits k (round k s (m * up e * (1 * up n)) (down e * down n)) ≡ answer (ours k) ties_to_even s (scaled s u n)
scaled_same k s m e u (pos n) h =
    round_as k s (m * up e * (1 * 2 ^ n)) (down e * 1) (u * 2 ^ n) 1 (omega (arith, down_pos e)) (omega arith) (omega (arith, times (2 ^ n) h))
    ∙ sym (answer_of (ours k) ties_to_even s s (u * 2 ^ n) 0 (sign_own s (u * 2 ^ n) 0))
scaled_same k s m e u (negsuc n) h =
    round_as k s (m * up e * (1 * 1)) (down e * 2 ^ suc n) u (2 ^ suc n) (mul-pos (down_pos e) (pow_pos (suc n))) (pow_pos (suc n)) (omega (arith, times (2 ^ suc n) h))
    ∙ sym (answer_of (ours k) ties_to_even s s u (suc n) (sign_own s u (suc n)))

module _ (k : Theirs) (x : ℕ) (n : ℤ) (p : Pattern (ours k) x) where
  scaled_rows : {v : Float} {s : Bool} {a : Kind} → Same (low (ours k)) v s a → s ≡ minus (ours k) x → kind (ours k) x ≡ a → to_bits k (mul k v (power n)) ≡ scalbn_by (ours k) ties_to_even x n a
  unfolding mul scalbn_by
  scaled_rows (nans s) r e = write_nan k
  scaled_rows (infinities s) r e = write_infinite k (unlike s false) ∙ ap (λ b. signed (ours k) b (inf (ours k))) (unlike_plus s ∙ r) ∙ infinity_is (ours k) x p e
  scaled_rows (numbers s m y u h) r e =
      let f = ours k in
      let b = finite_is f x u e in
      ap (λ c. to_bits k (round k c (m * up y * (1 * up n)) (down y * down n))) (unlike_plus s ∙ r)
      ∙ scaled_same k (minus f x) m y u n h
      ∙ sym (clamp_alike f (fair k) ties_to_even (minus f x) u n (omega (arith, b.counts, units_lt f b.below)))

  pub scalbn_same : to_bits k (mul k (of_bits k x) (power n)) ≡ scalbn_of (ours k) x n
  unfolding scalbn_of scalbn_in
  scalbn_same = scaled_rows (pattern_same k x) refl refl
