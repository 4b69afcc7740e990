-- A significand and an exponent as whole smallest units, by the exponent's sign; a number with fewer bits than the fraction is its own magnitude. Assumes nothing.
use Rattle.std.proofs.Common.{◌≡◌, ℕ, suc, ◌+◌, ◌-◌, ◌*◌, ◌/◌, ◌^◌, ◌<◌, ◌≤◌, true, false, ℤ, pos, negsuc, ◌+ℤ◌, ◌-ℤ◌, nat_abs, sym, refl, ap, ◌∙◌, arith, pow_pos}
use lib.Pow.{shr_le, shl-shr}
use lib.Signed.{lt_z}
use Rattle.algebra.proofs.Integers.{abs_z, add_z, sub_z, eq_z, lt_z_true, lt_z_false}
use Rattle.algebra.proofs.Products.{order, times, mul_eq_cancel}
use Rattle.algebra.proofs.Powers.{pow_diff}
use Rattle.ieee.specs.Format.{Format, low, units, inf}
use Rattle.ieee.specs.Round.{exactly}
use Rattle.fmt_decode.proofs.Packs.{exactly_packed}
use Rattle.fmt_decode.specs.Significand.{units_exp, exponent, shifted, units_at}
use Rattle.fmt_decode.proofs.Significands.{exponent_is}

-- a shift by an exponent that is not negative is a product, and by a negative one a quotient
pub shifted_up : (s : ℕ) (z : ℤ) → lt_z z (pos 0) ≡ false → s * 2 ^ nat_abs z ≡ shifted s z
shifted_up s (pos n) t = ap (λ k. s * 2 ^ k) (omega (arith, abs_z (pos n)))
shifted_up s (negsuc n) t = let l = lt_z_false (negsuc n) (pos 0) t in absurd (omega arith)

pub shifted_down : (s : ℕ) (z : ℤ) → lt_z z (pos 0) ≡ true → s / 2 ^ nat_abs z ≡ shifted s z
shifted_down s (pos n) t = let l = lt_z_true (pos n) (pos 0) t in absurd (omega arith)
shifted_down s (negsuc n) t = refl

pub own_magnitude : (f : Format) (s k u : ℕ) → s < 2 * 2 ^ f.frac → s / 2 ^ k ≡ u → u < units f (inf f) → s / 2 ^ k ≡ exactly f u
own_magnitude f s k u l e h =
    omega arith ∙ (exactly_packed f (s / 2 ^ k) 0 u (omega (arith, shr_le s k)) (λ z. absurd (omega arith)) (omega arith) h).0

-- where the units are whole, they are those of the exponent of the leading bit
shifted_exact : (p at s r : ℕ) → r * 2 ^ p ≡ s * 2 ^ at → shifted s (pos at -ℤ pos p) ≡ r
shifted_exact p at s r e = order p at above_it below_it
  where
    above_it : p ≤ at → shifted s (pos at -ℤ pos p) ≡ r
    above_it h =
        ap (shifted s) (eq_z (pos at -ℤ pos p) (pos (at - p)) (omega (arith, sub_z (pos at) (pos p))))
        ∙ mul_eq_cancel (s * 2 ^ (at - p)) r (2 ^ p) (pow_pos p) (omega (arith, times s (pow_diff h), e))

    below_it : at < p → shifted s (pos at -ℤ pos p) ≡ r
    below_it h =
        let k : suc (p - suc at) ≡ p - at = omega arith in
        let t : r * 2 ^ (p - at) ≡ s = mul_eq_cancel (r * 2 ^ (p - at)) s (2 ^ at) (pow_pos at) (omega (arith, times r (pow_diff {a = p} {b = at} (omega arith)), e)) in
        ap (shifted s) (eq_z (pos at -ℤ pos p) (negsuc (p - suc at)) (omega (arith, sub_z (pos at) (pos p))))
        ∙ ap (λ i. s / 2 ^ i) k
        ∙ ap (λ n. n / 2 ^ (p - at)) (sym t)
        ∙ shl-shr r (p - at)

module _ (f : Format) where
  -- p places below `at`
  placed : (p at : ℕ) → pos at -ℤ pos (p + low f) +ℤ pos (low f) ≡ pos at -ℤ pos p
  placed p at =
      let z = pos at -ℤ pos (p + low f) in
      eq_z (z +ℤ pos (low f)) (pos at -ℤ pos p) (omega (arith, sub_z (pos at) (pos (p + low f)), add_z z (pos (low f)), sub_z (pos at) (pos p)))

  pub units_exact : (p at s r : ℕ) → r * 2 ^ p ≡ s * 2 ^ at → units_at f s (pos at -ℤ pos (p + low f)) ≡ r
  units_exact p at s r e = ap (shifted s) (placed p at) ∙ shifted_exact p at s r e

  -- as the fields give it
  pub units_given : (x s : ℕ) → units_at f s (exponent f x) ≡ s * 2 ^ units_exp f x
  units_given x s =
      ap (units_at f s) (sym (exponent_is f x))
      ∙ ap (shifted s) (eq_z (pos (units_exp f x) -ℤ pos (low f) +ℤ pos (low f)) (pos (units_exp f x)) (omega (arith, sub_z (pos (units_exp f x)) (pos (low f)), add_z (pos (units_exp f x) -ℤ pos (low f)) (pos (low f)))))
