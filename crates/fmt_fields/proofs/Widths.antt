-- Numbers of a format that fits in a word of 64 bits. Assumes nothing.
use Rattle.std.proofs.Common.{◌≡◌, ℕ, suc, ◌+◌, ◌-◌, ◌*◌, ◌/◌, ◌^◌, ◌<◌, ◌≤◌, sym, ap, ◌∙◌, arith, pow_pos, pow_mono, pow-add}
use native.Mathlib.Nat.{two-pow-succ}
use Rattle.algebra.proofs.Products.{times, times_le, mul_lt_cancel}
use Rattle.algebra.proofs.Quotients.{div_mod}
use Rattle.ieee.proofs.Formats.{fair64, fair32}
use Rattle.fmt_fields.specs.Width.{Fits}

pub fits64 : Fits 52 11
fits64 = record { fair = fair64; word = omega arith; small = omega arith }

pub fits32 : Fits 23 8
fits32 = record { fair = fair32; word = omega arith; small = omega arith }

module _ {p e : ℕ} (w : Fits p e) where
  pub four_fields : 4 ≤ 2 ^ e
  four_fields = pow_mono {i = 2} {j = e} w.fair.expo_two

  pub fields_small : 2 ^ e ≤ 2 ^ 16
  fields_small = pow_mono w.small

  -- a word has 63 - p bits more than the format keeps
  pub extra_bits : 2 ^ (63 - p) * 2 ^ p ≡ 2 ^ 63
  extra_bits = let e : 63 - p + p ≡ 63 = omega (arith, w.word) in sym (pow-add 2 (63 - p) p) ∙ ap (λ n. 2 ^ n) e

  pub fills_least : (s : ℕ) → 2 ^ 63 ≤ s → 2 ^ (63 - p + p) ≤ s
  fills_least s l = omega (arith, pow-add 2 (63 - p) p, extra_bits)

  pub fills_most : (s : ℕ) → s < 2 ^ 64 → s < 2 ^ (63 - p + suc p)
  fills_most s l = omega (arith, pow-add 2 (63 - p) (suc p), times (2 ^ (63 - p)) (two-pow-succ p), extra_bits)

  -- so a shift by as many or more leaves p + 1
  pub kept_small : (s k : ℕ) → s < 2 ^ 64 → 63 - p ≤ k → s / 2 ^ k < 2 * 2 ^ p
  kept_small s k l h =
      let (d, r) = div_mod s (2 ^ k) (pow_pos k) in
      let m = pow_mono {i = 63 - p} {j = k} h in
      mul_lt_cancel (s / 2 ^ k) (2 * 2 ^ p) (2 ^ k) (omega (arith, extra_bits, times_le (2 ^ p) m))

  -- with an exponent field below the last two, the sum stays below the word's top bit
  pub field_room : (c q : ℕ) → c + 3 ≤ 2 ^ e → q < 2 * 2 ^ p → c * 2 ^ p + q < 2 ^ 63
  field_room c q l h =
      let m = pow_mono {i = e + p} {j = 63} (omega (arith, w.word)) in
      omega (arith, times_le (2 ^ p) l, m, pow-add 2 e p, pow_pos p)
