-- The digits of a fraction whose bits stand in them from the left, over formats that fit in a word. Assumes nothing.
use Prim.Native.Nat.{ℕ, ◌+◌, ◌-◌, ◌*◌, ◌/◌, ◌^◌, ◌≤◌, ◌<◌}
use mathlib.Core.Path.{◌≡◌, sym, ap, ◌∙◌}
use native.Mathlib.Omega.{arith}
use lib.Count.{count_trailing_zeros}
use lib.Pow.{pow_mono, pow_pos, shl_lt}
use Rattle.algebra.proofs.Products.{times_le}
use Rattle.text_numbers.specs.Digits.{digits_of}
use Rattle.ieee_numeral_laws.specs.Write.{trimmed}
use Rattle.fmt_fields.specs.Width.{format, Fits}
use Rattle.hex_write.specs.Parts.{FractionOf}
use Rattle.hex_write.proofs.Zeros.{none_stays, trimmed_by_bits}

-- no digit of a zero is kept
pub no_fraction : (p e t : ℕ) → t ≡ 0 → FractionOf (format p e) t 0 0
unfolding digits_of
no_fraction p e t z =
    let h : ℕ = (p + 3) / 4 in
    let none : t * 2 ^ (4 * h - p) ≡ 0 = ap (λ n. n * 2 ^ (4 * h - p)) z ∙ omega arith in
    record { digits = sym (ap (λ n. trimmed (digits_of 16 h n)) none ∙ none_stays h); few = omega arith }

-- a fraction t other than zero, which u shifts to the left
pub record Aligned (p e t u : ℕ) : Type 0 where
  pub fits : Fits p e
  pub some : t ≡ 0 → ⊥
  pub small : t < 2 ^ p
  pub shift : u ≡ 2 ^ (4 * ((p + 3) / 4) - p)

pub aligned : {p e t u : ℕ} → Fits p e → (t ≡ 0 → ⊥) → t < 2 ^ p → u ≡ 2 ^ (4 * ((p + 3) / 4) - p) → Aligned p e t u
aligned f n l i = record { fits = f; some = n; small = l; shift = i }

module _ {p e t u : ℕ} (w : Aligned p e t u) where
  abbrev all : ℕ
  all = (p + 3) / 4

  abbrev zeros : ℕ
  zeros = count_trailing_zeros 64 (t * u) / 4

  aligned_small : t * u < 2 ^ (4 * all)
  aligned_small =
      let sum : p + (4 * all - p) ≡ 4 * all = omega arith in
      let l : t * 2 ^ (4 * all - p) < 2 ^ (p + (4 * all - p)) = shl_lt p (4 * all - p) w.small in
      rw w.shift (rw sum at l)

  aligned_some : 0 < t * u
  aligned_some =
      let one : 1 ≤ t = omega (arith, w.some) in
      omega (arith, times_le u one, w.shift, pow_pos (4 * all - p))

  digits_room : 4 * all ≤ 64
  digits_room = omega (arith, w.fits.word, w.fits.fair.expo_two)

  kept : (zeros < all) × (digits_of 16 (all - zeros) (t * u / 2 ^ (4 * zeros)) ≡ trimmed (digits_of 16 all (t * u)))
  kept = trimmed_by_bits all (t * u) aligned_some aligned_small digits_room

  pub aligned_room : t * u < 2 ^ 64
  aligned_room = omega (arith, aligned_small, pow_mono {i = 4 * all} {j = 64} digits_room)

  pub zeros_fewer : zeros < all
  zeros_fewer = kept.0

  pub zeros_room : 4 * zeros < 64
  zeros_room = omega (arith, zeros_fewer, digits_room)

  -- v shifts the zeros off
  pub fraction_kept : (v : ℕ) → v ≡ 2 ^ (4 * zeros) → FractionOf (format p e) t (all - zeros) (t * u / v)
  fraction_kept v off =
      record {
        digits = ap (λ d. digits_of 16 (all - zeros) (t * u / d)) off ∙ kept.1 ∙ ap (λ d. trimmed (digits_of 16 all (t * d))) w.shift;
        few = omega (arith, digits_room);
      }
