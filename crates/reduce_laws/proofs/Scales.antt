-- The divisor scaled until it has two leading zeros, and divisors that are powers of two. Assumes nothing.
use Prim.Native.Nat.{ℕ, ◌+◌, ◌-◌, ◌*◌, ◌/◌, ◌%◌, ◌^◌, ◌≤◌, ◌<◌}
use mathlib.Core.Path.{◌≡◌, sym, ap, ◌∙◌}
use native.Mathlib.Omega.{arith}
use lib.Bits.{bit_and, and_mask}
use lib.Count.{count_leading_zeros}
use lib.Pow.{pow-add, pow_pos, pow_mono}
use Rattle.algebra.proofs.Products.{order, times, times_le, mul_eq_cancel}
use Rattle.algebra.proofs.Powers.{pow_diff, pow_inj_lt}
use Rattle.algebra.proofs.Quotients.{div_mod, div_is, mod_is}
use Rattle.algebra.proofs.Leading.{Fills, leading_fills}
use Rattle.reduce_laws.specs.Reducer.{Power}

-- y has z leading zeros: scaled by all but two of them it has two
pub record Scaled (w y z : ℕ) : Type 0 where
  pub two : 2 ≤ z
  pub few : z < w
  pub least : 2 ^ (w - 3) ≤ y * 2 ^ (z - 2)
  pub most : y * 2 ^ (z - 2) < 2 ^ (w - 2)
  pub grown : y ≤ y * 2 ^ (z - 2)

pub scaled : {w y : ℕ} → 3 ≤ w → 0 < y → y < 2 ^ (w - 2) → Scaled w y (count_leading_zeros w y)
scaled {w} {y} l p h =
    record {
      two = two;
      few = f.fewer;
      least = omega (arith, parts, f.least, eighth);
      most = omega (arith, parts, f.most, quarter);
      grown = omega (arith, times_le y (pow_pos (z - 2)));
    }
  where
    z : ℕ
    z = count_leading_zeros w y

    quarter : 2 ^ (w - 2) * 4 ≡ 2 ^ w
    quarter = pow_diff {a = w} {b = 2} (omega arith)

    eighth : 2 ^ (w - 3) * 8 ≡ 2 ^ w
    eighth = pow_diff {a = w} {b = 3} (omega arith)

    f : Fills w y z
    f = leading_fills w y p (omega (arith, h, quarter))

    two : 2 ≤ z
    two =
        order 2 z (λ d. d)
        (λ d. let g : 2 ^ z ≤ 2 ^ 1 = pow_mono {j = 1} (omega arith) in absurd (omega (arith, f.least, quarter, h, times_le y g)))

    parts : y * 2 ^ z ≡ y * 2 ^ (z - 2) * 4
    parts = omega (arith, times y (pow_diff {a = z} {b = 2} two))

-- ---- the scale: the remainder of x 2 ^ s 2 ^ e by y 2 ^ s is 2 ^ s times that of x 2 ^ e by y
pub left_scaled_back : (x e y s : ℕ) → 0 < y → x * 2 ^ s * 2 ^ e % (y * 2 ^ s) / 2 ^ s ≡ x * 2 ^ e % y
left_scaled_back x e y s p =
    let d = div_mod (x * 2 ^ e) y p in
    let h : x * 2 ^ s * 2 ^ e % (y * 2 ^ s) ≡ x * 2 ^ e % y * 2 ^ s
    = mod_is (x * 2 ^ s * 2 ^ e) (y * 2 ^ s) (x * 2 ^ e / y) (x * 2 ^ e % y * 2 ^ s) (omega (arith, times_le (2 ^ s) d.1, pow_pos s)) (omega (arith, times (2 ^ s) d.0)) in
    (div_is (x * 2 ^ s * 2 ^ e % (y * 2 ^ s)) (2 ^ s) (x * 2 ^ e % y) 0 (pow_pos s) (omega (arith, h))).0

-- ---- a divisor that is a power of two: the low bits, or 0 where they are all shifted out
low_bits : (x e j w : ℕ) → j ≤ w → x * 2 ^ e % 2 ^ w % 2 ^ j ≡ x * 2 ^ e % 2 ^ j
low_bits x e j w l =
    let d = div_mod (x * 2 ^ e) (2 ^ w) (pow_pos w) in
    let g = div_mod (x * 2 ^ e % 2 ^ w) (2 ^ j) (pow_pos j) in
    sym (mod_is (x * 2 ^ e) (2 ^ j) (x * 2 ^ e / 2 ^ w * 2 ^ (w - j) + x * 2 ^ e % 2 ^ w / 2 ^ j) _ g.1
    (omega (arith, d.0, g.0, times (x * 2 ^ e / 2 ^ w) (pow_diff l))))

no_bits : (x e j : ℕ) → j ≤ e → 0 ≡ x * 2 ^ e % 2 ^ j
no_bits x e j l = sym (mod_is (x * 2 ^ e) (2 ^ j) (x * 2 ^ (e - j)) 0 (pow_pos j) (omega (arith, times x (pow_diff l))))

power_in_word : (w y : ℕ) → (p : Power y) → y < 2 ^ w → p.exponent < w
power_in_word w y p l = pow_inj_lt p.exponent w (omega (arith, p.is))

-- a power of two is not 0
pub power_some : {y : ℕ} → Power y → 1 ≤ y
power_some p = omega (arith, p.is, pow_pos p.exponent)

pub power_leaves_low_bits : (w x e y : ℕ) → Power y → y < 2 ^ w → bit_and (x * 2 ^ e % 2 ^ w) (y - 1) ≡ x * 2 ^ e % y
power_leaves_low_bits w x e y p l =
    let j = p.exponent in
    ap (λ d. bit_and (x * 2 ^ e % 2 ^ w) (d - 1)) p.is ∙ and_mask (x * 2 ^ e % 2 ^ w) j ∙ low_bits x e j w (omega (arith, power_in_word w y p l)) ∙ ap (λ d. x * 2 ^ e % d) (sym p.is)

pub power_leaves_nothing : (w x e y : ℕ) → Power y → y < 2 ^ w → w ≤ e → 0 ≡ x * 2 ^ e % y
power_leaves_nothing w x e y p l h = no_bits x e p.exponent (omega (arith, power_in_word w y p l)) ∙ ap (λ d. x * 2 ^ e % d) (sym p.is)

-- y 2 ^ s is a power of two only if y is
pub power_scaled : (y s k : ℕ) → 0 < y → y * 2 ^ s ≡ 2 ^ k → Power y
power_scaled y s k p e =
    let l : s < k + 1 = pow_inj_lt s (k + 1) (simp pow-add (omega (arith, e, times_le (2 ^ s) p, pow_pos k))) in
    record { exponent = k - s; is = mul_eq_cancel y (2 ^ (k - s)) (2 ^ s) (pow_pos s) (e ∙ sym (pow_diff {a = k} {b = s} (omega arith))) }
