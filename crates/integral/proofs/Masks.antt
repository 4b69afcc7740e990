-- Masks: the last bits of a word, all set. Assumes nothing.
use Rattle.std.proofs.Common.{◌≡◌, ℕ, suc, ◌-◌, ◌*◌, ◌/◌, ◌%◌, ◌^◌, ◌<◌, ◌≤◌, sym, ap, ◌∙◌, mod-eq_of_lt, arith, pow_pos, pow_mono}
use lib.Bits.{bit_and, and_mask}
use Rattle.algebra.proofs.Products.{order, times, diff}
use Rattle.algebra.proofs.Quotients.{div_mod, div_is}
use Rattle.algebra.proofs.Powers.{pow_diff}
use Rattle.integral.specs.Point.{behind_of, Mask}

-- p bits shifted right by s
shifted : (p s : ℕ) → s ≤ p → (2 ^ p - 1) / 2 ^ s ≡ 2 ^ (p - s) - 1
shifted p s l =
    let e = pow_diff {a = p} {b = s} l in
    let d = diff {a = 2 ^ (p - s)} {b = 1} (2 ^ s) (pow_pos (p - s)) in
    (div_is (2 ^ p - 1) (2 ^ s) (2 ^ (p - s) - 1) (2 ^ s - 1) (omega (arith, pow_pos s)) (omega (arith, pow_pos s))).0

shifted_out : (p s : ℕ) → p ≤ s → (2 ^ p - 1) / 2 ^ s ≡ 0
shifted_out p s l = (div_is (2 ^ p - 1) (2 ^ s) 0 (2 ^ p - 1) (omega (arith, pow_pos p, pow_mono {i = p} {j = s} l)) (omega arith)).0

-- where n of p bits stand before the point, p - n stand behind it
pub behind_part : (p n : ℕ) → p < 64 → n < p → suc (behind_of p n) ≡ 2 ^ (p - n)
behind_part p n w l =
    let e : n % 64 ≡ n = omega arith in
    ap (λ s. suc ((2 ^ p - 1) / 2 ^ s)) e ∙ omega (arith, shifted p n (omega arith), pow_pos (p - n))

-- for every n it is a mask
pub behind_mask : (p n : ℕ) → Mask (behind_of p n)
behind_mask p n =
    order (n % 64) p
    (λ h. (p - n % 64, omega (arith, shifted p (n % 64) h, pow_pos (p - n % 64))))
    (λ h. (0, omega (arith, shifted_out p (n % 64) (omega arith))))

-- the bits under a mask are a remainder
pub under_is : (v b : ℕ) → Mask b → bit_and v b ≡ v % suc b
under_is v b (k, e) =
    let d : b ≡ 2 ^ k - 1 = omega arith in
    ap (bit_and v) d ∙ and_mask v k ∙ ap (λ m. v % m) (sym e)

-- a word of ones without the bits under a mask
pub ones_without : (b : ℕ) → Mask b → (2 ^ 64 - 1) / suc b * suc b ≡ 2 ^ 64 - suc b
ones_without b (k, e) =
    order k 64
    (λ h.
    let d = diff {a = 2 ^ (64 - k)} {b = 1} (2 ^ k) (pow_pos (64 - k)) in
    ap (λ n. (2 ^ 64 - 1) / n * n) e
    ∙ times (2 ^ k) (shifted 64 k h)
    ∙ omega (arith, pow_diff {a = 64} {b = k} h))
    (λ h.
    ap (λ n. (2 ^ 64 - 1) / n * n) e
    ∙ times (2 ^ k) (shifted_out 64 k (omega arith))
    ∙ omega (arith, pow_mono {i = 65} {j = k} h))

-- under a word of ones all of v, under none nothing
pub under_ones : (v : ℕ) → v < 2 ^ 64 → bit_and v (2 ^ 64 - 1) ≡ v
under_ones v l = and_mask v 64 ∙ mod-eq_of_lt l

pub under_none : (v : ℕ) → bit_and v 0 ≡ 0
under_none v = and_mask v 0 ∙ omega arith

pub without_is : (v b r : ℕ) → r ≡ v % suc b → v - r ≡ v / suc b * suc b
without_is v b r e = omega (arith, div_mod v (suc b) (omega arith))
