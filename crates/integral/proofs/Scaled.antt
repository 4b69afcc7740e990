-- Quotients of scaled numbers, and what a cut leaves unchanged: lemmas on plain numbers. Assumes nothing.
use Rattle.std.proofs.Common.{◌≡◌, ℕ, suc, ◌+◌, ◌-◌, ◌*◌, ◌/◌, ◌%◌, ◌<◌, ◌≤◌, sym, ap, ◌∙◌, arith}
use Rattle.algebra.proofs.Products.{times, times_le, cross, mul_le_cancel, mul_lt_cancel}
use Rattle.algebra.proofs.Quotients.{div_mod, div_is}
use Rattle.ieee.specs.Round.{shorter, longer}
use Rattle.ieee.specs.Whole.{whole}
use Rattle.ieee.proofs.Wholes.{longer_sides}

-- a multiple of the divisor in front is unchanged
pub cut_after : (z n d : ℕ) → 0 < d → (z * d + n) / d * d ≡ z * d + n / d * d
cut_after z n d p = let (e, l) = div_mod n d p in times d (div_is (z * d + n) d (z + n / d) (n % d) l (omega arith)).0 ∙ omega arith

-- a common factor cancels: toward zero nothing is added before the division, away from zero the divisor less one
pub shorter_scaled : (n d t : ℕ) → 0 < d → 0 < t → whole shorter (n * t) (d * t) ≡ (n + 0) / d
shorter_scaled n d t p q =
    let (e, l) = div_mod n d p in
    (div_is (n * t) (d * t) (n / d) (n % d * t) (omega (arith, cross l q)) (omega (arith, times t e))).0 ∙ ap (λ m. m / d) (omega arith)

pub longer_scaled : (n d t : ℕ) → 0 < d → 0 < t → whole longer (n * t) (d * t) ≡ (n + (d - 1)) / d
longer_scaled n d t p q =
    let k = whole longer (n * t) (d * t) in
    let (a, b) = longer_sides (n * t) (d * t) (omega (arith, cross p q)) in
    let l : n ≤ k * d = mul_le_cancel n (k * d) t q (omega arith) in
    let h : k * d < n + d = mul_lt_cancel (k * d) (n + d) t (omega arith) in
    sym (div_is (n + (d - 1)) d k (n + (d - 1) - k * d) (omega arith) (omega arith)).0

-- a number between h and 2 * h, with less than the divisor added and cut, stays between them, where the divisor divides h
pub cut_between : (h c d n a : ℕ) → c * d ≡ h → h ≤ n → n < 2 * h → a < d → (h ≤ (n + a) / d * d) × ((n + a) / d * d ≤ 2 * h)
cut_between h c d n a e l u b =
    let (i, j) = div_mod (n + a) d (omega arith) in
    let p = mul_lt_cancel c (suc ((n + a) / d)) d (omega arith) in
    let q = mul_lt_cancel ((n + a) / d) (suc (2 * c)) d (omega arith) in
    (omega (arith, times_le d p), omega (arith, times_le d q))
