-- The contracts of division leave one answer each: two answers that meet one are equal. Assumes nothing.
use Rattle.std.proofs.Common.{◌≡◌, ℕ, suc, ◌+◌, ◌*◌, ◌/◌, ◌^◌, ◌<◌, ◌≤◌, sym, ◌∙◌, pow-suc, arith, pow_mono}
use native.Mathlib.Omega.{by_contra}
use Rattle.algebra.proofs.Products.{times, times_le}
use Rattle.algebra.proofs.Quotients.{quot_unique}
use Rattle.word_division.specs.Estimates.{divided}
use Rattle.word_division.specs.declared.digit.Estimate.{Estimate}

-- `quotient_digit` and `div`: the quotient of n by d, and what it leaves
pub division_unique : {n : ℕ} (d q r q' r' : ℕ) → (q * d + r ≡ n) × (r < d) → (q' * d + r' ≡ n) × (r' < d) → (q ≡ q') × (r ≡ r')
division_unique d q r q' r' (e, l) (e', l') = quot_unique d q r q' r' l l' (e ∙ sym e')

-- d fills the word when it is moved up by r, so that no further move has room
fills_at_most : (d r s : ℕ) → 2 ^ 63 ≤ d * 2 ^ r → d * 2 ^ s < 2 ^ 64 → s ≤ r
fills_at_most d r s h l =
    by_contra s r
    (λ g. let more : 2 ^ suc r ≤ 2 ^ s = pow_mono (omega arith) in omega (arith, times_le d more, times d (pow-suc 2 r)))

-- `normal_shift`: how far d goes
pub shift_unique : (d r s : ℕ) → (r < 64) × (2 ^ 63 ≤ d * 2 ^ r) × (d * 2 ^ r < 2 ^ 64) → (s < 64) × (2 ^ 63 ≤ d * 2 ^ s) × (d * 2 ^ s < 2 ^ 64) → r ≡ s
shift_unique d r s (_, h, l) (_, h', l') =
    let a = fills_at_most d r s h l' in
    let b = fills_at_most d s r h' l in
    omega arith

-- `adjust_estimate`: the digit q, and what it leaves of n
pub estimate_unique : {q n : ℕ} (d : ℕ) (e f : Estimate) → (e.digit ≡ q) × (divided e d ≡ n) → (f.digit ≡ q) × (divided f d ≡ n) → (e.digit ≡ f.digit) × (e.rest ≡ f.rest)
estimate_unique d e f (i, j) (i', j') =
    let same = i ∙ sym i' in
    (same, omega (arith, times (d / 2 ^ 32) same))
