-- Powers of two for `omega`: `simp pow_out` expands each power of a sum, and a power of a variable is then an unknown. Assumes nothing.
use mathlib.Core.Path.{◌≡◌, sym, ap, ◌∙◌}
use Prim.Native.Nat.{ℕ, suc, ◌+◌, ◌*◌, ◌-◌, ◌^◌, ◌≤◌, ◌<◌}
use native.Mathlib.Nat.{pow-suc}
use native.Mathlib.Omega.{arith, by_contra}
use lib.Pow.{pow-add, pow_mono}

pub ruleset pow_out = (pow-add, pow-suc)

-- a difference in an exponent, as a product
pub pow_diff : {a b : ℕ} → b ≤ a → 2 ^ (a - b) * 2 ^ b ≡ 2 ^ a
pow_diff {a} {b} h = sym (pow-add 2 (a - b) b) ∙ ap (λ x. 2 ^ x) (omega arith)

pub pow_inj_lt : (i j : ℕ) → 2 ^ i < 2 ^ j → i < j
pow_inj_lt i j h = by_contra (suc i) j (λ l. omega (arith, pow_mono {i = j} {j = i} (omega arith)))

-- the position of the top bit is unique
pub top_unique : (n i j : ℕ) → 2 ^ i ≤ n → n < 2 ^ (i + 1) → 2 ^ j ≤ n → n < 2 ^ (j + 1) → i ≡ j
top_unique n i j a b c d =
    let p = pow_inj_lt i (j + 1) (omega arith) in
    let q = pow_inj_lt j (i + 1) (omega arith) in
    omega arith
