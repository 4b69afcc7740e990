-- What the reduction is held to: when it is refused, and by which number, and what its value is. Assumes nothing.
use Rattle.std.specs.Prelude.{ℕ, ◌+◌, ◌*◌, ◌^◌, ◌≤◌, ◌<◌, ◌≡◌, ◌↔◌, ◌⊎◌}
use Rattle.ieee.specs.Refusal.{Answer, number_of, value_of}
use Rattle.ieee.specs.Reduction.{shift_limit, divisor_limit}

-- ---- the refusals
-- the divisor is too large, or x is not below twice the divisor
abbrev pub Unfit : ℕ → ℕ → ℕ → Type 0
Unfit w x y = (divisor_limit w < y) ⊎ (2 * y ≤ x)

-- neither is so
abbrev pub Fit : ℕ → ℕ → ℕ → Type 0
Fit w x y = (y ≤ divisor_limit w) × (x < 2 * y)

-- when each number k is given
pub record ReduceRefusals (w x e y k : ℕ) : Type 0 where
  pub four : (k ≡ 4) ↔ Unfit w x y
  pub five : (k ≡ 5) ↔ (Fit w x y × (shift_limit < e))
  pub none : (k ≡ 0) ↔ (Fit w x y × (e ≤ shift_limit))
  pub only : (k ≡ 0) ⊎ (k ≡ 4) ⊎ (k ≡ 5)

-- ---- the value: what is left of x * 2 ^ e when y is taken away as often as it goes
pub record Reduced (x e y r : ℕ) : Type 0 where
  pub quotient : ℕ
  pub parts : x * 2 ^ e ≡ quotient * y + r
  pub below : r < y

-- ---- the whole answer: its number, and its value, 0 where it is refused
pub record ReducedAs (w x e y : ℕ) (a : Answer) : Type 0 where
  pub refusals : ReduceRefusals w x e y (number_of a)
  pub no_value : (number_of a ≡ 0 → ⊥) → value_of a ≡ 0
  pub value : number_of a ≡ 0 → Reduced x e y (value_of a)
