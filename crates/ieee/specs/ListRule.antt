-- What the list call is held to: when it is refused, and by which number, and what the output holds after. Assumes nothing.
use Rattle.std.specs.Prelude.{ℕ, ◌≤◌, ◌<◌, ◌≡◌, ◌↔◌, ◌⊎◌, List, length, get_or}
use Rattle.ieee.specs.Format.{Format}
use Rattle.ieee.specs.Refusal.{number_of, value_of}
use Rattle.ieee.specs.Sqrt.{sqrt_of}
use Rattle.ieee.specs.Whole.{floor_of, trunc_of}
use Rattle.ieee.specs.Lists.{Listed}

-- ---- the operations
-- the call has this operation
abbrev pub Known : ℕ → Type 0
Known op = (op ≡ 1) ⊎ (op ≡ 2) ⊎ (op ≡ 3)

-- ---- the refusals
-- a list is too long
abbrev pub Long : ℕ → List ℕ → List ℕ → Type 0
Long n xs ys = (n < length xs) ⊎ (n < length ys)

-- neither is too long
abbrev pub Short : ℕ → List ℕ → List ℕ → Type 0
Short n xs ys = (length xs ≤ n) × (length ys ≤ n)

-- they have as many places
abbrev pub SameLength : List ℕ → List ℕ → Type 0
SameLength xs ys = length xs ≡ length ys

-- when each number k is given
pub record ListRefusals (n op : ℕ) (xs ys : List ℕ) (k : ℕ) : Type 0 where
  pub one : (k ≡ 1) ↔ (Known op → ⊥)
  pub two : (k ≡ 2) ↔ (Known op × Long n xs ys)
  pub three : (k ≡ 3) ↔ (Known op × (Short n xs ys × (SameLength xs ys → ⊥)))
  pub none : (k ≡ 0) ↔ (Known op × (Short n xs ys × SameLength xs ys))
  pub only : (k ≡ 0) ⊎ (k ≡ 1) ⊎ (k ≡ 2) ⊎ (k ≡ 3)

-- ---- the whole result: its number, the value 0, and the output, as it was where the call is refused, and else settled place by place
pub record ListedAs (f : Format) (n op : ℕ) (xs ys : List ℕ) (l : Listed) : Type 0 where
  pub refusals : ListRefusals n op xs ys (number_of l.answer)
  pub no_value : value_of l.answer ≡ 0
  pub untouched : (number_of l.answer ≡ 0 → ⊥) → l.output ≡ ys
  pub filled : number_of l.answer ≡ 0 → length l.output ≡ length xs
  -- operation 1 is sqrt, 2 floor, and 3 trunc
  pub roots : number_of l.answer ≡ 0 → op ≡ 1 → (i : ℕ) → i < length xs → get_or l.output i 0 ≡ sqrt_of f (get_or xs i 0)
  pub floors : number_of l.answer ≡ 0 → op ≡ 2 → (i : ℕ) → i < length xs → get_or l.output i 0 ≡ floor_of f (get_or xs i 0)
  pub truncs : number_of l.answer ≡ 0 → op ≡ 3 → (i : ℕ) → i < length xs → get_or l.output i 0 ≡ trunc_of f (get_or xs i 0)
