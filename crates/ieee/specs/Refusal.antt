-- Refusals by number, in order. Assumes nothing.
use Rattle.std.specs.Prelude.{ℕ, Bool, cond, List, [], ◌∷◌}

-- a number, and whether its reason holds
pub record Refusal : Type 0 where
  pub number : ℕ
  pub reason : Bool

-- the number of the first refusal whose reason holds, or 0 where none does
abbrev pub given : List Refusal → ℕ
given [] = 0
given (r ∷ rs) = cond r.reason r.number (given rs)

-- an answer is a value, or a refusal by its number
pub data Answer : Type 0 where
  done refused : ℕ → Answer

-- its two parts: the number, 0 where it is done, and the value, 0 where it is refused
abbrev pub parts_of : Answer → ℕ × ℕ
parts_of (done v) = (0, v)
parts_of (refused k) = (k, 0)

abbrev pub number_of : Answer → ℕ
number_of a = (parts_of a).0

abbrev pub value_of : Answer → ℕ
value_of a = (parts_of a).1
