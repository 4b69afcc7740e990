-- What the number of a refusal is held to: the first whose reason holds. Assumes nothing.
use Rattle.std.specs.Prelude.{ℕ, ◌≡◌, true, false, List, [], ◌∷◌}
use Rattle.ieee.specs.Refusal.{Refusal}

-- a refusal of the list has this number, its reason holds, and no reason before it does
pub data First : List Refusal → ℕ → Type 0 where
  here : {r : Refusal} {rs : List Refusal} {k : ℕ} → r.reason ≡ true → r.number ≡ k → First (r ∷ rs) k
  later : {r : Refusal} {rs : List Refusal} {k : ℕ} → r.reason ≡ false → First rs k → First (r ∷ rs) k

-- no reason holds
pub data None : List Refusal → Type 0 where
  end : None []
  and_none : {r : Refusal} {rs : List Refusal} → r.reason ≡ false → None rs → None (r ∷ rs)

-- no refusal of the list has this number
abbrev pub Absent : ℕ → List Refusal → Type 0
Absent k [] = Unit {0}
Absent k (r ∷ rs) = (r.number ≡ k → ⊥) × Absent k rs
