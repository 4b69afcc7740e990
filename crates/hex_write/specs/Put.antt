-- The effect of putting bytes into a room that holds them. Assumes nothing.
use Rattle.std.specs.Prelude.{◌≡◌, List, ◌++◌, ℕ, ◌+◌, length, take, drop}

-- the room with p from the offset at on, and the offset after it
pub record Put (xs : List ℕ) (at : ℕ) (p : List ℕ) (xs' : List ℕ) (at' : ℕ) : Type 0 where
  pub bytes : xs' ≡ take at xs ++ (p ++ drop (at + length p) xs)
  pub offset : at' ≡ at + length p
