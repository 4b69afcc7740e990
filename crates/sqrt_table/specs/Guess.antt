-- A guess at 1 / √m: the table's, and what a round on half words accepts. Assumes nothing.
use Rattle.std.specs.Prelude.{◌≡◌, ℕ, ◌*◌, ◌^◌, ◌<◌, ◌≤◌}
use Rattle.sqrt_laws.specs.Near.{Near}
use Rattle.sqrt_table.specs.Table.{entry_of, Serves}

-- r is the entry that serves m, with 32 fraction bits
pub record Starts (m r : ℕ) : Type 0 where
  pub step : ℕ
  pub serves : Serves step m
  pub is : r ≡ entry_of step * 2 ^ 16

-- r is as near to 1 / √m as each entry is
pub record Begins (m r : ℕ) : Type 0 where
  pub near : Near (2 ^ 30) m r 8404992
  pub small : r < 2 ^ 32

-- both are half words, and the guess is small enough that no factor is negative
pub record Takes (m r : ℕ) : Type 0 where
  pub number : m < 2 ^ 32
  pub guess : r < 2 ^ 32
  pub low : m * (r * r) ≤ 2 ^ 95
