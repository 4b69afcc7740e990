-- The sticky mark: an even count of steps is exact; an odd one says only that the value lies between the two even counts beside it. Assumes nothing.
use Rattle.std.specs.Prelude.{ℕ, suc, ◌+◌, ◌-◌, ◌*◌, ◌%◌, ◌<◌, ◌≡◌}
use Rattle.ieee.specs.Exact.{Exact, Over, Under}

-- s counts v in steps of n
pub record Marks (v n s : ℕ) : Type 0 where
  pub exact : s % 2 ≡ 0 → v ≡ s * n
  pub more : s % 2 ≡ 1 → s * n < v + n
  pub less : s % 2 ≡ 1 → v < s * n + n

-- the same for an exact value
pub record Marked (x : Exact) (n s : ℕ) : Type 0 where
  pub exact : s % 2 ≡ 0 → Over x (2 * (s * n)) × Under x (2 * (s * n))
  pub more : s % 2 ≡ 1 → Under x (2 * ((s - 1) * n)) → ⊥
  pub less : s % 2 ≡ 1 → Over x (2 * (suc s * n)) → ⊥
