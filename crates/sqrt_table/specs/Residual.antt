-- A whole number next to a root, and what its residual tells. Assumes nothing.
use Rattle.std.specs.Prelude.{◌≡◌, ℕ, ◌+◌, ◌*◌, ◌<◌, Bool, cond, ◌||◌, ◌==◌, nat_lt}

-- rem is n less the square of q, and √n is less than 3/2 above q
pub record Residual (n q rem : ℕ) : Type 0 where
  pub sum : q * q + rem ≡ n
  pub near : 4 * n < (2 * q + 3) * (2 * q + 3)

-- the root rounded down, whether it is exact, and the whole number nearest to it; there is no tie, since n is whole
abbrev pub floor_by : ℕ → ℕ → ℕ
floor_by q rem = q + cond (nat_lt (2 * q) rem) 1 0

abbrev pub exact_by : ℕ → ℕ → Bool
exact_by q rem = rem == 0 || rem == 2 * q + 1

abbrev pub nearest_by : ℕ → ℕ → ℕ
nearest_by q rem = q + cond (nat_lt q rem) 1 0
