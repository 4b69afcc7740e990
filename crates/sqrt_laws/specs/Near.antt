-- How near a guess is. For r exactly 1 / √m, m r² is 16 Q³. Assumes nothing.
use Rattle.std.specs.Prelude.{ℕ, ◌+◌, ◌*◌, ◌≤◌, ◌<◌}

-- m r² is 1 within k units
pub record Near (Q m r k : ℕ) : Type 0 where
  pub lo : 16 * (Q * (Q * Q)) ≤ m * (r * r) + k * (16 * (Q * Q))
  pub hi : m * (r * r) ≤ 16 * (Q * (Q * Q)) + k * (16 * (Q * Q))
  pub small : k ≤ Q

-- and not above 1
pub record NearBelow (Q m r k : ℕ) : Type 0 where
  pub near : Near Q m r k
  pub below : m * (r * r) < 16 * (Q * (Q * Q))

-- q is the whole root of n, or one less
pub record Almost (n q : ℕ) : Type 0 where
  pub lo : q * q ≤ n
  pub hi : n < (q + 2) * (q + 2)

-- q is not above √n, and √n is less than 3/2 above q: q or the next is the whole number nearest to √n
pub record Within (n q : ℕ) : Type 0 where
  pub lo : q * q ≤ n
  pub hi : 4 * n < (2 * q + 3) * (2 * q + 3)
