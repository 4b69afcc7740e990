-- The whole root of a number, and the number that a word and a count of pairs of bits stand for. Assumes nothing.
use Rattle.std.specs.Prelude.{ℕ, ◌+◌, ◌*◌, ◌/◌, ◌^◌, ◌≤◌, ◌<◌}

-- r is the root of n, rounded down: it is unique
pub record FloorRoot (n r : ℕ) : Type 0 where
  pub low : r * r ≤ n
  pub high : n < (r + 1) * (r + 1)

-- the first d pairs of bits of the word m, as a number; zeros follow its last bit
abbrev pub pairs : ℕ → ℕ → ℕ
pairs m d = m * 2 ^ (2 * d) / 2 ^ 64
