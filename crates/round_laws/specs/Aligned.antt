-- A normalised value aligned to the format, by three numbers. Assumes nothing.
use Rattle.std.specs.Prelude.{ℕ, ◌+◌, ◌-◌, ◌*◌, ◌/◌, ◌%◌, ◌^◌, ◌≤◌, ◌<◌, ◌≡◌, false}
use Rattle.ieee.specs.Exact.{Exact, ratio}
use Rattle.round_laws.specs.Location.{below, location, high, beyond, part, high_part}
use Rattle.fmt_fields.specs.Width.{format}

-- s times 2 ^ (at - 2 ^ 21), where one of the two powers is 1
abbrev pub filled_at : ℕ → ℕ → Exact
filled_at s at = ratio (s * 2 ^ (at - 2 ^ 21)) (2 ^ (2 ^ 21 - at))

-- its lower neighbour and location are those of t without its last k bits, with up added to the exponent field
pub record Stands (p e s at t up k : ℕ) : Type 0 where
  pub lower : up * 2 ^ p + t / 2 ^ k ≡ below (format p e) (filled_at s at)
  pub part_is : part (t % 2 ^ k) (2 ^ k) ≡ location (format p e) (filled_at s at)
  pub high_is : high_part (t % 2 ^ k) (2 ^ k) ≡ high (format p e) (filled_at s at)
  pub beyond_is : false ≡ beyond (format p e) (filled_at s at)
  pub fields : up + 3 ≤ 2 ^ e
  pub least : 1 ≤ k
  pub most : k ≤ 64
  pub kept : t / 2 ^ k < 2 * 2 ^ p
