-- One answer and no other. Assumes nothing.
use Rattle.std.specs.Prelude.{ℕ, ◌≡◌}
use Rattle.ieee.specs.Flags.{Flags}

-- r meets a rule, and nothing else does
abbrev pub Only : (ℕ → Type 0) → ℕ → Type 0
Only P r = P r × ((q : ℕ) → P q → q ≡ r)

-- flags meet a rule, and no others do
abbrev pub OnlyFlags : (Flags → Type 0) → Flags → Type 0
OnlyFlags P F = P F × ((G : Flags) → P G → G ≡ F)
