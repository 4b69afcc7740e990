-- Exactly when invalid is raised (IEEE 754-2019, clause 7.2): by trunc, floor and scalbn for a signalling NaN alone. Assumes nothing.
use Rattle.std.specs.Prelude.{ℕ, suc, ◌≡◌, ◌⊎◌, true}
use Rattle.ieee.specs.Format.{Format}
use Rattle.ieee.specs.Pattern.{minus, infinite, finite, kind}
use Rattle.ieee.specs.Flags.{signals}
use Rattle.ieee.specs.Fma.{InfiniteProduct, against}

-- -infinity, or a number below zero, which -0 is not
abbrev pub BelowZero : Format → ℕ → Type 0
BelowZero f x = (minus f x ≡ true) × ((kind f x ≡ infinite) ⊎ ((u : ℕ) × (kind f x ≡ finite (suc u))))

abbrev pub SqrtInvalid : Format → ℕ → Type 0
SqrtInvalid f x = (signals f x ≡ true) ⊎ BelowZero f x

-- zero times infinity, whatever is added
abbrev pub Clash : Format → ℕ → ℕ → Type 0
Clash f x y = ((kind f x ≡ finite 0) × (kind f y ≡ infinite)) ⊎ ((kind f x ≡ infinite) × (kind f y ≡ finite 0))

-- an infinite product and an infinity of the other sign
abbrev pub Opposed : Format → ℕ → ℕ → ℕ → Type 0
Opposed f x y z = InfiniteProduct f x y × (kind f z ≡ infinite) × (against f x y z ≡ true)

abbrev pub FmaInvalid : Format → ℕ → ℕ → ℕ → Type 0
FmaInvalid f x y z = (signals f x ≡ true) ⊎ (signals f y ≡ true) ⊎ (signals f z ≡ true) ⊎ Clash f x y ⊎ Opposed f x y z
