-- The classes that contracts ask of an operand, by its magnitude. Assumes nothing.
use Rattle.std.specs.Prelude.{◌≡◌, ℕ, ◌<◌, ◌≤◌}
use Rattle.ieee.specs.Format.{Format, inf}
use Rattle.ieee.specs.Pattern.{magnitude}

abbrev pub Zero : Format → ℕ → Type 0
Zero f x = magnitude f x ≡ 0

abbrev pub Nonzero : Format → ℕ → Type 0
Nonzero f x = 0 < magnitude f x

abbrev pub Finite : Format → ℕ → Type 0
Finite f x = magnitude f x < inf f

abbrev pub Infinite : Format → ℕ → Type 0
Infinite f x = magnitude f x ≡ inf f

abbrev pub NotNan : Format → ℕ → Type 0
NotNan f x = magnitude f x ≤ inf f
