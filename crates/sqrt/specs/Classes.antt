-- The classes of patterns that sqrt sets aside, one by one; all others are normal positive numbers. Assumes nothing.
use Rattle.std.specs.Prelude.{◌≡◌, ℕ, Bool, ◌&&◌, ◌||◌, ◌==◌, nat_lt}
use Rattle.ieee.specs.Format.{Format, inf}
use Rattle.ieee.specs.Pattern.{magnitude, field, fraction, minus}
use Rattle.ieee.specs.Round.{Attribute}
use Rattle.ieee.specs.Flags.{Flags}
use Rattle.ieee.specs.Sqrt.{sqrt_in, sqrt_flags_in}

abbrev pub is_zero : Format → ℕ → Bool
is_zero f x = magnitude f x == 0

abbrev pub is_subnormal : Format → ℕ → Bool
is_subnormal f x = field f x == 0 && nat_lt 0 (fraction f x)

abbrev pub is_infinite : Format → ℕ → Bool
is_infinite f x = magnitude f x == inf f

abbrev pub is_nan : Format → ℕ → Bool
is_nan f x = nat_lt (inf f) (magnitude f x)

abbrev pub is_negative : Format → ℕ → Bool
is_negative f x = minus f x

-- the classes of which no root is computed
unfoldable pub rootless : Format → ℕ → Bool
rootless f x = is_zero f x || is_infinite f x || is_nan f x || is_negative f x

unfoldable pub set_aside : Format → ℕ → Bool
unfolding rootless
set_aside f x = rootless f x || is_subnormal f x

-- an answer under every attribute
abbrev pub AlwaysRoot : Format → ℕ → ℕ → Type 0
AlwaysRoot f x r = (a : Attribute) → r ≡ sqrt_in f a x

abbrev pub AlwaysFlags : Format → ℕ → Flags → Type 0
AlwaysFlags f x F = (a : Attribute) → F ≡ sqrt_flags_in f a x
