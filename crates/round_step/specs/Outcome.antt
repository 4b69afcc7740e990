-- What rounding an exact value once gives: a pattern and flags. Assumes nothing.
use Rattle.std.specs.Prelude.{ℕ, Bool}
use Rattle.ieee.specs.Format.{Format}
use Rattle.ieee.specs.Pattern.{signed}
use Rattle.ieee.specs.Exact.{Value}
use Rattle.ieee.specs.Round.{Attribute, way_of, answer}
use Rattle.ieee.specs.Flags.{Flags, raised}
use Rattle.round_laws.specs.Location.{chosen}
use Rattle.round_laws.specs.Flags.{flags_by}
use Rattle.round_locate.specs.declared.locate.Located.{Located}
use Rattle.fmt_fields.specs.Raised.{flags_of}
use Rattle.fmt_fields.specs.declared.env.Flagged.{Flagged}
use Rattle.fmt_fields.specs.declared.env.Raised.{Raised}

abbrev pub outcome : Format → Attribute → Bool → Value → ℕ × Flags
outcome f a s v = (answer f a s v, raised f a s v)

-- and the same as the code has it
abbrev pub told : Flagged ℕ Raised → ℕ × Flags
told r = (r.value, flags_of r.flags)

-- what the location of a value with the sign s gives
abbrev pub chosen_with : Format → Attribute → Bool → Located → ℕ × Flags
chosen_with f a s c =
    (signed f s (chosen (way_of a s) c.below c.location), flags_by f (way_of a s) c.below c.location c.high c.beyond)
