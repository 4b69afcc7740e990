-- The flags and the attributes of the code, as those of the definitions. Assumes nothing.
use Rattle.std.specs.Prelude.{ℕ, ◌/◌, ◌%◌, Bool, ◌==◌}
use Rattle.ieee.specs.Flags as ieee
use Rattle.ieee.specs.Round as ieee-round
use Rattle.ieee.specs.Round.{ties_to_even, ties_to_away, toward_zero, toward_positive, toward_negative}
use Rattle.fmt_fields.specs.declared.env.Raised.{Raised}
use Rattle.fmt_fields.specs.declared.attribute.Attribute.{Attribute}
use Rattle.fmt_fields.specs.declared.attribute.Attribute.TheVariants.{Even, Zero, Down, Up, Away}

-- whether the bit of a weight is set
abbrev pub bit_at : ℕ → ℕ → Bool
bit_at w k = w / k % 2 == 1

abbrev pub flags_of : Raised → ieee.Flags
flags_of r = record { invalid = bit_at r.bits 1; division_by_zero = bit_at r.bits 4; overflow = bit_at r.bits 8; underflow = bit_at r.bits 16; inexact = bit_at r.bits 32 }

abbrev pub attribute_of : Attribute → ieee-round.Attribute
attribute_of Even = ties_to_even
attribute_of Zero = toward_zero
attribute_of Down = toward_negative
attribute_of Up = toward_positive
attribute_of Away = ties_to_away
