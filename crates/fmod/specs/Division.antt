-- Where fmod divides, and what. Assumes nothing.
use Rattle.std.specs.Prelude.{ℕ, ◌-◌, ◌*◌, ◌%◌, ◌^◌, Bool, ◌||◌, ltb}
use Rattle.ieee.specs.Format.{Format}
use Rattle.ieee.specs.Pattern.{magnitude}
use Rattle.fmt_decode.specs.Rows.{no_remainder}
use Rattle.fmt_decode.specs.Significand.{significand, units_exp}

-- the answer is known without a division: there is no remainder, or x is below y
abbrev pub settled : Format → ℕ → ℕ → Bool
settled f x y = no_remainder f x y || ltb (magnitude f x) (magnitude f y)

-- the remainder of the significands, with that of x shifted to the exponent of y
abbrev pub left_of : Format → ℕ → ℕ → ℕ
left_of f x y = significand f x * 2 ^ (units_exp f x - units_exp f y) % significand f y
