-- What a pattern stands for: a sign, and a NaN, an infinity or a whole number of smallest units. Assumes nothing.
use Rattle.std.specs.Prelude.{ℕ, ◌+◌, ◌*◌, ◌/◌, ◌%◌, ◌^◌, ◌<◌, Bool, not, cond, leb, ltb, eqb, ℤ, pos, neg_ℤ}
use Rattle.std.specs.Bool.{beq}
use Rattle.ieee.specs.Format.{Format, top, inf, units}

abbrev pub Pattern : Format → ℕ → Type 0
Pattern f x = x < 2 * top f

-- the sign bit is set
abbrev pub minus : Format → ℕ → Bool
minus f x = leb (top f) x

abbrev pub magnitude : Format → ℕ → ℕ
magnitude f x = x % top f

-- the exponent field, and the fraction
abbrev pub field : Format → ℕ → ℕ
field f x = x / 2 ^ f.frac % 2 ^ f.expo

abbrev pub fraction : Format → ℕ → ℕ
fraction f x = x % 2 ^ f.frac

-- a sign and a magnitude, as a pattern
abbrev pub signed : Format → Bool → ℕ → ℕ
signed f s m = cond s (top f) 0 + m

-- the signs differ
abbrev pub unlike : Bool → Bool → Bool
unlike s t = not (beq s t)

-- the classes (IEEE 754-2019, clause 5.7.2) that operations tell apart: a NaN, an infinity, or a number, by its smallest units, zero among them
pub data Kind : Type 0 where
  nan infinite : Kind
  finite : ℕ → Kind

unfoldable pub kind : Format → ℕ → Kind
unfolding units
kind f x = cond (ltb (inf f) (magnitude f x)) nan (cond (eqb (magnitude f x) (inf f)) infinite (finite (units f (magnitude f x))))

-- a whole number with a sign
abbrev pub with_sign : Bool → ℕ → ℤ
with_sign s n = cond s (neg_ℤ (pos n)) (pos n)

-- the value of a finite pattern, in smallest units
unfoldable pub value : Format → ℕ → ℤ
unfolding units
value f x = with_sign (minus f x) (units f (magnitude f x))
