-- The exceptions of IEEE 754-2019, clause 7, as five flags, and those that rounding an exact value once raises; tininess is judged after rounding. Assumes nothing.
use Rattle.std.specs.Prelude.{ℕ, ◌+◌, ◌-◌, ◌*◌, ◌^◌, Bool, true, false, not, ◌&&◌, cond, ltb}
use Rattle.ieee.specs.Format.{Format, low, inf, units}
use Rattle.ieee.specs.Pattern.{magnitude, fraction}
use Rattle.ieee.specs.Exact.{Exact, Value, sign_of, absolute, over, under, magnified}
use Rattle.ieee.specs.Round.{Way, Attribute, way_of, rounded}

pub record Flags : Type 0 where
  pub invalid : Bool
  pub division_by_zero : Bool
  pub overflow : Bool
  pub underflow : Bool
  pub inexact : Bool

abbrev pub none : Flags
none = record { invalid = false; division_by_zero = false; overflow = false; underflow = false; inexact = false }

abbrev pub only_invalid : Flags
only_invalid = record { invalid = true; division_by_zero = false; overflow = false; underflow = false; inexact = false }

abbrev pub only_inexact : Bool → Flags
only_inexact b = record { invalid = false; division_by_zero = false; overflow = false; underflow = false; inexact = b }

-- the flags as one number: 1, 4, 8, 16 and 32
abbrev pub flag_word : Flags → ℕ
flag_word r = cond r.invalid 1 0 + cond r.division_by_zero 4 0 + cond r.overflow 8 0 + cond r.underflow 16 0 + cond r.inexact 32 0

-- a signalling NaN (clause 6.2.1): a NaN whose fraction begins with 0
abbrev pub signals : Format → ℕ → Bool
signals f x = ltb (inf f) (magnitude f x) && ltb (fraction f x) (2 ^ (f.frac - 1))

-- the flags of an operation that takes a NaN and gives one (clause 6.2)
abbrev pub nan_flags : Bool → Flags
nan_flags b = cond b only_invalid none

-- ---- as though the exponent range were unbounded
-- k exponent bits more: one smallest unit of f is 2 ^ finer f k smallest units there
abbrev pub wider : Format → ℕ → Format
wider f k = record { frac = f.frac; expo = f.expo + k }

abbrev pub finer : Format → ℕ → ℕ
finer f k = low (wider f k) - low f

-- x rounded with k exponent bits more, in the units there
unfoldable pub widely : Format → ℕ → Way → Exact → ℕ
unfolding rounded units
widely f k w x = units (wider f k) (rounded (wider f k) w (magnified x (2 ^ finer f k)))

-- the largest finite number of f, and its least normal number, 2 ^ emin, as magnitudes
abbrev pub largest : Format → ℕ
largest f = inf f - 1

abbrev pub least_normal : Format → ℕ
least_normal f = 2 ^ f.frac

-- clause 7.4: the largest finite number is exceeded by what the rounded result would be; one more exponent bit suffices to tell
unfoldable pub overflows : Format → ℕ → Way → Exact → Bool
unfolding widely
overflows f k w x = ltb (units f (largest f) * 2 ^ finer f k) (widely f k w x)

-- clause 7.5, a: a result that is not zero, and would lie below 2 ^ emin
unfoldable pub tiny : Format → ℕ → Way → Exact → Bool
unfolding widely
tiny f k w x = not (under x 0) && ltb (widely f k w x) (units f (least_normal f) * 2 ^ finer f k)

-- ---- an exact magnitude, rounded once
-- m is finite, and is x
abbrev pub same : Format → Exact → ℕ → Bool
same f x m = ltb m (inf f) && over x (2 * units f m) && under x (2 * units f m)

-- clause 7.6: the rounded result differs from x
unfoldable pub differs : Format → Way → Exact → Bool
unfolding rounded units
differs f w x = not (same f x (rounded f w x))

-- underflow is raised where a tiny result is also inexact
abbrev pub judged : Bool → Bool → Bool → Flags
judged o t i = record { invalid = false; division_by_zero = false; overflow = o; underflow = t && i; inexact = i }

unfoldable pub raised_by : Format → Way → Exact → Flags
unfolding overflows tiny differs
raised_by f w x = judged (overflows f 1 w x) (tiny f 1 w x) (differs f w x)

-- the flags of an exact value rounded once under an attribute; s is the sign of a zero
unfoldable pub raised : Format → Attribute → Bool → Value → Flags
unfolding raised_by
raised f a s v = raised_by f (way_of a (sign_of s v)) (absolute v)
