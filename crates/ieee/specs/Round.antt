-- Rounding an exact value to a pattern, by the attributes of IEEE 754-2019, clause 4.3. Assumes nothing.
use Rattle.std.specs.Prelude.{ℕ, zero, suc, ◌+◌, ◌*◌, ◌%◌, ◌^◌, Bool, true, false, not, ◌&&◌, ◌||◌, cond, leb, eqb}
use Rattle.ieee.specs.Format.{Format, inf, units}
use Rattle.ieee.specs.Pattern.{signed}
use Rattle.ieee.specs.Exact.{Exact, Value, ratio, over, under, sign_of, absolute}

-- which way a magnitude goes: to the nearest, and of two equally near to the even or the greater; toward zero; away from zero
pub data Way : Type 0 where
  even away shorter longer : Way

-- twice the midpoint between a magnitude and the next
abbrev pub middle : Format → ℕ → ℕ
middle f j = units f j + units f (suc j)

-- x is at or past the point from which on the answer is at least suc j
unfoldable pub passes : Format → Way → Exact → ℕ → Bool
unfolding units
passes f even x j = over x (middle f j) && (not (under x (middle f j)) || eqb (suc j % 2) 0)
passes f away x j = over x (middle f j)
passes f shorter x j = over x (2 * units f (suc j)) && not (eqb (suc j) (inf f))
passes f longer x j = not (under x (2 * units f j))

abbrev pub past : Format → Way → Exact → ℕ → Bool
past f w x zero = true
past f w x (suc j) = leb (suc j) (inf f) && passes f w x j

-- the greatest k below a + 2 ^ n with p, found by halves, for a p that holds up to some k and no further
unfoldable pub greatest : (ℕ → Bool) → ℕ → ℕ → ℕ
greatest p zero a = a
greatest p (suc n) a = greatest p n (cond (p (a + 2 ^ n)) (a + 2 ^ n) a)

-- an exact magnitude, rounded once
unfoldable pub rounded : Format → Way → Exact → ℕ
unfolding greatest passes
rounded f w x = greatest (past f w x) (f.frac + f.expo) 0

-- the magnitude that stands for so many units, where there is one
abbrev pub exactly : Format → ℕ → ℕ
exactly f u = rounded f even (ratio u 1)

-- the five attributes, and the way that each sends a magnitude with a sign
pub data Attribute : Type 0 where
  ties_to_even ties_to_away toward_zero toward_positive toward_negative : Attribute

abbrev pub way_of : Attribute → Bool → Way
way_of ties_to_even s = even
way_of ties_to_away s = away
way_of toward_zero s = shorter
way_of toward_positive false = longer
way_of toward_positive true = shorter
way_of toward_negative false = shorter
way_of toward_negative true = longer

-- an exact value, rounded once; s is the sign of a zero
unfoldable pub answer : Format → Attribute → Bool → Value → ℕ
unfolding rounded
answer f a s v = signed f (sign_of s v) (rounded f (way_of a (sign_of s v)) (absolute v))
