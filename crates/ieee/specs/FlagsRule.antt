-- The rule for the flags of an exact value rounded once, in the words of IEEE 754-2019, clauses 7.4 to 7.6. Assumes nothing.
use Rattle.std.specs.Prelude.{ℕ, ◌*◌, ◌^◌, ◌≤◌, ◌<◌, ◌≡◌, ◌↔◌, Bool, true, false, ℤ, pos, negsuc, ◌*ℤ◌}
use Rattle.ieee.specs.Format.{Format, inf, units}
use Rattle.ieee.specs.Pattern.{magnitude, signed, value}
use Rattle.ieee.specs.Exact.{Exact, Value, dyadic, surd, sign_of, absolute, Over, Under, magnified}
use Rattle.ieee.specs.Round.{Way, even, away, shorter, longer, Attribute, way_of, rounded}
use Rattle.ieee.specs.Rule.{halfway}
use Rattle.ieee.specs.Flags.{Flags, none, only_invalid, wider, finer, widely, largest, least_normal, overflows, tiny}

-- ---- inexact
-- an exact value is a whole number with a sign; a root by its square
abbrev pub Equals : Value → ℤ → Type 0
Equals (dyadic z k) u = z ≡ u *ℤ pos (2 ^ k)
Equals (surd n) (pos u) = n ≡ u * u
Equals (surd n) (negsuc u) = ⊥

-- the answer r is the exact value: it is finite, and stands for the same number
abbrev pub Exactly : Format → Value → ℕ → Type 0
Exactly f v r = (magnitude f r < inf f) × Equals v (value f r)

-- ---- overflow and tininess, in every wider exponent range
-- what x is rounded to there exceeds the largest finite number of f
abbrev pub Overflow : Format → Way → Exact → Type 0
Overflow f w x = (k : ℕ) → 1 ≤ k → units f (largest f) * 2 ^ finer f k < widely f k w x

-- x is not zero, and what it is rounded to there is below 2 ^ emin
abbrev pub Tiny : Format → Way → Exact → Type 0
Tiny f w x = (Under x 0 → ⊥) × ((k : ℕ) → 1 ≤ k → widely f k w x < units f (least_normal f) * 2 ^ finer f k)

-- clause 7.4: what an overflow gives
abbrev pub overflowed : Format → Way → ℕ
overflowed f even = inf f
overflowed f away = inf f
overflowed f shorter = largest f
overflowed f longer = inf f

-- ---- the flags F that go with the answer r to an exact value v under an attribute; s is the sign of a zero
pub record FlagsRule (f : Format) (a : Attribute) (s : Bool) (v : Value) (r : ℕ) (F : Flags) : Type 0 where
  -- these settle all five
  pub inexact_when : (F.inexact ≡ true) ↔ (Exactly f v r → ⊥)
  pub overflow_when : (F.overflow ≡ true) ↔ Overflow f (way_of a (sign_of s v)) (absolute v)
  pub underflow_when : (F.underflow ≡ true) ↔ (Tiny f (way_of a (sign_of s v)) (absolute v) × (Exactly f v r → ⊥))
  pub valid : F.invalid ≡ false
  pub no_division : F.division_by_zero ≡ false
  -- so an exact answer, subnormal or not, raises nothing
  pub exact_when : (F.inexact ≡ false) ↔ Exactly f v r
  pub exact_none : Exactly f v r → F ≡ none
  -- an overflow gives infinity, or the largest finite number where the way is toward zero; and an infinity is always an overflow
  pub overflow_gives : F.overflow ≡ true → r ≡ signed f (sign_of s v) (overflowed f (way_of a (sign_of s v)))
  pub infinity_overflow : magnitude f r ≡ inf f → F.overflow ≡ true

-- the flags of any operation, whatever its operands
pub record Clean (F : Flags) : Type 0 where
  -- invalid stands alone
  pub alone : F.invalid ≡ true → F ≡ only_invalid
  pub no_division : F.division_by_zero ≡ false
  -- an overflow, and an underflow, is inexact
  pub overflow_inexact : F.overflow ≡ true → F.inexact ≡ true
  pub underflow_inexact : F.underflow ≡ true → F.inexact ≡ true

-- ---- why one exponent bit more stands for an unbounded range
-- x lies between the least normal and the largest finite number of the format with k exponent bits more: no bound of the exponent touches it there
pub record Inside (f : Format) (k : ℕ) (x : Exact) : Type 0 where
  pub more : 1 ≤ k
  pub normal : Over (magnified x (2 ^ finer f k)) (2 * units (wider f k) (least_normal (wider f k)))
  pub finite : Under (magnified x (2 ^ finer f k)) (2 * units (wider f k) (largest (wider f k)))

-- overflow in f alone, by the way: at or past the halfway point; at or past what the next number would be; above the largest number
abbrev pub Beyond : Format → Way → Exact → Type 0
Beyond f even x = Over x (halfway f)
Beyond f away x = Over x (halfway f)
Beyond f shorter x = Over x (2 * units f (inf f))
Beyond f longer x = Under x (2 * units f (largest f)) → ⊥

-- tininess in f alone: twice x, rounded, is below twice the least normal number
abbrev pub Small : Format → Way → Exact → Type 0
Small f w x = (Under x 0 → ⊥) × (units f (rounded f w (magnified x 2)) < 2 * units f (least_normal f))

pub record Unbounded (f : Format) (w : Way) (x : Exact) : Type 0 where
  -- any number of additional exponent bits gives the verdict of one; for every value but zero some number is enough
  pub overflow_alike : (k : ℕ) → 1 ≤ k → overflows f k w x ≡ overflows f 1 w x
  pub tiny_alike : (k : ℕ) → 1 ≤ k → tiny f k w x ≡ tiny f 1 w x
  pub enough : (Under x 0 → ⊥) → (k : ℕ) × Inside f k x
  -- the same verdicts without a wider format
  pub overflow_is : (overflows f 1 w x ≡ true) ↔ Beyond f w x
  pub tiny_is : (tiny f 1 w x ≡ true) ↔ Small f w x
  -- where neither is judged, the answer is what every wider format gives
  pub in_range : overflows f 1 w x ≡ false → tiny f 1 w x ≡ false → (k : ℕ) → 1 ≤ k → widely f k w x ≡ units f (rounded f w x) * 2 ^ finer f k
