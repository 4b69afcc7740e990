-- The rule that rounding meets, as the standard says it (IEEE 754-2019, clauses 4.3 and 7.4), over whole numbers. Assumes nothing.
use Rattle.std.specs.Prelude.{ℕ, suc, ◌+◌, ◌-◌, ◌*◌, ◌%◌, ◌^◌, ◌≤◌, ◌<◌, ◌≡◌, ◌↔◌, Bool, true, false, ℤ, pos, negsuc, nat_abs, ◌-ℤ◌, ◌*ℤ◌, ◌≤ℤ◌}
use Rattle.ieee.specs.Format.{Format, inf, units}
use Rattle.ieee.specs.Pattern.{Pattern, minus, magnitude, value}
use Rattle.ieee.specs.Exact.{Value, dyadic, surd, sign_of, absolute, Exact, ratio, root, Over, Under}
use Rattle.ieee.specs.Round.{Way, even, away, shorter, longer, Attribute, ties_to_even, ties_to_away, toward_zero, toward_positive, toward_negative}

-- ---- distances
abbrev pub distance : ℕ → ℕ → ℕ
distance a b = (a - b) + (b - a)

-- the root of n and the whole number v differ by at most a / b: v b - a ≤ √n b ≤ v b + a, by squares; `-` of whole numbers is 0 where it would be less
abbrev pub Within : ℕ → ℤ → ℕ → ℕ → Type 0
Within n (pos v) a b = ((v * b - a) * (v * b - a) ≤ n * (b * b)) × (n * (b * b) ≤ (v * b + a) * (v * b + a))
Within n (negsuc v) a b = (suc v * b ≤ a) × (n * (b * b) ≤ (a - suc v * b) * (a - suc v * b))

-- u is at least as near to x as v: a ratio has distances, over d; the root has bounds on them, and each that holds of v holds of u
abbrev pub AsNear : Exact → ℕ → ℕ → Type 0
AsNear (ratio n d) u v = distance n (u * d) ≤ distance n (v * d)
AsNear (root n) u v = (a b : ℕ) → 0 < b → Within n (pos v) a b → Within n (pos u) a b

-- the same of whole numbers with a sign
abbrev pub AsNearℤ : Value → ℤ → ℤ → Type 0
AsNearℤ (dyadic z k) u v = nat_abs (z -ℤ u *ℤ pos (2 ^ k)) ≤ nat_abs (z -ℤ v *ℤ pos (2 ^ k))
AsNearℤ (surd n) u v = (a b : ℕ) → 0 < b → Within n v a b → Within n u a b

-- ---- to the nearest
-- twice the halfway point above the largest finite number
abbrev pub halfway : Format → ℕ
halfway f = units f (inf f - 1) + units f (inf f)

-- of two that are equally near: the one whose last bit is 0, or the greater
pub data Ties : Type 0 where
  to_even to_away : Ties

abbrev pub ties_way : Ties → Way
ties_way to_even = even
ties_way to_away = away

abbrev pub ties_attribute : Ties → Attribute
ties_attribute to_even = ties_to_even
ties_attribute to_away = ties_to_away

abbrev pub Preferred : Ties → ℕ → ℕ → Type 0
Preferred to_even m k = m % 2 ≡ 0
Preferred to_away m k = k < m

-- for magnitudes: no finite magnitude is nearer, of two equally near it is the preferred one, and it is infinity exactly from the halfway point on
pub record Nearest (f : Format) (t : Ties) (x : Exact) (m : ℕ) : Type 0 where
  pub within : m ≤ inf f
  pub near : m < inf f → (k : ℕ) → k < inf f → AsNear x (units f m) (units f k)
  pub tie : m < inf f → (k : ℕ) → k < inf f → (k ≡ m → ⊥) → AsNear x (units f k) (units f m) → Preferred t m k
  pub overflow : (m ≡ inf f) ↔ Over x (halfway f)

-- for answers: the value's sign, s being the sign of a zero; no finite number of either sign is nearer; a tie is the preferred one; and it is infinity, with that sign, exactly from the halfway point on
pub record Once (f : Format) (t : Ties) (s : Bool) (v : Value) (r : ℕ) : Type 0 where
  pub pattern : Pattern f r
  pub within : magnitude f r ≤ inf f
  pub sign : minus f r ≡ sign_of s v
  pub near : magnitude f r < inf f → (q : ℕ) → Pattern f q → magnitude f q < inf f → AsNearℤ v (value f r) (value f q)
  pub tie : magnitude f r < inf f → (q : ℕ) → Pattern f q → magnitude f q < inf f → (value f q ≡ value f r → ⊥) → AsNearℤ v (value f q) (value f r) → Preferred t (magnitude f r) (magnitude f q)
  pub overflow : (magnitude f r ≡ inf f) ↔ Over (absolute v) (halfway f)

-- ---- the directed ways
-- toward zero: the greatest finite magnitude that is at most x
pub record Toward (f : Format) (x : Exact) (m : ℕ) : Type 0 where
  pub finite : m < inf f
  pub low : Over x (2 * units f m)
  pub most : (k : ℕ) → k < inf f → Over x (2 * units f k) → k ≤ m

-- away from zero: the least magnitude that is at least x, or infinity where no finite one is
pub record Outward (f : Format) (x : Exact) (m : ℕ) : Type 0 where
  pub within : m ≤ inf f
  pub high : m < inf f → Under x (2 * units f m)
  pub least : (k : ℕ) → k < inf f → Under x (2 * units f k) → m ≤ k

-- the rule for magnitudes, by the way
abbrev pub Rule : Format → Way → Exact → ℕ → Type 0
Rule f even x m = Nearest f to_even x m
Rule f away x m = Nearest f to_away x m
Rule f shorter x m = Toward f x m
Rule f longer x m = Outward f x m

-- ---- answers under every attribute
-- an exact value is not above a whole number with a sign, and not below it; the root by squares
abbrev pub NotAbove : Value → ℤ → Type 0
NotAbove (dyadic z k) u = z ≤ℤ (u *ℤ pos (2 ^ k))
NotAbove (surd n) (pos u) = n ≤ u * u
NotAbove (surd n) (negsuc u) = ⊥

abbrev pub NotBelow : Value → ℤ → Type 0
NotBelow (dyadic z k) u = (u *ℤ pos (2 ^ k)) ≤ℤ z
NotBelow (surd n) (pos u) = u * u ≤ n
NotBelow (surd n) (negsuc u) = Unit {0}

-- toward zero: the value's sign, and of the finite magnitudes that are at most the value's the greatest
pub record TowardZero (f : Format) (s : Bool) (v : Value) (r : ℕ) : Type 0 where
  pub pattern : Pattern f r
  pub sign : minus f r ≡ sign_of s v
  pub toward : Toward f (absolute v) (magnitude f r)

-- the two directions: d is false for up and true for down
abbrev pub Before : Bool → ℤ → ℤ → Type 0
Before false a b = a ≤ℤ b
Before true a b = b ≤ℤ a

-- going that way, the value does not pass u
abbrev pub Bound : Bool → Value → ℤ → Type 0
Bound false v u = NotAbove v u
Bound true v u = NotBelow v u

-- toward positive, or toward negative: the first number, going that way, that the value does not pass; where no finite one is, the infinity there
pub record Directed (f : Format) (d s : Bool) (v : Value) (r : ℕ) : Type 0 where
  pub pattern : Pattern f r
  pub within : magnitude f r ≤ inf f
  pub sign : minus f r ≡ sign_of s v
  pub bounds : magnitude f r < inf f → Bound d v (value f r)
  pub first : (q : ℕ) → Pattern f q → magnitude f q < inf f → Bound d v (value f q) → (magnitude f r < inf f) × Before d (value f r) (value f q)
  pub infinity : magnitude f r ≡ inf f → minus f r ≡ d

-- the rule for answers, by the attribute
abbrev pub RuleIn : Format → Attribute → Bool → Value → ℕ → Type 0
RuleIn f ties_to_even s v r = Once f to_even s v r
RuleIn f ties_to_away s v r = Once f to_away s v r
RuleIn f toward_zero s v r = TowardZero f s v r
RuleIn f toward_positive s v r = Directed f false s v r
RuleIn f toward_negative s v r = Directed f true s v r
