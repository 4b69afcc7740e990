-- Where the point stands in a pattern, and choices by it. Assumes nothing.
use Rattle.std.specs.Prelude.{◌≡◌, ℕ, suc, ◌+◌, ◌-◌, ◌/◌, ◌%◌, ◌^◌, ◌<◌, ◌≤◌, cond, nat_lt}
use Rattle.ieee.specs.Format.{Format, top, bias, inf, canonical}
use Rattle.ieee.specs.Pattern.{magnitude, field}

-- the exponent in a word: how many bits of the fraction stand before the point; below 1 it wraps
abbrev pub exponent_of : Format → ℕ → ℕ
exponent_of f x = (field f x + (2 ^ 64 - bias f)) % 2 ^ 64

-- the bits of a fraction of p bits that stand behind the point, all set, where n stand before it
abbrev pub behind_of : ℕ → ℕ → ℕ
behind_of p n = (2 ^ p - 1) / 2 ^ (n % 64)

-- one of three: for a number below 1; for a point within the fraction; and from 2 ^ frac on, for infinities and for NaNs
unfoldable pub by_point : Format → ℕ → ℕ → ℕ → ℕ → ℕ
by_point f x below part whole = cond (nat_lt (field f x) (bias f)) below (cond (nat_lt (field f x) (bias f + f.frac)) part whole)

-- the bits behind the point, all set: below 1 all but the sign, of a whole number none
abbrev pub tail_of : Format → ℕ → ℕ
tail_of f x = by_point f x (top f - 1) (behind_of f.frac (exponent_of f x)) 0

-- x, or the canonical NaN for every NaN
unfoldable pub one_nan : Format → ℕ → ℕ
one_nan f x = cond (nat_lt (inf f) (magnitude f x)) (canonical f) x

-- some of the last bits of a word, all set
abbrev pub Mask : ℕ → Type 0
Mask b = (k : ℕ) × (suc b ≡ 2 ^ k)

-- b masks the bits behind the point of x
pub record Tail (f : Format) (x b : ℕ) : Type 0 where
  pub mask : Mask b
  pub below : field f x < bias f → mask.0 ≡ f.frac + f.expo
  pub part : bias f ≤ field f x → field f x < bias f + f.frac → field f x + mask.0 ≡ bias f + f.frac
  pub whole : bias f + f.frac ≤ field f x → mask.0 ≡ 0
