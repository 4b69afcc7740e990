-- What frexp and ilogb are held to (ISO C, F.10.3.7 and F.10.3.8): the exponent of a number, its fraction, and the rows of NaNs, infinities and zeros. Assumes nothing.
use Rattle.std.specs.Prelude.{ℕ, suc, ◌*◌, ◌^◌, ◌≤◌, ◌<◌, ◌≡◌, ℤ, pos, ◌-ℤ◌}
use Rattle.ieee.specs.Format.{Format, low, canonical, units}
use Rattle.ieee.specs.Pattern.{Pattern, magnitude, nan, infinite, finite, kind}
use Rattle.ieee.specs.Scalbn.{scalbn_of, exact_scalbn}
use Rattle.ieee.specs.FlagsRule.{Exactly}
use Rattle.ieee.specs.Frexp.{no_exponent, past_exponents}

-- ---- a number
-- 2 ^ n ≤ |x| < 2 ^ (n + 1), counted in smallest units, which are 2 ^ -low
pub record Leads (f : Format) (x : ℕ) (n : ℤ) : Type 0 where
  pub k : ℕ
  pub exponent : n ≡ pos k -ℤ pos (low f)
  pub least : 2 ^ k ≤ units f (magnitude f x)
  pub most : units f (magnitude f x) < 2 ^ suc k

-- 1/2 ≤ |r| < 1, and r times 2 ^ n is x: scalbn gives x, and nothing is rounded
pub record Broken (f : Format) (x r : ℕ) (n : ℤ) : Type 0 where
  pub pattern : Pattern f r
  pub least : 2 ^ low f ≤ 2 * units f (magnitude f r)
  pub most : units f (magnitude f r) < 2 ^ low f
  pub scales : scalbn_of f r n ≡ x
  pub exact : Exactly f (exact_scalbn f r n) x

-- ---- rows: what ilogb, and frexp with its exponent, make of NaNs, infinities and zeros
pub record IlogbRows (f : Format) (o : ℕ → ℤ) : Type 0 where
  pub of_nan : (x : ℕ) → kind f x ≡ nan → o x ≡ no_exponent
  pub of_infinity : (x : ℕ) → kind f x ≡ infinite → o x ≡ past_exponents
  pub of_zero : (x : ℕ) → kind f x ≡ finite 0 → o x ≡ no_exponent

pub record FrexpRows (f : Format) (o : ℕ → ℕ) (e : ℕ → ℤ) : Type 0 where
  pub of_nan : (x : ℕ) → kind f x ≡ nan → (o x ≡ canonical f) × (e x ≡ pos 0)
  pub of_infinity : (x : ℕ) → kind f x ≡ infinite → (o x ≡ x) × (e x ≡ pos 0)
  pub of_zero : (x : ℕ) → kind f x ≡ finite 0 → (o x ≡ x) × (e x ≡ pos 0)
