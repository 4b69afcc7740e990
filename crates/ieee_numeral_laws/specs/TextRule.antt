-- What the text of a pattern is held to: what it says is the pattern's value, to the last bit, in the digits that are needed. Assumes nothing.
use Rattle.std.specs.Prelude.{ℕ, suc, ◌+◌, ◌/◌, ◌%◌, ◌^◌, ◌≤◌, ◌≡◌, cond, List, length, eqb, ℤ, pos, nat_abs, ◌-ℤ◌}
use Rattle.text_numbers.specs.Written.{Fewest}
use Rattle.ieee.specs.Format.{Format, bias}
use Rattle.ieee.specs.Pattern.{nan, infinite, finite, kind, minus, field, value}
use Rattle.ieee.specs.Exact.{dyadic}
use Rattle.ieee_numeral_laws.specs.Numeral.{number, Says, bytes_of}
use Rattle.ieee_numeral_laws.specs.ReadRule.{Worth}

-- what a format must be for its texts: exponents of five digits, and at most 64 bytes
pub record Writable (f : Format) : Type 0 where
  pub exponents : f.expo ≤ 17
  pub fractions : f.frac ≤ 208

-- the text of a number that is not zero: its digits as one whole number, how many stand behind the point, and its exponent, of j decimal digits
pub record NumberText (f : Format) (x : ℕ) (t : List ℕ) : Type 0 where
  pub d : ℕ
  pub k : ℕ
  pub e : ℤ
  pub j : ℕ
  pub says : Says t (number (minus f x) d k e)
  -- it is the number itself
  pub worth : Worth f (minus f x) d k e (dyadic (value f x) 0)
  -- the digit before the point is 1, and 0 of a subnormal number, whose exponent is that of the least normal one
  pub normal : 1 ≤ field f x → (d / 16 ^ k ≡ 1) × (e ≡ pos (field f x) -ℤ pos (bias f))
  pub subnormal : field f x ≡ 0 → (d / 16 ^ k ≡ 0) × (e ≡ pos 1 -ℤ pos (bias f))
  -- no zero ends the digits behind the point, and none begins the exponent
  pub no_zero_last : 1 ≤ k → d % 16 ≡ 0 → ⊥
  pub fewest : Fewest (nat_abs e) j
  -- a sign, `0x` and a digit; the point and its digits, if any; `p`, a sign and the exponent
  pub size : length t ≡ cond (minus f x) 1 0 + 3 + cond (eqb k 0) 0 (suc k) + 2 + j

-- every pattern's text
pub record TextAs (f : Format) (x : ℕ) (t : List ℕ) : Type 0 where
  pub of_nan : kind f x ≡ nan → t ≡ bytes_of "nan"
  pub of_infinity : kind f x ≡ infinite → t ≡ cond (minus f x) (bytes_of "-inf") (bytes_of "inf")
  pub of_zero : kind f x ≡ finite 0 → t ≡ cond (minus f x) (bytes_of "-0x0p+0") (bytes_of "0x0p+0")
  pub of_number : (u : ℕ) → kind f x ≡ finite (suc u) → NumberText f x t
