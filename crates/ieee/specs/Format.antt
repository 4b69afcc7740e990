-- A binary interchange format of IEEE 754-2019, clause 3.4, and its numbers. Assumes nothing.
use Rattle.std.specs.Prelude.{ℕ, zero, suc, ◌+◌, ◌-◌, ◌*◌, ◌/◌, ◌%◌, ◌^◌, ◌≤◌, ◌<◌}

-- the numbers of fraction bits and of exponent bits; the sign is one more bit
pub record Format : Type 0 where
  pub frac : ℕ
  pub expo : ℕ

abbrev pub b16 : Format
b16 = record { frac = 10; expo = 5 }

abbrev pub b32 : Format
b32 = record { frac = 23; expo = 8 }

abbrev pub b64 : Format
b64 = record { frac = 52; expo = 11 }

-- the sign bit: a pattern is below twice this, and a magnitude, a pattern without its sign, is below this
abbrev pub top : Format → ℕ
top f = 2 ^ (f.frac + f.expo)

abbrev pub bias : Format → ℕ
bias f = 2 ^ (f.expo - 1) - 1

-- the smallest unit is 2 ^ -low
abbrev pub low : Format → ℕ
low f = bias f + f.frac - 1

-- the pattern of +infinity, which is also how many finite magnitudes there are
abbrev pub inf : Format → ℕ
inf f = (2 ^ f.expo - 1) * 2 ^ f.frac

-- the NaN that every operation gives: no sign, and only the first bit of the fraction set
abbrev pub canonical : Format → ℕ
canonical f = inf f + 2 ^ (f.frac - 1)

-- a magnitude in smallest units, by its exponent field and its fraction t, where h is 2 ^ frac
abbrev pub fields : ℕ → ℕ → ℕ → ℕ
fields h zero t = t
fields h (suc e) t = (h + t) * 2 ^ e

-- a magnitude as a whole number of smallest units; at infinity, what the next number would be
unfoldable pub units : Format → ℕ → ℕ
units f m = fields (2 ^ f.frac) (m / 2 ^ f.frac) (m % 2 ^ f.frac)

-- what the theorems require of a format
pub record Fair (f : Format) : Type 0 where
  -- infinity's pattern is even
  pub frac_pos : 1 ≤ f.frac
  -- 1 is a number
  pub expo_two : 2 ≤ f.expo
  -- every whole number of frac + 1 digits is a number
  pub frac_fits : f.frac < 2 ^ (f.expo - 1)
