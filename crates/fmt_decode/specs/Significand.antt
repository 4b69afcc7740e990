-- A finite number as a whole significand times a power of two: as its fields give them, and normalised, with the leading bit at bit frac. Assumes nothing.
use Rattle.std.specs.Prelude.{◌≡◌, ℕ, zero, suc, ◌+◌, ◌-◌, ◌*◌, ◌/◌, ◌^◌, ◌<◌, Bool, T, ℤ, pos, negsuc, ◌+ℤ◌, ◌-ℤ◌, neg_ℤ, int_le}
use Rattle.std.specs.Int.Count.{count_leading_zeros}
use Rattle.std.specs.Int.Signed.{mag}
use Rattle.ieee.specs.Format.{Format, low}
use Rattle.ieee.specs.Pattern.{minus, field, fraction}

-- ---- as the fields give them: the c and q of IEEE 754-2019, clause 3.3
-- by the exponent field and the fraction t, where h is 2 ^ frac: the implicit bit of a normal number, and none of a subnormal one
abbrev pub significand_by : ℕ → ℕ → ℕ → ℕ
significand_by h zero t = t
significand_by h (suc e) t = h + t

unfoldable pub significand : Format → ℕ → ℕ
significand f x = significand_by (2 ^ f.frac) (field f x) (fraction f x)

-- the exponent in smallest units, which are 2 ^ -low: the fields 0 and 1 have the same
abbrev pub units_exp : Format → ℕ → ℕ
units_exp f x = field f x - 1

unfoldable pub exponent : Format → ℕ → ℤ
exponent f x = pos (units_exp f x) -ℤ pos (low f)

-- how far exponents go, normalised too
pub record InRange (f : Format) (z : ℤ) : Type 0 where
  pub least : T (int_le (neg_ℤ (pos (low f + f.frac))) z)
  pub small : mag z < 2 ^ 17

-- what the decoder says of a number that it unpacks
abbrev pub Unpacked : Format → ℕ → ℕ → ℤ → Bool → Type 0
Unpacked f x sig exp neg = (sig ≡ significand f x) × (exp ≡ exponent f x) × (neg ≡ minus f x) × InRange f exp

-- ---- normalised: shifted left by the leading zeros, of which a normal number has none
abbrev pub zeros_of : Format → ℕ → ℕ
zeros_of f x = count_leading_zeros (suc f.frac) (significand f x)

unfoldable pub sig_of : Format → ℕ → ℕ
sig_of f x = significand f x * 2 ^ zeros_of f x

unfoldable pub exp_of : Format → ℕ → ℤ
exp_of f x = exponent f x -ℤ pos (zeros_of f x)

-- and of one that it normalises too
abbrev pub Normalised : Format → ℕ → ℕ → ℤ → Bool → Type 0
Normalised f x sig exp neg = (sig ≡ sig_of f x) × (exp ≡ exp_of f x) × (neg ≡ minus f x) × InRange f exp

-- ---- whole smallest units
abbrev pub shifted : ℕ → ℤ → ℕ
shifted s (pos n) = s * 2 ^ n
shifted s (negsuc n) = s / 2 ^ suc n

-- how many of them s times 2 ^ z makes up
abbrev pub units_at : Format → ℕ → ℤ → ℕ
units_at f s z = shifted s (z +ℤ pos (low f))
