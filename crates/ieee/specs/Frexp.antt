-- The exponent of a number, and its fraction: ISO C, frexp and ilogb, 7.12.6.7, 7.12.6.8, F.10.3.7 and F.10.3.8. Assumes nothing.
use Rattle.std.specs.Prelude.{ℕ, zero, suc, ◌+◌, ◌-◌, ◌*◌, ◌/◌, ◌^◌, leb, ℤ, pos, negsuc, ◌-ℤ◌}
use Rattle.ieee.specs.Format.{Format, low, canonical}
use Rattle.ieee.specs.Pattern.{Kind, nan, infinite, finite, kind, minus, signed}
use Rattle.ieee.specs.Round.{greatest, rounded, exactly}

-- the leading bit of u smallest units, by its number: the greatest k with 2 ^ k at most u
unfoldable pub leading_bit : Format → ℕ → ℕ
unfolding greatest
leading_bit f u = greatest (λ k. leb (2 ^ k) u) (f.expo + 1) 0

-- ---- ilogb: the exponent of the leading bit; what ISO C leaves free is libm's
-- FP_ILOGB0 and FP_ILOGBNAN, both INT_MIN
abbrev pub no_exponent : ℤ
no_exponent = negsuc (2 ^ 31 - 1)

-- INT_MAX, of an infinity
abbrev pub past_exponents : ℤ
past_exponents = pos (2 ^ 31 - 1)

unfoldable pub ilogb_by : Format → Kind → ℤ
unfolding leading_bit
ilogb_by f nan = no_exponent
ilogb_by f infinite = past_exponents
ilogb_by f (finite zero) = no_exponent
ilogb_by f (finite (suc u)) = pos (leading_bit f (suc u)) -ℤ pos (low f)

unfoldable pub ilogb_of : Format → ℕ → ℤ
unfolding ilogb_by kind
ilogb_of f x = ilogb_by f (kind f x)

-- ---- frexp: x over the power of two just above its magnitude, and that power's exponent
unfoldable pub frexp_by : Format → ℕ → Kind → ℕ
unfolding leading_bit rounded
frexp_by f x nan = canonical f
frexp_by f x infinite = x
frexp_by f x (finite zero) = x
frexp_by f x (finite (suc u)) = signed f (minus f x) (exactly f (suc u * 2 ^ low f / 2 ^ suc (leading_bit f (suc u))))

unfoldable pub frexp_of : Format → ℕ → ℕ
unfolding frexp_by kind
frexp_of f x = frexp_by f x (kind f x)

-- of infinities and NaNs ISO C leaves it free, and libm has 0
unfoldable pub frexp_exponent_by : Format → Kind → ℤ
unfolding leading_bit
frexp_exponent_by f nan = pos 0
frexp_exponent_by f infinite = pos 0
frexp_exponent_by f (finite zero) = pos 0
frexp_exponent_by f (finite (suc u)) = pos (suc (leading_bit f (suc u))) -ℤ pos (low f)

unfoldable pub frexp_exponent : Format → ℕ → ℤ
unfolding frexp_exponent_by kind
frexp_exponent f x = frexp_exponent_by f (kind f x)
