-- The square root: IEEE 754-2019, squareRoot, clauses 5.4.1, 6.3 and 7.2. Assumes nothing.
use Rattle.std.specs.Prelude.{ℕ, zero, suc, ◌*◌, ◌^◌, Bool, true, false, nat_abs}
use Rattle.ieee.specs.Format.{Format, low, canonical}
use Rattle.ieee.specs.Pattern.{Kind, nan, infinite, finite, kind, minus, value}
use Rattle.ieee.specs.Exact.{Value, surd}
use Rattle.ieee.specs.Round.{Attribute, ties_to_even, answer}
use Rattle.ieee.specs.Flags.{Flags, none, only_invalid, nan_flags, signals, raised}

-- the exact root of u units: r units where r r = u 2 ^ low, since a unit is 2 ^ -low
abbrev pub root_of : Format → ℕ → Value
root_of f u = surd (u * 2 ^ low f)

-- by the sign and the kind of x
unfoldable pub sqrt_by : Format → Attribute → ℕ → Bool → Kind → ℕ
unfolding answer
sqrt_by f a x s nan = canonical f
sqrt_by f a x false infinite = x
sqrt_by f a x true infinite = canonical f
sqrt_by f a x s (finite zero) = answer f a s (root_of f 0)
sqrt_by f a x false (finite (suc u)) = answer f a false (root_of f (suc u))
sqrt_by f a x true (finite (suc u)) = canonical f

unfoldable pub sqrt_in : Format → Attribute → ℕ → ℕ
unfolding sqrt_by kind
sqrt_in f a x = sqrt_by f a x (minus f x) (kind f x)

unfoldable pub sqrt_of : Format → ℕ → ℕ
unfolding sqrt_in
sqrt_of f x = sqrt_in f ties_to_even x

-- ---- the flags (clause 7.2): invalid for a signalling NaN, and below zero; n says that x signals
unfoldable pub sqrt_flags_by : Format → Attribute → Bool → Bool → Kind → Flags
unfolding raised
sqrt_flags_by f a n s nan = nan_flags n
sqrt_flags_by f a n false infinite = none
sqrt_flags_by f a n true infinite = only_invalid
sqrt_flags_by f a n s (finite zero) = raised f a s (root_of f 0)
sqrt_flags_by f a n false (finite (suc u)) = raised f a false (root_of f (suc u))
sqrt_flags_by f a n true (finite (suc u)) = only_invalid

unfoldable pub sqrt_flags_in : Format → Attribute → ℕ → Flags
unfolding sqrt_flags_by kind
sqrt_flags_in f a x = sqrt_flags_by f a (signals f x) (minus f x) (kind f x)

unfoldable pub sqrt_flags : Format → ℕ → Flags
unfolding sqrt_flags_in
sqrt_flags f x = sqrt_flags_in f ties_to_even x

-- ---- what the answer to a finite operand not below zero is held to: the exact root of x, in smallest units, by its square
abbrev pub exact_sqrt : Format → ℕ → Value
exact_sqrt f x = surd (nat_abs (value f x) * 2 ^ low f)
