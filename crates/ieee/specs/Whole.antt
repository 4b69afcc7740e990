-- Whole numbers: trunc, floor and ceil; IEEE 754-2019, clause 5.9; ISO C, F.10.6. Assumes nothing.
use Rattle.std.specs.Prelude.{ℕ, ◌+◌, ◌*◌, ◌/◌, ◌%◌, ◌^◌, not, ◌&&◌, ◌||◌, cond, leb, ltb, eqb}
use Rattle.ieee.specs.Format.{Format, low, canonical}
use Rattle.ieee.specs.Pattern.{Kind, nan, infinite, finite, kind, minus, signed}
use Rattle.ieee.specs.Round.{Way, even, away, shorter, longer, Attribute, toward_zero, toward_positive, toward_negative, way_of, rounded, exactly}
use Rattle.ieee.specs.Flags.{Flags, none, only_inexact, nan_flags, signals}

-- n / d as a whole number, the way w
abbrev pub whole : Way → ℕ → ℕ → ℕ
whole even n d = n / d + cond (ltb d (2 * (n % d)) || (eqb (2 * (n % d)) d && eqb (n / d % 2) 1)) 1 0
whole away n d = n / d + cond (leb d (2 * (n % d))) 1 0
whole shorter n d = n / d
whole longer n d = n / d + cond (eqb (n % d) 0) 0 1

-- x with its magnitude sent the way w to a whole number; infinities stay, and every NaN gives the canonical one
unfoldable pub whole_by : Format → Way → ℕ → Kind → ℕ
unfolding rounded
whole_by f w x nan = canonical f
whole_by f w x infinite = x
whole_by f w x (finite u) = signed f (minus f x) (exactly f (whole w u (2 ^ low f) * 2 ^ low f))

unfoldable pub whole_in : Format → Attribute → ℕ → ℕ
unfolding whole_by kind
whole_in f a x = whole_by f (way_of a (minus f x)) x (kind f x)

unfoldable pub trunc_of : Format → ℕ → ℕ
unfolding whole_in
trunc_of f x = whole_in f toward_zero x

unfoldable pub floor_of : Format → ℕ → ℕ
unfolding whole_in
floor_of f x = whole_in f toward_negative x

unfoldable pub ceil_of : Format → ℕ → ℕ
unfolding whole_in
ceil_of f x = whole_in f toward_positive x

-- ---- the flags: invalid for a signalling NaN, and inexact exactly where a finite operand x is changed, to r
unfoldable pub whole_flags_by : Format → ℕ → ℕ → Kind → Flags
whole_flags_by f x r nan = nan_flags (signals f x)
whole_flags_by f x r infinite = none
whole_flags_by f x r (finite u) = only_inexact (not (eqb r x))

unfoldable pub whole_flags_in : Format → Attribute → ℕ → Flags
unfolding whole_flags_by whole_in kind
whole_flags_in f a x = whole_flags_by f x (whole_in f a x) (kind f x)

unfoldable pub trunc_flags : Format → ℕ → Flags
unfolding whole_flags_in
trunc_flags f x = whole_flags_in f toward_zero x

unfoldable pub floor_flags : Format → ℕ → Flags
unfolding whole_flags_in
floor_flags f x = whole_flags_in f toward_negative x

unfoldable pub ceil_flags : Format → ℕ → Flags
unfolding whole_flags_in
ceil_flags f x = whole_flags_in f toward_positive x
