-- Scaling, x times 2 ^ n: IEEE 754-2019, scaleB, clause 5.3.3; ISO C, scalbn, F.10.3.19. Assumes nothing.
use Rattle.std.specs.Prelude.{ℕ, suc, ◌+◌, ◌*◌, ◌^◌, min, Bool, ℤ, pos, negsuc, ◌*ℤ◌}
use Rattle.ieee.specs.Format.{Format, canonical}
use Rattle.ieee.specs.Pattern.{Kind, nan, infinite, finite, kind, minus, with_sign, value}
use Rattle.ieee.specs.Exact.{Value, dyadic}
use Rattle.ieee.specs.Round.{Attribute, ties_to_even, answer}
use Rattle.ieee.specs.Flags.{Flags, none, nan_flags, signals, raised}

-- u units with the sign s, times 2 ^ n, exactly
abbrev pub scaled : Bool → ℕ → ℤ → Value
scaled s u (pos n) = dyadic (with_sign s (u * 2 ^ n)) 0
scaled s u (negsuc n) = dyadic (with_sign s u) (suc n)

-- from here on, up or down, n no longer matters: any number but zero is past infinity, or below half of the smallest unit
abbrev pub reach : Format → ℕ
reach f = 2 ^ f.expo + f.frac

abbrev pub clamp : ℕ → ℤ → ℤ
clamp b (pos n) = pos (min n b)
clamp b (negsuc n) = negsuc (min n b)

-- by the kind of x; n clamped, so that every n can be computed with
unfoldable pub scalbn_by : Format → Attribute → ℕ → ℤ → Kind → ℕ
unfolding answer
scalbn_by f a x n nan = canonical f
scalbn_by f a x n infinite = x
scalbn_by f a x n (finite u) = answer f a (minus f x) (scaled (minus f x) u (clamp (reach f) n))

unfoldable pub scalbn_in : Format → Attribute → ℕ → ℤ → ℕ
unfolding scalbn_by kind
scalbn_in f a x n = scalbn_by f a x n (kind f x)

unfoldable pub scalbn_of : Format → ℕ → ℤ → ℕ
unfolding scalbn_in
scalbn_of f x n = scalbn_in f ties_to_even x n

-- ---- the flags (clause 7.2): invalid for a signalling NaN alone
unfoldable pub scalbn_flags_by : Format → Attribute → ℕ → ℤ → Kind → Flags
unfolding raised
scalbn_flags_by f a x n nan = nan_flags (signals f x)
scalbn_flags_by f a x n infinite = none
scalbn_flags_by f a x n (finite u) = raised f a (minus f x) (scaled (minus f x) u (clamp (reach f) n))

unfoldable pub scalbn_flags_in : Format → Attribute → ℕ → ℤ → Flags
unfolding scalbn_flags_by kind
scalbn_flags_in f a x n = scalbn_flags_by f a x n (kind f x)

unfoldable pub scalbn_flags : Format → ℕ → ℤ → Flags
unfolding scalbn_flags_in
scalbn_flags f x n = scalbn_flags_in f ties_to_even x n

-- what the answer to a finite operand is held to, for every n: x times 2 ^ n, exactly, in smallest units
abbrev pub exact_scalbn : Format → ℕ → ℤ → Value
exact_scalbn f x (pos n) = dyadic (value f x *ℤ pos (2 ^ n)) 0
exact_scalbn f x (negsuc n) = dyadic (value f x) (suc n)
