-- The whole part of a number and the rest: ISO C, modf, 7.12.6.18 and F.10.3.18. Assumes nothing.
use Rattle.std.specs.Prelude.{ℕ, ◌%◌, ◌^◌}
use Rattle.ieee.specs.Format.{Format, low, canonical}
use Rattle.ieee.specs.Pattern.{Kind, nan, infinite, finite, kind, minus, signed}
use Rattle.ieee.specs.Round.{rounded, exactly}
use Rattle.ieee.specs.Whole.{trunc_of}

-- what is behind the point, with the sign of x; an infinity has none
unfoldable pub modf_by : Format → ℕ → Kind → ℕ
unfolding rounded
modf_by f x nan = canonical f
modf_by f x infinite = signed f (minus f x) 0
modf_by f x (finite u) = signed f (minus f x) (exactly f (u % 2 ^ low f))

unfoldable pub modf_of : Format → ℕ → ℕ
unfolding modf_by kind
modf_of f x = modf_by f x (kind f x)

-- what is before it
unfoldable pub modf_whole : Format → ℕ → ℕ
unfolding trunc_of
modf_whole f x = trunc_of f x
