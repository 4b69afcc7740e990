-- An exponent field that was moved: its positive part, and its depth below the least normal number. Assumes nothing.
use Rattle.std.specs.Prelude.{ℕ, ◌+◌, min, ℤ, pos, negsuc}

abbrev pub above : ℤ → ℕ
above (pos n) = n
above (negsuc n) = 0

-- how many bits of the significand of a number with that field lie below the smallest unit, where the field is 0 or less; 64 stands for any more
abbrev pub depth_of : ℤ → ℕ
depth_of (pos n) = 1
depth_of (negsuc n) = min (2 + n) 64
