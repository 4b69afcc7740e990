-- The pattern next to that of a number that is not zero. Assumes nothing.
use Rattle.std.specs.Prelude.{ℕ, ◌+◌, ◌-◌, Bool, ◌&&◌, cond, ltb}
use Rattle.std.specs.Bool.{beq}
use Rattle.ieee.specs.Format.{Format}
use Rattle.ieee.specs.Pattern.{minus, magnitude}

-- away from zero: y has the sign of x, and the greater magnitude
abbrev pub outward : Format → ℕ → ℕ → Bool
outward f x y = beq (minus f x) (minus f y) && ltb (magnitude f x) (magnitude f y)

-- the pattern above or below: within a sign they follow each other as their numbers do
abbrev pub next_pattern : Format → ℕ → ℕ → ℕ
next_pattern f x y = cond (outward f x y) (x + 1) (x - 1)
