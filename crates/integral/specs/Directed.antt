-- The steps of floor and ceil, in a word: a number sent down, or up. Assumes nothing.
use Rattle.std.specs.Prelude.{ℕ, suc, ◌+◌, ◌-◌, ◌*◌, ◌/◌, ◌%◌, ◌^◌, Bool, true, false, cond, not, ◌==◌}
use Rattle.ieee.specs.Format.{Format, bias}
use Rattle.ieee.specs.Pattern.{minus, magnitude, signed}
use Rattle.ieee.specs.Flags.{Flags}
use Rattle.ieee.specs.Whole.{floor_of, floor_flags, ceil_of, ceil_flags}

-- up, or down
abbrev pub directed : Format → Bool → ℕ → ℕ
directed f true x = ceil_of f x
directed f false x = floor_of f x

abbrev pub directed_flags : Format → Bool → ℕ → Flags
directed_flags f true x = ceil_flags f x
directed_flags f false x = floor_flags f x

-- whether that is away from zero
abbrev pub goes_away : Format → Bool → ℕ → Bool
goes_away f true x = not (minus f x)
goes_away f false x = minus f x

-- a word of ones where it is
abbrev pub ones_if : Bool → ℕ
ones_if b = cond b (2 ^ 64 - 1) 0

-- a one where it is, else a zero, with the sign of x
abbrev pub one_or_zero : Format → Bool → ℕ → ℕ
one_or_zero f up x = signed f (minus f x) (cond (goes_away f up x) (bias f * 2 ^ f.frac) 0)

-- between -1 and 1: a zero stays
unfoldable pub below_one : Format → Bool → ℕ → ℕ
below_one f up x = cond (magnitude f x == 0) x (one_or_zero f up x)

-- x without the bits under the mask b; where it goes away from zero, less one before the cut, and one above the mask more after it
unfoldable pub cut_by : Bool → ℕ → ℕ → ℕ
cut_by a x b = cond a (((x + (2 ^ 64 - 1)) % 2 ^ 64 / suc b * suc b + suc b) % 2 ^ 64) (x / suc b * suc b)
