-- The significand of a normal number, and its exponent field moved. Assumes nothing.
use Rattle.std.specs.Prelude.{ℕ, ◌+◌, ◌-◌, ◌^◌, ℤ, pos, ◌+ℤ◌}
use Rattle.ieee.specs.Format.{Format}
use Rattle.ieee.specs.Pattern.{field, fraction}
use Rattle.ieee.specs.Round.{Attribute}
use Rattle.ieee.specs.Flags.{Flags}
use Rattle.ieee.specs.Scalbn.{scalbn_in, scalbn_flags_in}

-- the fraction with its implicit bit
abbrev pub full_of : Format → ℕ → ℕ
full_of f x = 2 ^ f.frac + fraction f x

-- the exponent field of x moved by n
abbrev pub moved_to : Format → ℕ → ℤ → ℤ
moved_to f x n = n +ℤ pos (field f x)

-- the exponent of the significand of x times 2 ^ n, in smallest units
abbrev pub full_exp : Format → ℕ → ℤ → ℤ
full_exp f x n = n +ℤ pos (field f x - 1)

-- what it is to be: the value and the flags of x times 2 ^ n
abbrev pub scalbn_gives : Format → Attribute → ℕ → ℤ → ℕ × Flags
scalbn_gives f a x n = (scalbn_in f a x n, scalbn_flags_in f a x n)
