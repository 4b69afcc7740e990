-- What scaling a pattern under an attribute gives. Assumes nothing.
use Rattle.std.specs.Prelude.{ℕ, ℤ, ◌≡◌}
use Rattle.ieee.specs.Format.{Format}
use Rattle.ieee.specs.Pattern.{Pattern}
use Rattle.ieee.specs.Round.{Attribute}
use Rattle.ieee.specs.Flags.{Flags}
use Rattle.ieee.specs.Scalbn.{scalbn_in, scalbn_flags_in}

-- v and F are the value of x times 2 ^ n and its flags
pub record Scales (f : Format) (a : Attribute) (x : ℕ) (n : ℤ) (v : ℕ) (F : Flags) : Type 0 where
  pub value : v ≡ scalbn_in f a x n
  pub flags : F ≡ scalbn_flags_in f a x n
  pub pattern : Pattern f v
