-- Operands that have no remainder, by the rows of every remainder. Assumes nothing.
use Rattle.std.specs.Prelude.{ℕ, Bool, true, false}
use Rattle.ieee.specs.Format.{Format}
use Rattle.ieee.specs.Pattern.{kind}
use Rattle.ieee.specs.Fmod.{divide}

unfoldable pub no_remainder : Format → ℕ → ℕ → Bool
unfolding divide kind
no_remainder f x y = divide true false (λ u v. false) (kind f x) (kind f y)
