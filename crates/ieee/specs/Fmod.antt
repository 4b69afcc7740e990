-- The remainder of truncated division: ISO C, fmod, 7.12.10.1 and F.10.7.1. Assumes nothing.
use Rattle.std.specs.Prelude.{ℕ, zero, suc, ◌-◌, ◌*◌}
use Rattle.ieee.specs.Format.{Format, canonical}
use Rattle.ieee.specs.Pattern.{Kind, nan, infinite, finite, kind, minus, signed}
use Rattle.ieee.specs.Round.{shorter, rounded, exactly}
use Rattle.ieee.specs.Whole.{whole}

-- the rows of every remainder, by the kinds of x and y: none where there is no remainder, same where y is infinite, otherwise r of |x| and |y|
unfoldable pub divide : {A : Type 0} → A → A → (ℕ → ℕ → A) → Kind → Kind → A
divide none same r nan l = none
divide none same r infinite l = none
divide none same r (finite u) nan = none
divide none same r (finite u) infinite = same
divide none same r (finite u) (finite zero) = none
divide none same r (finite u) (finite (suc v)) = r u (suc v)

-- x minus trunc (x / y) times y, of magnitudes
abbrev pub left : ℕ → ℕ → ℕ
left u v = u - whole shorter u v * v

unfoldable pub fmod_of : Format → ℕ → ℕ → ℕ
unfolding divide kind rounded
fmod_of f x y = divide (canonical f) x (λ u v. signed f (minus f x) (exactly f (left u v))) (kind f x) (kind f y)
