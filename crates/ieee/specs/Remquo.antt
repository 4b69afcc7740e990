-- The remainder of division to the nearest, and its quotient: IEEE 754-2019, remainder, clause 5.3.1; ISO C, remquo, 7.12.10.3 and F.10.7.3. Assumes nothing.
use Rattle.std.specs.Prelude.{ℕ, ◌-◌, ◌*◌, ◌%◌, ◌^◌, Bool, not, cond, ltb, ℤ, pos}
use Rattle.ieee.specs.Format.{Format, canonical}
use Rattle.ieee.specs.Pattern.{kind, minus, signed, unlike, with_sign}
use Rattle.ieee.specs.Round.{even, rounded, exactly}
use Rattle.ieee.specs.Whole.{whole}
use Rattle.ieee.specs.Fmod.{divide}

-- x minus n times y, where n is whole and nearest to x / y: q is n times |y|, and the sign is that of x unless q is greater than |x|
abbrev pub rest : Format → Bool → ℕ → ℕ → ℕ
rest f s u q = cond (ltb u q) (signed f (not s) (exactly f (q - u))) (signed f s (exactly f (u - q)))

unfoldable pub remquo_of : Format → ℕ → ℕ → ℕ
unfolding divide kind rounded
remquo_of f x y = divide (canonical f) x (λ u v. rest f (minus f x) u (whole even u v * v)) (kind f x) (kind f y)

-- the quotient: the magnitude of n modulo 2 ^ 31, negated when the signs of x and y differ
unfoldable pub quotient_of : Format → ℕ → ℕ → ℤ
unfolding divide kind
quotient_of f x y = divide (pos 0) (pos 0) (λ u v. with_sign (unlike (minus f x) (minus f y)) (whole even u v % 2 ^ 31)) (kind f x) (kind f y)
