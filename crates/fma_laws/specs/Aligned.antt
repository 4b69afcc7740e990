-- A product p and a third number q aligned to one exponent, where q is d bits above p. Assumes nothing.
use Rattle.std.specs.Prelude.{ℕ, suc, ◌+◌, ◌-◌, ◌*◌, ◌^◌, min, Bool, true, false, cond, ltb, ℤ, pos, negsuc, ◌+ℤ◌, ◌-ℤ◌}
use Rattle.ieee.specs.Pattern.{unlike}
use Rattle.round_wide.specs.Stuck.{stuck}

-- q is shifted left by d, but by at most l bits, the room for it; for the rest p is shifted right. Where q is below p, q is shifted right.
-- A shift right leaves a sticky mark.
unfoldable pub product_at : ℕ → ℕ → ℤ → ℕ
unfolding stuck
product_at l p (pos n) = stuck p (n - l)
product_at l p (negsuc n) = p

unfoldable pub third_at : ℕ → ℕ → ℤ → ℕ
unfolding stuck
third_at l q (pos n) = q * 2 ^ min n l
third_at l q (negsuc n) = stuck q (suc n)

-- how many bits p was shifted right: both now stand so far above p's own exponent
abbrev pub down_by : ℕ → ℤ → ℕ
down_by l (pos n) = n - l
down_by l (negsuc n) = 0

-- the magnitude of the sum of two magnitudes, of unlike signs or not
abbrev pub joined : Bool → ℕ → ℕ → ℕ
joined false a b = a + b
joined true a b = (a - b) + (b - a)

-- its sign, where s is that of the first: the other sign where the second is greater
abbrev pub joined_sign : Bool → Bool → ℕ → ℕ → Bool
joined_sign s t a b = cond (ltb a b) t s

-- a product of p steps with the exponent e and the sign s, and a third number of q steps with g and t, added: how many steps, of which sign and exponent
abbrev pub added_steps : ℕ → ℕ → ℤ → Bool → ℕ → ℤ → Bool → ℕ
added_steps l p e s q g t = joined (unlike s t) (product_at l p (g -ℤ e)) (third_at l q (g -ℤ e))

abbrev pub added_sign : ℕ → ℕ → ℤ → Bool → ℕ → ℤ → Bool → Bool
added_sign l p e s q g t = joined_sign s t (product_at l p (g -ℤ e)) (third_at l q (g -ℤ e))

abbrev pub added_exp : ℕ → ℤ → ℤ → ℤ
added_exp l e g = e +ℤ pos (down_by l (g -ℤ e))
