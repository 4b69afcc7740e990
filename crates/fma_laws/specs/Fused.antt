-- x times y plus z as a count of steps, a sign and an exponent, where z has room to be shifted left by l bits. Assumes nothing.
use Rattle.std.specs.Prelude.{ℕ, ◌*◌, Bool, cond, eqb, ℤ, pos, negsuc, ◌+ℤ◌, ◌-ℤ◌}
use Rattle.ieee.specs.Format.{Format, low}
use Rattle.ieee.specs.Pattern.{minus, magnitude, signed}
use Rattle.ieee.specs.Round.{Attribute, answer}
use Rattle.ieee.specs.Scalbn.{scaled}
use Rattle.ieee.specs.Flags.{Flags, none, raised}
use Rattle.ieee.specs.Fma.{fma_in, fma_flags_in, zero_sum, product_sign}
use Rattle.round_step.specs.Outcome.{outcome}
use Rattle.fmt_decode.specs.Significand.{sig_of, exp_of}
use Rattle.fma_laws.specs.Aligned.{added_steps, added_sign, added_exp}

-- the significands, doubled: the one that loses no bit is then an even count of steps, and only a marked sum can be odd
abbrev pub product_sig : Format → ℕ → ℕ → ℕ
product_sig f x y = 2 * (sig_of f x * sig_of f y)

abbrev pub product_exp : Format → ℕ → ℕ → ℤ
product_exp f x y = exp_of f x +ℤ exp_of f y

abbrev pub third_sig : Format → ℕ → ℕ
third_sig f z = 2 * sig_of f z

-- a zero has no steps, and an exponent that is below every product's: nothing is added, and nothing is shifted out
abbrev pub lowest : ℤ
lowest = negsuc 262143

abbrev pub third_sig_of : Format → ℕ → ℕ
third_sig_of f z = cond (eqb (magnitude f z) 0) 0 (third_sig f z)

abbrev pub third_exp_of : Format → ℕ → ℤ
third_exp_of f z = cond (eqb (magnitude f z) 0) lowest (exp_of f z)

-- how far z is above the product
abbrev pub above_by : Format → ℕ → ℕ → ℕ → ℤ
above_by f x y z = exp_of f z -ℤ product_exp f x y

-- the sum of both, where z is not a zero
abbrev pub fused_steps : Format → ℕ → ℕ → ℕ → ℕ → ℕ
fused_steps f l x y z = added_steps l (product_sig f x y) (product_exp f x y) (product_sign f x y) (third_sig f z) (exp_of f z) (minus f z)

abbrev pub fused_sign : Format → ℕ → ℕ → ℕ → ℕ → Bool
fused_sign f l x y z = added_sign l (product_sig f x y) (product_exp f x y) (product_sign f x y) (third_sig f z) (exp_of f z) (minus f z)

-- the exponent of a step, in smallest units of 2 ^ -low; less one, for the factor two
abbrev pub fused_exp : Format → ℕ → ℕ → ℕ → ℕ → ℤ
fused_exp f l x y z = added_exp l (product_exp f x y) (exp_of f z) +ℤ pos (low f) -ℤ pos 1

-- the zero of a sum of terms that cancel: -0 when rounding toward negative, otherwise +0
abbrev pub zero_in : Format → Attribute → ℕ
zero_in f a = signed f (zero_sum a) 0

-- a sum rounded once, where a sum of no steps is that zero
unfoldable pub rounded_sum : Format → Attribute → Bool → ℕ → ℤ → ℕ × Flags
unfolding answer raised
rounded_sum f a s n e = cond (eqb n 0) (zero_in f a, none) (outcome f a s (scaled s n (e +ℤ pos (low f) -ℤ pos 1)))

-- what it is to be: the value and the flags of x times y plus z
abbrev pub fma_gives : Format → Attribute → ℕ → ℕ → ℕ → ℕ × Flags
fma_gives f a x y z = (fma_in f a x y z, fma_flags_in f a x y z)
