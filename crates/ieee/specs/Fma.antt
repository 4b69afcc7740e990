-- Fused multiply-add, x times y plus z: IEEE 754-2019, fusedMultiplyAdd, clauses 5.4.1, 6.1, 6.3 and 7.2. Assumes nothing.
use Rattle.std.specs.Prelude.{ℕ, zero, suc, ◌*◌, ◌^◌, ◌≡◌, Bool, true, false, ◌||◌, cond, eqb, pos, ◌+ℤ◌, ◌*ℤ◌}
use Rattle.ieee.specs.Format.{Format, low, inf, canonical}
use Rattle.ieee.specs.Pattern.{Kind, nan, infinite, finite, kind, minus, signed, unlike, with_sign, value}
use Rattle.ieee.specs.Exact.{Value, dyadic}
use Rattle.ieee.specs.Round.{Attribute, ties_to_even, ties_to_away, toward_zero, toward_positive, toward_negative, answer}
use Rattle.ieee.specs.Flags.{Flags, none, only_invalid, signals, raised}

-- infinity times a number of units: NaN for zero, otherwise infinity
abbrev pub infinity_times : ℕ → Kind
infinity_times zero = nan
infinity_times (suc u) = infinite

-- the product, in 2 ^ -low of the smallest unit
abbrev pub times : Kind → Kind → Kind
times nan l = nan
times infinite nan = nan
times infinite infinite = infinite
times infinite (finite v) = infinity_times v
times (finite u) nan = nan
times (finite u) infinite = infinity_times u
times (finite u) (finite v) = finite (u * v)

-- the exact sum of a product and z, each with its sign
abbrev pub sum_of : Format → Bool → ℕ → Bool → ℕ → Value
sum_of f s p t w = dyadic (with_sign s p +ℤ with_sign t (w * 2 ^ low f)) (low f)

-- the sign of a zero sum of unlike signs: minus only when rounding toward negative
abbrev pub zero_sum : Attribute → Bool
zero_sum ties_to_even = false
zero_sum ties_to_away = false
zero_sum toward_zero = false
zero_sum toward_positive = false
zero_sum toward_negative = true

-- and of any zero sum of terms with the signs s and t
abbrev pub sum_sign : Attribute → Bool → Bool → Bool
sum_sign a s t = cond (unlike s t) (zero_sum a) s

-- by the signs and the kinds of the product and of z
unfoldable pub plus_by : Format → Attribute → Bool → Kind → Bool → Kind → ℕ
unfolding answer
plus_by f a s nan t l = canonical f
plus_by f a s infinite t nan = canonical f
plus_by f a s infinite t infinite = cond (unlike s t) (canonical f) (signed f s (inf f))
plus_by f a s infinite t (finite w) = signed f s (inf f)
plus_by f a s (finite p) t nan = canonical f
plus_by f a s (finite p) t infinite = signed f t (inf f)
plus_by f a s (finite p) t (finite w) = answer f a (sum_sign a s t) (sum_of f s p t w)

unfoldable pub fma_in : Format → Attribute → ℕ → ℕ → ℕ → ℕ
unfolding plus_by kind
fma_in f a x y z = plus_by f a (unlike (minus f x) (minus f y)) (times (kind f x) (kind f y)) (minus f z) (kind f z)

unfoldable pub fma_of : Format → ℕ → ℕ → ℕ → ℕ
unfolding fma_in
fma_of f x y z = fma_in f ties_to_even x y z

-- ---- the flags (clause 7.2)
-- zero meets infinity; that is invalid also where z is a quiet NaN
abbrev pub clashes : Kind → Kind → Bool
clashes nan l = false
clashes infinite nan = false
clashes infinite infinite = false
clashes infinite (finite v) = eqb v 0
clashes (finite u) nan = false
clashes (finite u) infinite = eqb u 0
clashes (finite u) (finite v) = false

-- an operand signals
abbrev pub signalled : Format → ℕ → ℕ → ℕ → Bool
signalled f x y z = signals f x || signals f y || signals f z

-- by the signs and the kinds of the product and of z, where no operand signals and the product does not clash
unfoldable pub plus_flags_by : Format → Attribute → Bool → Kind → Bool → Kind → Flags
unfolding raised
plus_flags_by f a s nan t l = none
plus_flags_by f a s infinite t nan = none
plus_flags_by f a s infinite t infinite = cond (unlike s t) only_invalid none
plus_flags_by f a s infinite t (finite w) = none
plus_flags_by f a s (finite p) t nan = none
plus_flags_by f a s (finite p) t infinite = none
plus_flags_by f a s (finite p) t (finite w) = raised f a (sum_sign a s t) (sum_of f s p t w)

unfoldable pub fma_flags_in : Format → Attribute → ℕ → ℕ → ℕ → Flags
unfolding plus_flags_by kind
fma_flags_in f a x y z =
    cond (signalled f x y z || clashes (kind f x) (kind f y)) only_invalid
    (plus_flags_by f a (unlike (minus f x) (minus f y)) (times (kind f x) (kind f y)) (minus f z) (kind f z))

unfoldable pub fma_flags : Format → ℕ → ℕ → ℕ → Flags
unfolding fma_flags_in
fma_flags f x y z = fma_flags_in f ties_to_even x y z

-- ---- what the answer to finite operands is held to
-- x y + z, exactly, in smallest units
abbrev pub exact_fma : Format → ℕ → ℕ → ℕ → Value
exact_fma f x y z = dyadic (value f x *ℤ value f y +ℤ value f z *ℤ pos (2 ^ low f)) (low f)

-- the sign of a zero: the attribute's where the product and z have unlike signs, otherwise theirs
abbrev pub zero_sign : Format → Attribute → ℕ → ℕ → ℕ → Bool
zero_sign f a x y z = cond (unlike (unlike (minus f x) (minus f y)) (minus f z)) (zero_sum a) (unlike (minus f x) (minus f y))

-- ---- the rows of infinite products
-- the product is infinite: an infinity times an infinity, or times a number that is not zero
pub data InfiniteProduct (f : Format) (x y : ℕ) : Type 0 where
  of_both : kind f x ≡ infinite → kind f y ≡ infinite → InfiniteProduct f x y
  of_first : {v : ℕ} → kind f x ≡ infinite → kind f y ≡ finite (suc v) → InfiniteProduct f x y
  of_second : {u : ℕ} → kind f x ≡ finite (suc u) → kind f y ≡ infinite → InfiniteProduct f x y

-- the sign of a product, and whether z has another
abbrev pub product_sign : Format → ℕ → ℕ → Bool
product_sign f x y = unlike (minus f x) (minus f y)

abbrev pub against : Format → ℕ → ℕ → ℕ → Bool
against f x y z = unlike (product_sign f x y) (minus f z)
