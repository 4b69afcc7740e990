-- Our definitions agree with the toolchain's account of IEEE 754, at each of its two formats: the statements. Assumes nothing.
--
-- Its NaN has no payload, it rounds only to the nearest even, and it has no flags: nothing is said of payloads, other attributes and flags.
use Rattle.std.specs.Prelude.{ℕ, suc, ◌+◌, ◌*◌, ◌%◌, ◌^◌, ◌<◌, ◌≡◌, ◌↔◌, Bool, true, false, T, ℤ, pos, nat_abs, ◌<ℤ◌, Float}
use Rattle.std.specs.Float.{nan as their-nan, inf as their-inf, fin, Format as Theirs}
use Rattle.std.specs.Float.Ieee.{round, add, sub, mul, div, rem, lt, le, eq, of_int, to_unsigned, to_signed, of_bits, to_bits}
use Rattle.ieee.specs.Format.{low, inf, canonical}
use Rattle.ieee.specs.Rule.{to_even, Nearest}
use Rattle.ieee.specs.Pattern.{Pattern, minus, magnitude, signed, unlike, nan, finite, kind, with_sign, value}
use Rattle.ieee.specs.Exact.{ratio, dyadic, sign_of}
use Rattle.ieee.specs.Round.{even, ties_to_even, rounded, answer}
use Rattle.ieee.specs.Fma.{fma_of}
use Rattle.ieee.specs.Fmod.{fmod_of}
use Rattle.ieee.specs.Remquo.{remquo_of, quotient_of}
use Rattle.ieee.specs.Scalbn.{scalbn_of}
use Rattle.ieee.specs.Sqrt.{sqrt_of}
use Rattle.ieee.specs.Whole.{trunc_of, floor_of}
use Rattle.ieee_agreement_laws.specs.Toolchain.{ours, on, Same, minus_zero, one_of, negated, product, power, part, truncated, floored, nearest_to, remainder, AtMostRoot, AtLeastRoot, RootRounds}

-- ---- what patterns stand for
pub record Patterns (k : Theirs) : Type 0 where
  -- the same kind; the same sign, except for NaNs; for a number the same value
  pub reads : (x : ℕ) → Same (low (ours k)) (of_bits k x) (minus (ours k) x) (kind (ours k) x)
  -- their NaN is written as the canonical one and their infinities as ours; every pattern but a NaN's is written as it was read
  pub nan_written : to_bits k their-nan ≡ canonical (ours k)
  pub infinity_written : (s : Bool) → to_bits k (their-inf s) ≡ signed (ours k) s (inf (ours k))
  pub written_back : (x : ℕ) → Pattern (ours k) x → (kind (ours k) x ≡ nan → ⊥) → to_bits k (of_bits k x) ≡ x
  -- numbers compare as their values do; `le` and `ne` are made of these two
  pub less : (x y u v : ℕ) → kind (ours k) x ≡ finite u → kind (ours k) y ≡ finite v → T (lt (of_bits k x) (of_bits k y)) ↔ (value (ours k) x <ℤ value (ours k) y)
  pub equal : (x y u v : ℕ) → kind (ours k) x ≡ finite u → kind (ours k) y ≡ finite v → T (eq (of_bits k x) (of_bits k y)) ↔ (value (ours k) x ≡ value (ours k) y)

-- ---- rounding to the nearest even: subnormal results, ties and overflow included
pub record Rounding (k : Theirs) : Type 0 where
  -- every fraction with a sign gives the same pattern; num / den is num 2 ^ low / den units
  pub rounds : (s : Bool) (num den : ℕ) → 0 < den → to_bits k (round k s num den) ≡ signed (ours k) s (rounded (ours k) even (ratio (num * 2 ^ low (ours k)) den))
  -- so their rounding meets our rule: no finite magnitude is nearer, a tie is even, infinity exactly from the halfway point on
  pub nearest : (s : Bool) (num den : ℕ) → 0 < den → Nearest (ours k) to_even (ratio (num * 2 ^ low (ours k)) den) (magnitude (ours k) (to_bits k (round k s num den)))
  -- our answer for every exact value z / 2 ^ c units, with s the sign of a zero, is their rounding
  pub answers : (s : Bool) (z : ℤ) (c : ℕ) → to_bits k (round k (sign_of s (dyadic z c)) (nat_abs z) (2 ^ (c + low (ours k)))) ≡ answer (ours k) ties_to_even s (dyadic z c)

-- ---- their operations, on all patterns with NaNs, infinities and zeros, except division
pub record Operations (k : Theirs) : Type 0 where
  -- our fma is their sum of the exact product and z; that product is theirs before rounding, since adding -0 rounds a value and changes nothing else
  pub product_rounds : (v w : Float) → mul k v w ≡ add k (product v w) (fin true 0 (pos 0))
  pub fma : (x y z : ℕ) → to_bits k (add k (product (of_bits k x) (of_bits k y)) (of_bits k z)) ≡ fma_of (ours k) x y z
  pub times : (x y : ℕ) → on mul k x y ≡ fma_of (ours k) x y (minus_zero (ours k))
  pub plus : (x y : ℕ) → on add k x y ≡ fma_of (ours k) x (one_of (ours k)) y
  pub difference : (x y : ℕ) → on sub k x y ≡ fma_of (ours k) x (one_of (ours k)) (negated (ours k) y)
  -- we have no division: of numbers, theirs is our rounding of the exact quotient, u 2 ^ low / v units
  pub division : (x y u v : ℕ) → kind (ours k) x ≡ finite u → kind (ours k) y ≡ finite (suc v)
      → on div k x y ≡ signed (ours k) (unlike (minus (ours k) x) (minus (ours k) y)) (rounded (ours k) even (ratio (u * 2 ^ low (ours k)) (suc v)))
  pub fmod : (x y : ℕ) → Pattern (ours k) x → on rem k x y ≡ fmod_of (ours k) x y
  pub scalbn : (x : ℕ) (n : ℤ) → Pattern (ours k) x → to_bits k (mul k (of_bits k x) (power n)) ≡ scalbn_of (ours k) x n

-- ---- operations that they lack, made of their parts; the rows of NaNs and infinities are ours, except remquo's, which are their remainder's
pub record Derived (k : Theirs) : Type 0 where
  pub trunc : (x : ℕ) → Pattern (ours k) x → to_bits k (truncated k (of_bits k x)) ≡ trunc_of (ours k) x
  pub floor : (x : ℕ) → Pattern (ours k) x → to_bits k (floored k (of_bits k x)) ≡ floor_of (ours k) x
  -- trunc is also a cast to an integer of h bits, with a sign or without, and back, for a number in range, where the sign of a zero is not lost
  pub signed_cast : (x : ℕ) (s : Bool) (m : ℕ) (e : ℤ) → of_bits k x ≡ fin s m e → (h : ℕ) → part m e < 2 ^ h → (s ≡ true → 0 < part m e) → to_bits k (of_int k (to_signed h (of_bits k x))) ≡ trunc_of (ours k) x
  pub unsigned_cast : (x m : ℕ) (e : ℤ) → of_bits k x ≡ fin false m e → (h : ℕ) → part m e < 2 ^ h → to_bits k (of_int k (pos (to_unsigned h (of_bits k x)))) ≡ trunc_of (ours k) x
  -- remquo: all patterns; the quotient of two numbers
  pub remquo : (x y : ℕ) → Pattern (ours k) x → on remainder k x y ≡ remquo_of (ours k) x y
  pub quotient : (x y : ℕ) (s t : Bool) (m n : ℕ) (e d : ℤ) → of_bits k x ≡ fin s m e → of_bits k y ≡ fin t n d → 0 < n
      → quotient_of (ours k) x y ≡ with_sign (unlike s t) (nearest_to m e n d % 2 ^ 31)
  -- sqrt of a number without a sign: some fraction at most the root and some fraction at least the root both round to our answer, and to no other pattern do both
  pub root : (x m : ℕ) (e : ℤ) → of_bits k x ≡ fin false m e → RootRounds k m e (sqrt_of (ours k) x)
  pub root_only : (x m : ℕ) (e : ℤ) → of_bits k x ≡ fin false m e → (r : ℕ) → RootRounds k m e r → r ≡ sqrt_of (ours k) x
  -- so, in their order, every fraction at most the root rounds to at most our answer, and every one at least the root to at least our answer
  pub root_least : (x m : ℕ) (e : ℤ) → of_bits k x ≡ fin false m e → (a c : ℕ) → 0 < c → AtMostRoot m e a c → T (le (round k false a c) (of_bits k (sqrt_of (ours k) x)))
  pub root_most : (x m : ℕ) (e : ℤ) → of_bits k x ≡ fin false m e → (a c : ℕ) → 0 < c → AtLeastRoot m e a c → T (le (of_bits k (sqrt_of (ours k) x)) (round k false a c))

pub record Agrees (k : Theirs) : Type 0 where
  pub patterns : Patterns k
  pub rounding : Rounding k
  pub operations : Operations k
  pub derived : Derived k
