-- The toolchain's account of IEEE 754, `lib.Ieee`, which defines f32 and f64, and what is needed to compare ours with it. Assumes nothing.
--
-- A value of theirs is a NaN, without sign or payload, an infinity, or `fin s m e`: the number m 2 ^ e with the sign s, where 2 ^ e is the fraction up e / down e.
use Rattle.std.specs.Prelude.{ℕ, ◌+◌, ◌*◌, ◌/◌, ◌%◌, ◌^◌, ◌≤◌, ◌<◌, ◌≡◌, Bool, true, false, not, ◌&&◌, cond, eqb, ℤ, pos, ◌+ℤ◌, Float}
use Rattle.std.specs.Float.{nan as their-nan, inf as their-inf, fin, Format as Theirs, binary32, binary64}
use Rattle.std.specs.Float.Ieee.{up, down, round, add, of_bits, to_bits}
use Rattle.std.specs.Float.Ieee.Nearest.{closest}
use Rattle.ieee.specs.Format.{Format, b32, b64, bias}
use Rattle.ieee.specs.Pattern.{minus, magnitude, signed, unlike, Kind, nan, infinite, finite}

-- their formats are two, and these are the same
abbrev pub ours : Theirs → Format
ours binary32 = b32
ours binary64 = b64

-- an operation of theirs on patterns: both are read, and the answer is written
abbrev pub on : (Theirs → Float → Float → Float) → Theirs → ℕ → ℕ → ℕ
on op k x y = to_bits k (op k (of_bits k x) (of_bits k y))

-- a value of theirs is the same as a sign and a kind of ours; for a number, m 2 ^ e = u / 2 ^ l, in units of 2 ^ -l
pub data Same (l : ℕ) : Float → Bool → Kind → Type 0 where
  nans : (s : Bool) → Same l their-nan s nan
  infinities : (s : Bool) → Same l (their-inf s) s infinite
  numbers : (s : Bool) (m : ℕ) (e : ℤ) (u : ℕ) → m * up e * 2 ^ l ≡ u * down e → Same l (fin s m e) s (finite u)

-- ---- patterns of ours
abbrev pub minus_zero : Format → ℕ
minus_zero f = signed f true 0

abbrev pub one_of : Format → ℕ
one_of f = bias f * 2 ^ f.frac

-- x with the other sign
abbrev pub negated : Format → ℕ → ℕ
negated f x = signed f (not (minus f x)) (magnitude f x)

-- ---- operations that they lack, made of their parts
-- the exact product, whether or not a format holds it: their sum takes any value, so its sum with z is an fma
abbrev pub product : Float → Float → Float
product their-nan w = their-nan
product (their-inf s) their-nan = their-nan
product (their-inf s) (their-inf t) = their-inf (unlike s t)
product (their-inf s) (fin t n d) = cond (eqb n 0) their-nan (their-inf (unlike s t))
product (fin s m e) their-nan = their-nan
product (fin s m e) (their-inf t) = cond (eqb m 0) their-nan (their-inf (unlike s t))
product (fin s m e) (fin t n d) = fin (unlike s t) (m * n) (e +ℤ d)

-- 2 ^ n, whether or not a format holds it
abbrev pub power : ℤ → Float
power n = fin false 1 n

-- the whole part of m 2 ^ e
abbrev pub part : ℕ → ℤ → ℕ
part m e = m * up e / down e

abbrev pub truncated : Theirs → Float → Float
truncated k their-nan = their-nan
truncated k (their-inf s) = their-inf s
truncated k (fin s m e) = round k s (part m e) 1

-- the whole part, and one more where a negative number is not whole
abbrev pub floored : Theirs → Float → Float
floored k their-nan = their-nan
floored k (their-inf s) = their-inf s
floored k (fin s m e) = round k s (part m e + cond (s && not (eqb (m * up e % down e) 0)) 1 0) 1

-- the whole number nearest to m 2 ^ e over n 2 ^ d, ties to even, and whether it is that fraction exactly
abbrev pub nearest_to : ℕ → ℤ → ℕ → ℤ → ℕ
nearest_to m e n d = closest (m * up e * down d) (n * up d * down e)

abbrev pub divides : ℕ → ℤ → ℕ → ℤ → Bool
divides m e n d = eqb (m * up e * down d) (nearest_to m e n d * (n * up d * down e))

-- the rows of their remainder, with r for two numbers, the second not zero
abbrev pub divided : (Bool → ℕ → ℤ → ℕ → ℤ → Float) → Float → Float → Float
divided r their-nan w = their-nan
divided r (their-inf s) w = their-nan
divided r (fin s m e) their-nan = their-nan
divided r (fin s m e) (their-inf t) = fin s m e
divided r (fin s m e) (fin t n d) = cond (eqb n 0) their-nan (r s m e n d)

-- the remainder of m 2 ^ e by n 2 ^ d, to the nearest, with the sign s, which a zero has too
abbrev pub nearest_left : Theirs → Bool → ℕ → ℤ → ℕ → ℤ → Float
nearest_left k s m e n d = cond (divides m e n d) (fin s 0 (pos 0)) (add k (fin s m e) (fin (not s) (nearest_to m e n d * n) d))

abbrev pub remainder : Theirs → Float → Float → Float
remainder k v w = divided (nearest_left k) v w

-- ---- the root, which they lack too: by the fractions beside it
-- a / c is at most the root of m 2 ^ e, and at least; by squares
abbrev pub AtMostRoot : ℕ → ℤ → ℕ → ℕ → Type 0
AtMostRoot m e a c = a * a * down e ≤ m * up e * (c * c)

abbrev pub AtLeastRoot : ℕ → ℤ → ℕ → ℕ → Type 0
AtLeastRoot m e a c = m * up e * (c * c) ≤ a * a * down e

-- some fraction that meets S rounds to r
pub record SomeRounds (k : Theirs) (S : ℕ → ℕ → Type 0) (r : ℕ) : Type 0 where
  pub num : ℕ
  pub den : ℕ
  pub sound : 0 < den
  pub holds : S num den
  pub rounds : to_bits k (round k false num den) ≡ r

-- r is the root of m 2 ^ e, rounded: their rounding of a fraction at most the root, and of one at least the root
abbrev pub RootRounds : Theirs → ℕ → ℤ → ℕ → Type 0
RootRounds k m e r = SomeRounds k (AtMostRoot m e) r × SomeRounds k (AtLeastRoot m e) r
