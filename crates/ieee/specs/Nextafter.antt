-- The next number toward another: IEEE 754-2019, next_up and next_down, clause 5.3.1; ISO C, nextafter, 7.12.11.3 and F.10.8.3. Assumes nothing.
use Rattle.std.specs.Prelude.{ℕ, zero, suc, Bool, true, false, cond}
use Rattle.std.specs.Int.Signed.{le_z}
use Rattle.ieee.specs.Format.{Format, canonical}
use Rattle.ieee.specs.Pattern.{Kind, nan, infinite, finite, kind, minus, magnitude, signed, value}

-- the next number up, of a number below +infinity, and down, of one above -infinity: between two magnitudes that follow each other there is no number.
-- From either zero the step is to the least number; to a zero it keeps the sign.
abbrev pub next_up : Format → Bool → ℕ → ℕ
next_up f false m = signed f false (suc m)
next_up f true zero = signed f false 1
next_up f true (suc m) = signed f true m

abbrev pub next_down : Format → Bool → ℕ → ℕ
next_down f true m = signed f true (suc m)
next_down f false zero = signed f true 1
next_down f false (suc m) = signed f false m

-- y where the two are equal, as the zeros are; infinity's value is what the next number would be
unfoldable pub toward : Format → ℕ → ℕ → ℕ
unfolding value
toward f x y = cond (le_z (value f y) (value f x)) (cond (le_z (value f x) (value f y)) y (next_down f (minus f x) (magnitude f x))) (next_up f (minus f x) (magnitude f x))

-- n for a NaN, r for every other kind
abbrev pub unless_nan : ℕ → ℕ → Kind → ℕ
unless_nan n r nan = n
unless_nan n r infinite = r
unless_nan n r (finite u) = r

unfoldable pub nextafter_of : Format → ℕ → ℕ → ℕ
unfolding toward kind
nextafter_of f x y = unless_nan (canonical f) (unless_nan (canonical f) (toward f x y) (kind f y)) (kind f x)
