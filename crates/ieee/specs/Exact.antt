-- Exact values in smallest units, before rounding. Assumes nothing.
use Rattle.std.specs.Prelude.{ℕ, zero, suc, ◌*◌, ◌^◌, ◌≤◌, Bool, true, false, leb, ℤ, pos, negsuc, nat_abs}

-- the exact value of an operation: a signed whole number over a power of two, or the root of a whole number, given by its square
pub data Value : Type 0 where
  dyadic : ℤ → ℕ → Value
  surd : ℕ → Value

-- its sign; s is the sign of a zero
abbrev pub sign_of : Bool → Value → Bool
sign_of s (dyadic (pos zero) k) = s
sign_of s (dyadic (pos (suc n)) k) = false
sign_of s (dyadic (negsuc n) k) = true
sign_of s (surd zero) = s
sign_of s (surd (suc n)) = false

-- an exact magnitude: a ratio of whole numbers, or the root of a whole number
pub data Exact : Type 0 where
  ratio : ℕ → ℕ → Exact
  root : ℕ → Exact

abbrev pub absolute : Value → Exact
absolute (dyadic z k) = ratio (nat_abs z) (2 ^ k)
absolute (surd n) = root n

-- all that rounding needs of an exact magnitude: how twice it compares with a whole number s; a root compares squares
abbrev pub Over : Exact → ℕ → Type 0
Over (ratio n d) s = s * d ≤ 2 * n
Over (root n) s = s * s ≤ 4 * n

abbrev pub Under : Exact → ℕ → Type 0
Under (ratio n d) s = 2 * n ≤ s * d
Under (root n) s = 4 * n ≤ s * s

-- the same, as tests
abbrev pub over : Exact → ℕ → Bool
over (ratio n d) s = leb (s * d) (2 * n)
over (root n) s = leb (s * s) (4 * n)

abbrev pub under : Exact → ℕ → Bool
under (ratio n d) s = leb (2 * n) (s * d)
under (root n) s = leb (4 * n) (s * s)

-- an exact magnitude times p
abbrev pub magnified : Exact → ℕ → Exact
magnified (ratio n d) p = ratio (n * p) d
magnified (root n) p = root (n * (p * p))
