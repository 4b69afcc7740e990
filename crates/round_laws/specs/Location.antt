-- Rounding in two steps: locate finds the lower neighbour and the location, and choose takes that neighbour or the next. Assumes nothing.
use Rattle.std.specs.Prelude.{ℕ, suc, ◌+◌, ◌-◌, ◌*◌, ◌%◌, ◌^◌, Bool, ◌&&◌, cond, leb, ltb, eqb, ℤ, pos, negsuc}
use Rattle.ieee.specs.Format.{Format, inf, units}
use Rattle.ieee.specs.Exact.{Exact, ratio, over, under, magnified}
use Rattle.ieee.specs.Round.{Way, even, away, shorter, longer, middle, rounded}

-- the greatest finite magnitude not above x
unfoldable pub below : Format → Exact → ℕ
unfolding rounded
below f x = rounded f shorter x

-- where x lies from the magnitude m up: 0 at m, 1 before the middle between m and the next, 2 at the middle, 3 past it
abbrev pub location_above : Format → ℕ → Exact → ℕ
location_above f m x = cond (under x (2 * units f m)) 0 (cond (over x (middle f m)) (cond (under x (middle f m)) 2 3) 1)

unfoldable pub location : Format → Exact → ℕ
unfolding below
location f x = location_above f (below f x) x

-- what the flags turn at besides: three quarters of the way from m to the next or more, which is one test of twice x; and the next or more, where there is none between m and infinity
abbrev pub high_above : Format → ℕ → Exact → Bool
high_above f m x = over (magnified x 2) (units f m + 3 * units f (suc m))

abbrev pub beyond_above : Format → ℕ → Exact → Bool
beyond_above f m x = over x (2 * units f (suc m))

unfoldable pub high : Format → Exact → Bool
unfolding below
high f x = high_above f (below f x) x

unfoldable pub beyond : Format → Exact → Bool
unfolding below
beyond f x = beyond_above f (below f x) x

-- m is normal, and below the numbers of the last exponent field: a value from m up to the next number can raise nothing but inexact
abbrev pub inside_at : Format → ℕ → Bool
inside_at f m = leb (2 ^ f.frac) m && ltb m (inf f - 2 ^ f.frac)

-- which of m and the next a way takes, by the location p
abbrev pub chosen : Way → ℕ → ℕ → ℕ
chosen even m p = m + cond (ltb 2 (p + m % 2)) 1 0
chosen away m p = m + cond (leb 2 p) 1 0
chosen shorter m p = m
chosen longer m p = m + cond (eqb p 0) 0 1

-- the location of r between 0 and d
abbrev pub part : ℕ → ℕ → ℕ
part r d = cond (eqb r 0) 0 (cond (leb d (2 * r)) (cond (leb (2 * r) d) 2 3) 1)

-- and whether it is at least three quarters of d
abbrev pub high_part : ℕ → ℕ → Bool
high_part r d = leb (3 * d) (4 * r)

-- u times 2 ^ n, exactly
abbrev pub stretched : ℕ → ℤ → Exact
stretched u (pos n) = ratio (u * 2 ^ n) 1
stretched u (negsuc n) = ratio u (2 ^ suc n)
