-- How an exact magnitude compares with whole numbers. Assumes nothing.
use Prim.Native.Nat.{ℕ, ◌*◌, ◌≤◌, ◌<◌}
use native.Mathlib.Nat.{mul-le-mul}
use native.Mathlib.Omega.{arith}
use Rattle.algebra.proofs.Products.{times_le, cross}
use Rattle.ieee.specs.Exact.{Exact, ratio, root, Over, Under, over, under}
use Rattle.ieee.proofs.Decide.{Reads, leb_reads}

-- a ratio has a denominator other than zero
abbrev pub Sound : Exact → Type 0
Sound (ratio n d) = 0 < d
Sound (root n) = Unit {0}

pub over_reads : (x : Exact) (s : ℕ) → Reads (Over x s) (over x s)
over_reads (ratio n d) s = leb_reads (s * d) (2 * n)
over_reads (root n) s = leb_reads (s * s) (4 * n)

pub under_reads : (x : Exact) (s : ℕ) → Reads (Under x s) (under x s)
under_reads (ratio n d) s = leb_reads (2 * n) (s * d)
under_reads (root n) s = leb_reads (4 * n) (s * s)

pub over_down : (x : Exact) {s t : ℕ} → s ≤ t → Over x t → Over x s
over_down (ratio n d) h o = omega (arith, times_le d h)
over_down (root n) h o = omega (arith, mul-le-mul h h)

pub under_up : (x : Exact) {s t : ℕ} → s ≤ t → Under x s → Under x t
under_up (ratio n d) h o = omega (arith, times_le d h)
under_up (root n) h o = omega (arith, mul-le-mul h h)

-- x is not below one number and above a greater
pub apart : (x : Exact) → Sound x → {s t : ℕ} → s < t → Under x s → Over x t → ⊥
apart (ratio n d) p h u o = omega (arith, cross h p)
apart (root n) p h u o = omega (arith, mul-le-mul h h)

pub under_not_over : (x : Exact) (s : ℕ) → (Over x s → ⊥) → Under x s
under_not_over (ratio n d) s h = omega arith
under_not_over (root n) s h = omega arith

pub over_not_under : (x : Exact) (s : ℕ) → (Under x s → ⊥) → Over x s
over_not_under (ratio n d) s h = omega arith
over_not_under (root n) s h = omega arith

pub over_zero : (x : Exact) → Over x (2 * 0)
over_zero (ratio n d) = omega arith
over_zero (root n) = omega arith
