-- The whole number nearest to a ratio, ties to even: `whole even` gives it, and it is unique. Assumes nothing.
use Prim.Native.Nat.{ℕ, zero, suc, ◌+◌, ◌*◌, ◌/◌, ◌%◌, ◌≤◌, ◌<◌}
use mathlib.Core.Path.{◌≡◌}
use mathlib.Core.Logic.{◌⊎◌, inl, inr}
use mathlib.Core.Bool.{Bool, cond}
use native.Mathlib.Omega.{arith, by_contra, both_ways}
use Rattle.algebra.proofs.Products.{times_le}
use Rattle.algebra.proofs.Quotients.{div_mod}
use Rattle.ieee.specs.Rule.{distance}
use Rattle.ieee.specs.Round.{even}
use Rattle.ieee.specs.Whole.{whole}
use Rattle.ieee.specs.RemquoRule.{NearestTo}
use Rattle.ieee.proofs.Decide.{Reads, so, not_so, leb_reads, eqb_reads, and_reads, or_reads}

pub whole_even_nearest : (u d : ℕ) → 0 < d → NearestTo u d (whole even u d)
whole_even_nearest u d p = go (or_reads (leb_reads _ _) (and_reads (eqb_reads _ _) (eqb_reads _ _)))
  where
    -- past the middle, or at the middle of an odd number and the next
    go : {b : Bool} → Reads ((d < 2 * (u % d)) ⊎ ((2 * (u % d) ≡ d) × (u / d % 2 ≡ 1))) b → NearestTo u d (u / d + cond b 1 0)
    go (so (inl h)) = omega (arith, div_mod u d p)
    go (so (inr h)) = omega (arith, div_mod u d p)
    go (not_so n) =
        let l : 2 * (u % d) ≤ d = by_contra (2 * (u % d)) d (λ h. n (inl h)) in
        record {
          half = omega (arith, div_mod u d p);
          tie = λ t. let o = by_contra (u / d % 2) 0 (λ o. n (inr (omega (arith, div_mod u d p)))) in omega arith;
        }

-- of two different ones, the greater is the next, and both are halfway
nearest_le : (u d m n : ℕ) → 0 < d → NearestTo u d m → NearestTo u d n → m ≤ n
nearest_le u d m n p a b = by_contra m n (λ l. clash l (next l))
  where
    next : n < m → m ≤ suc n
    next l = by_contra m (suc n) (λ k. omega (arith, times_le d k, a.half, b.half))

    clash : n < m → m ≤ suc n → ⊥
    clash l k = omega (arith, times_le d l, a.tie (omega (arith, times_le d l, a.half, b.half)), b.tie (omega (arith, times_le d l, a.half, b.half)))

pub nearest_whole_unique : (u d m n : ℕ) → 0 < d → NearestTo u d m → NearestTo u d n → m ≡ n
nearest_whole_unique u d m n p a b = both_ways m n (nearest_le u d m n p a b) (nearest_le u d n m p b a)

-- 0 is not nearer
pub nearest_within : (u d n : ℕ) → NearestTo u d n → distance u (n * d) ≤ u
nearest_within u d zero a = omega arith
nearest_within u d (suc n) a = omega (arith, a.half)
