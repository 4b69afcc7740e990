-- The order of values is that of ranks, in which no number is left out: the sign bit plus the magnitude, or less it below zero. Assumes nothing.
use Prim.Native.Nat.{ℕ, suc, ◌+◌, ◌-◌, ◌≤◌, ◌<◌}
use mathlib.Core.Path.{◌≡◌, refl, sym, ap₂, subst}
use mathlib.Core.Logic.{◌↔◌}
use mathlib.Core.Bool.{Bool, true, false}
use native.Mathlib.Nat.{mod-lt}
use native.Mathlib.Omega.{arith, by_contra, both_ways}
use lib.Dec.{T, leb}
use lib.IntN.{ℤ, pos, neg_ℤ}
use lib.Pow.{pow_pos}
use lib.Signed.{le_z, ◌≤ℤ◌, ◌<ℤ◌, ≤ℤ_refl}
use Rattle.algebra.proofs.Integers.{neg_z, eq_z, le_z_fact, le_z_of, lt_z_fact, lt_z_of}
use Rattle.ieee.specs.Format.{Format, top, units}
use Rattle.ieee.specs.Pattern.{minus, magnitude, signed, with_sign, value}
use Rattle.ieee.proofs.Units.{units_zero, units_mono, units_le_inv}
use Rattle.ieee.proofs.Decide.{Reads, so, not_so, alike, leb_reads}
use Rattle.ieee.proofs.Patterns.{magnitude_signed, minus_signed, value_is}
use Rattle.ieee.proofs.Signs.{value_tells}

abbrev pub rank_of : Format → Bool → ℕ → ℕ
rank_of f false m = top f + m
rank_of f true m = top f - m

abbrev pub rank : Format → ℕ → ℕ
rank f x = rank_of f (minus f x) (magnitude f x)

le_z_reads : (a b : ℤ) → Reads (a ≤ℤ b) (le_z a b)
le_z_reads a b = go (le_z a b) refl
  where
    go : (t : Bool) → le_z a b ≡ t → Reads (a ≤ℤ b) t
    go true e = so (record { le = subst T (sym e) tt })
    go false e = not_so (λ h. subst T e h.le)

module _ (f : Format) where
  pub magnitude_small : (x : ℕ) → magnitude f x < top f
  magnitude_small x = mod-lt x (pow_pos (f.frac + f.expo))

  -- ---- signed units are in the order of the ranks
  ranks_ordered : (s t : Bool) (m n : ℕ) → m < top f → n < top f → with_sign s (units f m) ≤ℤ with_sign t (units f n) → rank_of f s m ≤ rank_of f t n
  ranks_ordered false false m n h l o = omega (arith, units_le_inv f m n (omega (arith, le_z_fact (pos (units f m)) (pos (units f n)) o.le)))
  ranks_ordered false true m n h l o =
      let k = le_z_fact (pos (units f m)) (neg_ℤ (pos (units f n))) o.le in
      let z = units_zero f in
      let a = units_le_inv f m 0 (omega (arith, neg_z (pos (units f n)))) in
      let b = units_le_inv f n 0 (omega (arith, neg_z (pos (units f n)))) in
      omega arith
  ranks_ordered true false m n h l o = omega arith
  ranks_ordered true true m n h l o =
      let k = le_z_fact (neg_ℤ (pos (units f m))) (neg_ℤ (pos (units f n))) o.le in
      omega (arith, units_le_inv f n m (omega (arith, neg_z (pos (units f m)), neg_z (pos (units f n)))))

  units_ordered : (s t : Bool) (m n : ℕ) → m < top f → n < top f → rank_of f s m ≤ rank_of f t n → with_sign s (units f m) ≤ℤ with_sign t (units f n)
  units_ordered false false m n h l o = record { le = le_z_of (pos (units f m)) (pos (units f n)) (omega (arith, units_mono f {i = m} {j = n} (omega arith))) }
  units_ordered false true m n h l o =
      let a : units f m ≤ 0 = omega (arith, units_mono f {i = m} {j = 0} (omega arith), units_zero f) in
      let b : units f n ≤ 0 = omega (arith, units_mono f {i = n} {j = 0} (omega arith), units_zero f) in
      record { le = le_z_of (pos (units f m)) (neg_ℤ (pos (units f n))) (omega (arith, neg_z (pos (units f n)))) }
  units_ordered true false m n h l o = record { le = le_z_of (neg_ℤ (pos (units f m))) (pos (units f n)) (omega (arith, neg_z (pos (units f m)))) }
  units_ordered true true m n h l o =
      record { le = le_z_of (neg_ℤ (pos (units f m))) (neg_ℤ (pos (units f n))) (omega (arith, neg_z (pos (units f m)), neg_z (pos (units f n)), units_mono f {i = n} {j = m} (omega arith))) }

  -- ---- values
  pub rank_le : (x y : ℕ) → (value f x ≤ℤ value f y) ↔ (rank f x ≤ rank f y)
  rank_le x y =
      rw (value_is f x, value_is f y) (
        ranks_ordered (minus f x) (minus f y) (magnitude f x) (magnitude f y) (magnitude_small x) (magnitude_small y),
        units_ordered (minus f x) (minus f y) (magnitude f x) (magnitude f y) (magnitude_small x) (magnitude_small y),
      )

  pub rank_lt : (x y : ℕ) → (value f x <ℤ value f y) ↔ (rank f x < rank f y)
  rank_lt x y = (
    λ h. by_contra (suc (rank f x)) (rank f y) (λ l. omega (arith, lt_z_fact (value f x) (value f y) h.lt, le_z_fact (value f y) (value f x) ((rank_le y x).1 (omega arith)).le)),
    λ h. record { lt = lt_z_of (value f x) (value f y) (by_contra _ _ (λ l. omega (arith, (rank_le y x).0 (record { le = le_z_of (value f y) (value f x) (omega arith) })))) },
  )

  pub rank_eq : (x y : ℕ) → (value f x ≡ value f y) ↔ (rank f x ≡ rank f y)
  rank_eq x y =
      let le : (a b : ℕ) → rank f a ≤ rank f b → T (le_z (value f a) (value f b)) = λ a b l. ((rank_le a b).1 l).le in (
        λ e. both_ways (rank f x) (rank f y) ((rank_le x y).0 (subst (λ v. value f x ≤ℤ v) e (≤ℤ_refl (value f x)))) ((rank_le y x).0 (subst (λ v. v ≤ℤ value f x) e (≤ℤ_refl (value f x)))),
        λ e. eq_z (value f x) (value f y) (omega (arith, le_z_fact (value f x) (value f y) (le x y (omega arith)), le_z_fact (value f y) (value f x) (le y x (omega arith)))),
      )

  pub le_z_rank : (x y : ℕ) → le_z (value f x) (value f y) ≡ leb (rank f x) (rank f y)
  le_z_rank x y = alike (le_z_reads (value f x) (value f y)) (leb_reads (rank f x) (rank f y)) (rank_le x y)

  pub rank_tells : (x y : ℕ) → rank f x ≡ rank f y → (magnitude f x ≡ magnitude f y) × (0 < magnitude f x → minus f x ≡ minus f y)
  rank_tells x y e = value_tells f x y ((rank_eq x y).1 e)

  pub rank_signed : (s : Bool) (m : ℕ) → m < top f → rank f (signed f s m) ≡ rank_of f s m
  rank_signed s m l = ap₂ (rank_of f) (minus_signed f s m l) (magnitude_signed f s m l)
