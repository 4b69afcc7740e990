-- nextafter by signs and magnitudes, over the format. Assumes nothing.
use Rattle.std.proofs.Common.{◌≡◌, ℕ, zero, suc, ◌+◌, ◌-◌, ◌<◌, Bool, true, false, cond, refl, sym, ap, ◌∙◌, arith}
use native.Mathlib.Omega.{both_ways}
use Rattle.algebra.proofs.Products.{order}
use Rattle.ieee.specs.Format.{Format, top}
use Rattle.ieee.specs.Pattern.{minus, magnitude, signed}
use Rattle.ieee.specs.Nextafter.{next_up, next_down, nextafter_of}
use Rattle.ieee.specs.NextafterRule.{Ordered}
use Rattle.ieee.proofs.Decide.{Reads, holds, fails, leb_reads, beq_reads, and_reads}
use Rattle.ieee.proofs.Patterns.{inf_below_top, signed_is, same_pattern}
use Rattle.ieee.proofs.Ranks.{rank_of, rank}
use Rattle.ieee.proofs.Nexts.{next_same, next_up_lem, next_down_lem}
use Rattle.nextafter.specs.NextPattern.{outward, next_pattern}

module _ (f : Format) where
  outward_reads : (x y : ℕ) → Reads ((minus f x ≡ minus f y) × (magnitude f x < magnitude f y)) (outward f x y)
  outward_reads x y = and_reads (beq_reads (minus f x) (minus f y)) (leb_reads (suc (magnitude f x)) (magnitude f y))

  -- ---- r is next to the sign s and the magnitude m, toward t and n
  abbrev Follows : Bool → Bool → ℕ → ℕ → ℕ → Type 0
  Follows s t m n r = (rank_of f s m < rank_of f t n → r ≡ next_up f s m) × (rank_of f t n < rank_of f s m → r ≡ next_down f s m)

  follows_out : (s : Bool) (m n r : ℕ) → m < n → n < top f → Follows s s m n r → r ≡ signed f s m + 1
  follows_out false m n r l h (u, d) = u (omega arith) ∙ omega arith
  follows_out true m n r l h (u, d) = d (omega arith) ∙ omega arith

  follows_in : (s t : Bool) (m n r : ℕ) → 0 < m → m < top f → (s ≡ t → n < m) → Follows s t m n r → r ≡ signed f s m - 1
  follows_in s t zero n r l h g w = absurd (omega arith)
  follows_in false false (suc m) n r l h g (u, d) = d (omega (arith, g refl)) ∙ omega arith
  follows_in false true (suc m) n r l h g (u, d) = d (omega arith) ∙ omega arith
  follows_in true false (suc m) n r l h g (u, d) = u (omega arith) ∙ omega arith
  follows_in true true (suc m) n r l h g (u, d) = u (omega (arith, g refl)) ∙ omega arith

  -- from a zero, whose sign does not matter
  follows_zero : (s t : Bool) (n r : ℕ) → 0 < n → n < top f → Follows s t 0 n r → r ≡ signed f t 1
  follows_zero false false n r l h (u, d) = u (omega arith)
  follows_zero false true n r l h (u, d) = d (omega arith)
  follows_zero true false n r l h (u, d) = u (omega arith)
  follows_zero true true n r l h (u, d) = d (omega arith)

  zero_rank : (s : Bool) → rank_of f s 0 ≡ top f
  zero_rank false = omega arith
  zero_rank true = omega arith

  -- ---- nextafter
  module _ (x y : ℕ) (o : Ordered f x) (t : Ordered f y) where
    follows : Follows (minus f x) (minus f y) (magnitude f x) (magnitude f y) (nextafter_of f x y)
    follows = (next_up_lem f x y o t, next_down_lem f x y o t)

    pub next_of_equal : x ≡ y → nextafter_of f x y ≡ y
    next_of_equal e = next_same f x y o t (ap (rank f) e)

    pub next_of_zeros : magnitude f x ≡ 0 → magnitude f y ≡ 0 → nextafter_of f x y ≡ y
    next_of_zeros a b = next_same f x y o t (ap (rank_of f (minus f x)) a ∙ zero_rank (minus f x) ∙ sym (ap (rank_of f (minus f y)) b ∙ zero_rank (minus f y)))

    pub next_from_zero : magnitude f x ≡ 0 → 0 < magnitude f y → nextafter_of f x y ≡ signed f (minus f y) 1
    next_from_zero e l =
        follows_zero (minus f x) (minus f y) (magnitude f y) (nextafter_of f x y) l (omega (arith, t.not_nan, inf_below_top f))
        (rw e at follows)

    pub next_by_pattern : 0 < magnitude f x → (x ≡ y → ⊥) → nextafter_of f x y ≡ next_pattern f x y
    next_by_pattern p n = go (outward f x y) refl
      where
        strict : (outward f x y ≡ false) → minus f x ≡ minus f y → magnitude f y < magnitude f x
        strict e s =
            order (magnitude f x) (magnitude f y)
            (λ l. order (magnitude f y) (magnitude f x)
            (λ h. absurd (n (same_pattern f x y o.pattern t.pattern s (both_ways (magnitude f x) (magnitude f y) l h))))
            (λ h. absurd (fails (outward_reads x y) e (s, h))))
            (λ l. l)

        go : (b : Bool) → outward f x y ≡ b → nextafter_of f x y ≡ cond b (x + 1) (x - 1)
        go true e =
            let (s, l) = holds (outward_reads x y) e in
            follows_out (minus f x) (magnitude f x) (magnitude f y) (nextafter_of f x y) l (omega (arith, t.not_nan, inf_below_top f)) (rw (sym s) at follows)
            ∙ ap (λ m. m + 1) (signed_is f x o.pattern)
        go false e =
            follows_in (minus f x) (minus f y) (magnitude f x) (magnitude f y) (nextafter_of f x y) p (omega (arith, o.not_nan, inf_below_top f)) (strict e) follows
            ∙ ap (λ m. m - 1) (signed_is f x o.pattern)
