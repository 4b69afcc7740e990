-- Rounding to the nearest even by the lower neighbour and how twice the value compares with the middle: the toolchain's `nearest`, up to infinity. Assumes nothing.
use Prim.Native.Nat.{ℕ, zero, suc, ◌+◌, ◌*◌, ◌%◌, ◌≤◌, ◌<◌, compare, Ordering}
use mathlib.Core.Path.{◌≡◌, sym, ◌∙◌, subst}
use mathlib.Core.Bool.{not}
use native.Mathlib.Omega.{arith}
use lib.Dec.{T, is_le, compare_is_eq, eqb, leb→le, nleb→lt, eqb→eq, eqb_refl}
use lib.Arith.{lt_of_le-ne}
use lib.Ieee.{nearest}
use Rattle.algebra.proofs.Products.{order, times_le}
use Rattle.ieee.specs.Format.{Format, inf, units}
use Rattle.ieee.specs.Exact.{ratio}
use Rattle.ieee.specs.Round.{even, rounded, middle}
use Rattle.ieee.proofs.Units.{units_rise, units_mono}
use Rattle.ieee.proofs.Past.{Past, rounded_is}

-- ---- the meaning of `compare`
abbrev pub Cmp : Ordering → ℕ → ℕ → Type 0
Cmp Ordering.lt a b = a < b
Cmp Ordering.eq a b = a ≡ b
Cmp Ordering.gt a b = b < a

pub cmp : (a b : ℕ) → Cmp (compare a b) a b
cmp a b = go (compare a b) (leb→le a b) (nleb→lt a b) (eqb→eq a b) (λ (e : a ≡ b). subst (λ (x : ℕ). T (eqb a x)) e (eqb_refl a))
  where
    go : (o : Ordering) → (T (is_le o) → a ≤ b) → (T (not (is_le o)) → b < a) → (T (compare_is_eq o) → a ≡ b) → (a ≡ b → T (compare_is_eq o)) → Cmp o a b
    go Ordering.lt h k e n = lt_of_le-ne (h tt) n
    go Ordering.eq h k e n = e tt
    go Ordering.gt h k e n = k tt

module _ (f : Format) (n d : ℕ) (p : 0 < d) where
  -- the value is past every magnitude that it reaches, and past none above it
  reached : (j : ℕ) → j ≤ inf f → units f j * d ≤ n → Past f even (ratio n d) j
  reached zero l h = tt
  reached (suc i) l h = (l, (omega (arith, times_le d (units_rise f i)), λ u. absurd (omega (arith, times_le d (units_rise f i)))))

  beyond : (j : ℕ) → n < units f j * d → Past f even (ratio n d) (suc j) → ⊥
  beyond j h q = omega (arith, q.1.0, times_le d (units_rise f j))

  module _ (j : ℕ) (at : units f j * d ≤ n) (next : n < units f (suc j) * d) where
    answers : (m : ℕ) → Past f even (ratio n d) m → (Past f even (ratio n d) (suc m) → ⊥) → rounded f even (ratio n d) ≡ m
    answers m a b = rounded_is f even (ratio n d) p m a b

    pub chosen : (o : Ordering) → Cmp o (2 * n) (middle f j * d) → nearest j o ≤ inf f → rounded f even (ratio n d) ≡ nearest j o
    chosen Ordering.lt c l = answers j (reached j l at) (λ q. omega (arith, q.1.0))
    chosen Ordering.eq c l =
        order (j % 2) 0
        (λ z.
        let e : j + j % 2 ≡ j = omega arith in
        answers j (reached j (omega arith) at) (λ q. omega (arith, q.1.1 (omega arith))) ∙ sym e)
        (λ z.
        let e : j + j % 2 ≡ suc j = omega arith in
        answers (suc j) (omega arith, (omega arith, λ u. omega arith)) (beyond (suc j) next) ∙ sym e)
    chosen Ordering.gt c l = answers (suc j) (l, (omega arith, λ u. absurd (omega arith))) (beyond (suc j) next)

    -- past infinity it is infinity
    ends : inf f ≤ j → rounded f even (ratio n d) ≡ inf f
    ends l = answers (inf f) (reached (inf f) (omega arith) (omega (arith, times_le d (units_mono f l)))) (λ q. omega (arith, q.0))

    pub overflows : (o : Ordering) → Cmp o (2 * n) (middle f j * d) → inf f ≤ nearest j o → rounded f even (ratio n d) ≡ inf f
    overflows o c l = order (inf f) j ends (λ h. chosen o c (omega (arith, top o)) ∙ omega (arith, top o))
      where
        top : (o : Ordering) → nearest j o ≤ suc j
        top Ordering.lt = omega arith
        top Ordering.eq = omega arith
        top Ordering.gt = omega arith
