-- The leading bit of a number, and its exponent: ilogb is the one that its rule names. Assumes nothing.
use Prim.Native.Nat.{ℕ, suc, ◌+◌, ◌-◌, ◌^◌, ◌≤◌, ◌<◌}
use mathlib.Core.Path.{◌≡◌, sym, ap, ◌∙◌}
use native.Mathlib.Omega.{arith}
use lib.Dec.{leb}
use lib.IntN.{ℤ, pos, ◌-ℤ◌}
use lib.Pow.{pow-add, pow_pos, pow-lt}
use borrow.Author.Tests.{le-leb, lt-leb, leb-true, leb-false}
use Rattle.algebra.proofs.Powers.{pow_diff, pow_inj_lt}
use Rattle.ieee.specs.Format.{Format, Fair, low, inf, units}
use Rattle.ieee.specs.Pattern.{magnitude, finite, kind}
use Rattle.ieee.specs.Frexp.{leading_bit, ilogb_by, ilogb_of}
use Rattle.ieee.specs.FrexpRule.{Leads, IlogbRows}
use Rattle.ieee.proofs.Units.{units_inf, units_lt}
use Rattle.ieee.proofs.Patterns.{finite_is}
use Rattle.ieee.proofs.Search.{greatest_last}

-- ---- the leading bit
-- bit k is the leading bit of u
pub record Leading (u k : ℕ) : Type 0 where
  pub least : 2 ^ k ≤ u
  pub most : u < 2 ^ suc k

pub leading_only : (u i j : ℕ) → Leading u i → Leading u j → i ≡ j
leading_only u i j a b =
    let p = pow_inj_lt i (suc j) (omega arith) in
    let q = pow_inj_lt j (suc i) (omega arith) in
    omega arith

module _ (f : Format) (g : Fair f) where
  -- the search goes past every number of the format
  search_enough : units f (inf f) < 2 ^ (0 + 2 ^ (f.expo + 1))
  search_enough =
      let h = pow_diff {a = f.expo} {b = 1} (omega (arith, g.expo_two)) in
      omega (arith, units_inf f g, pow-lt {i = f.frac + (2 ^ f.expo - 2)} {j = 0 + 2 ^ (f.expo + 1)} (omega (arith, pow-add 2 f.expo 1, g.frac_fits)))

  pub leading_bit_lem : (u : ℕ) → 0 < u → u < units f (inf f) → Leading u (leading_bit f u)
  unfolding leading_bit
  leading_bit_lem u p l =
      let b = greatest_last (λ k. leb (2 ^ k) u) (f.expo + 1) 0 (le-leb (2 ^ 0) u (omega arith)) (lt-leb (2 ^ (0 + 2 ^ (f.expo + 1))) u (omega (arith, search_enough))) in
      record { least = leb-true (2 ^ leading_bit f u) u b.at; most = leb-false (2 ^ suc (leading_bit f u)) u b.next }

  pub leading_bit_is : (u k : ℕ) → u < units f (inf f) → Leading u k → leading_bit f u ≡ k
  leading_bit_is u k l h = leading_only u (leading_bit f u) k (leading_bit_lem u (omega (arith, pow_pos k)) l) h

-- ---- ilogb
pub ilogb_finite : (f : Format) (x u : ℕ) → kind f x ≡ finite (suc u) → ilogb_of f x ≡ pos (leading_bit f (suc u)) -ℤ pos (low f)
unfolding ilogb_of ilogb_by
ilogb_finite f x u h = ap (ilogb_by f) h

pub ilogb_is : (f : Format) → Fair f → (x u : ℕ) → kind f x ≡ finite (suc u) → Leads f x (ilogb_of f x)
ilogb_is f g x u h =
    let m = finite_is f x (suc u) h in
    let b = leading_bit_lem f g (suc u) (omega arith) (omega (arith, m.counts, units_lt f m.below)) in
    record {
      k = leading_bit f (suc u);
      exponent = ilogb_finite f x u h;
      least = omega (arith, m.counts);
      most = omega (arith, m.counts);
    }

pub ilogb_only : (f : Format) (x : ℕ) (n m : ℤ) → Leads f x n → Leads f x m → n ≡ m
ilogb_only f x n m a b =
    let k = leading_only (units f (magnitude f x)) a.k b.k (record { least = a.least; most = a.most }) (record { least = b.least; most = b.most }) in
    a.exponent ∙ ap (λ i. pos i -ℤ pos (low f)) k ∙ sym b.exponent

pub ilogb_rows : (f : Format) → IlogbRows f (ilogb_of f)
unfolding ilogb_of ilogb_by
ilogb_rows f = record { of_nan = λ x h. ap (ilogb_by f) h; of_infinity = λ x h. ap (ilogb_by f) h; of_zero = λ x h. ap (ilogb_by f) h }
