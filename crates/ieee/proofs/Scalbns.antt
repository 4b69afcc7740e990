-- scalbn: for a finite operand the exact x times 2 ^ n, rounded once, for every n; and every other row. Assumes nothing.
use Prim.Native.Nat.{ℕ, zero, suc, ◌*◌, ◌^◌, ◌≤◌, ◌<◌, min}
use mathlib.Core.Path.{◌≡◌, sym, ap, ◌∙◌, subst}
use mathlib.Core.Bool.{Bool}
use native.Mathlib.Nat.{two-pow-succ}
use native.Mathlib.Omega.{arith}
use lib.Pow.{pow_mono, pow-lt}
use lib.IntN.{ℤ, pos, negsuc, ◌*ℤ◌}
use Rattle.algebra.proofs.Products.{order, times_le}
use Rattle.ieee.specs.Format.{Format, Fair, inf, units}
use Rattle.ieee.specs.Pattern.{Pattern, minus, signed, with_sign, finite, kind}
use Rattle.ieee.specs.Exact.{dyadic, ratio}
use Rattle.ieee.specs.Round.{Way, even, away, shorter, longer, Attribute, ties_to_even, way_of, rounded, answer}
use Rattle.ieee.specs.Rule.{to_even, Once, RuleIn}
use Rattle.ieee.specs.Scalbn.{scaled, reach, clamp, scalbn_by, scalbn_in, scalbn_of, exact_scalbn}
use Rattle.ieee.specs.ScalbnRows.{ScalbnRows}
use Rattle.ieee.proofs.Units.{units_mono, units_lt, units_inf}
use Rattle.ieee.proofs.Alike.{Beside, threshold, same_side}
use Rattle.ieee.proofs.Patterns.{finite_is, zero_is, value_finite}
use Rattle.ieee.proofs.Signs.{signed_times, signed_zero}
use Rattle.ieee.proofs.Exacts.{answer_zero, sign_own, answer_of}
use Rattle.ieee.proofs.Attributes.{answer_met}

-- ---- far enough, up or down, all values round alike
threshold_le : (f : Format) (w : Way) (j : ℕ) → j < inf f → threshold f w j ≤ 2 * units f (inf f)
threshold_le f even j l = omega (arith, units_mono f l, units_mono f {i = j} {j = inf f} (omega arith))
threshold_le f away j l = omega (arith, units_mono f l, units_mono f {i = j} {j = inf f} (omega arith))
threshold_le f shorter j l = omega (arith, units_mono f l)
threshold_le f longer j l = omega (arith, units_mono f {i = j} {j = inf f} (omega arith))

pub huge_alike : (f : Format) (w : Way) (n k : ℕ) → units f (inf f) < n → units f (inf f) < k → rounded f w (ratio n 1) ≡ rounded f w (ratio k 1)
huge_alike f w n k p q = same_side f w (ratio n 1) (ratio k 1) beside
  where
    beside : (j : ℕ) → j < inf f → Beside (ratio n 1) (ratio k 1) (threshold f w j)
    beside j l =
        let h = threshold_le f w j l in
        record { above = (λ o. omega arith, λ o. omega arith); below = (λ u. absurd (omega arith), λ u. absurd (omega arith)) }

pub tiny_alike : (f : Format) (w : Way) (n d e : ℕ) → 2 * n < d → 2 * n < e → rounded f w (ratio n d) ≡ rounded f w (ratio n e)
tiny_alike f w n d e p q = same_side f w (ratio n d) (ratio n e) (λ j l. beside (threshold f w j))
  where
    over : (s a b : ℕ) → 2 * n < a → s * a ≤ 2 * n → s * b ≤ 2 * n
    over zero a b p o = omega arith
    over (suc s) a b p o = absurd (omega arith)

    under : (s a b : ℕ) → 2 * n < b → 2 * n ≤ s * a → 2 * n ≤ s * b
    under zero a b p o = omega arith
    under (suc s) a b p o = omega arith

    beside : (s : ℕ) → Beside (ratio n d) (ratio n e) s
    beside s = record { above = (over s d e p, over s e d q); below = (under s d e q, under s e d p) }

-- what is one thing from b on may be asked at n clamped to b
pub past_clamp : {A : Type 0} (G : ℕ → A) (b : ℕ) → ((n : ℕ) → b ≤ n → G b ≡ G n) → (n : ℕ) → G (min n b) ≡ G n
past_clamp G b h n =
    order n b
    (λ l. let e : min n b ≡ n = omega arith in ap G e)
    (λ l. let e : min n b ≡ b = omega arith in ap G e ∙ h n (omega arith))

module _ (f : Format) (g : Fair f) where
  reach_past : units f (inf f) < 2 ^ reach f
  reach_past = subst (λ u. u < 2 ^ reach f) (sym (units_inf f g)) (pow-lt (omega (arith, pow_mono g.expo_two)))

  pub past_all : (u n : ℕ) → 0 < u → reach f ≤ n → units f (inf f) < u * 2 ^ n
  past_all u n l h = omega (arith, reach_past, pow_mono h, times_le (2 ^ n) l)

  pub below_all : (u n : ℕ) → u < units f (inf f) → reach f ≤ n → 2 * u < 2 ^ suc n
  below_all u n l h = omega (arith, reach_past, pow_mono h, two-pow-succ n)

  up_alike : (w : Way) (u n : ℕ) → rounded f w (ratio (u * 2 ^ min n (reach f)) 1) ≡ rounded f w (ratio (u * 2 ^ n) 1)
  up_alike w zero n = ap (λ c. rounded f w (ratio c 1)) (omega arith)
  up_alike w (suc u) n =
      past_clamp (λ n. rounded f w (ratio (suc u * 2 ^ n) 1)) (reach f)
      (λ n h. huge_alike f w (suc u * 2 ^ reach f) (suc u * 2 ^ n) (past_all (suc u) (reach f) (omega arith) (omega arith)) (past_all (suc u) n (omega arith) h)) n

  down_alike : (w : Way) (u n : ℕ) → u < units f (inf f) → rounded f w (ratio u (2 ^ suc (min n (reach f)))) ≡ rounded f w (ratio u (2 ^ suc n))
  down_alike w u n l =
      past_clamp (λ n. rounded f w (ratio u (2 ^ suc n))) (reach f)
      (λ n h. tiny_alike f w u (2 ^ suc (reach f)) (2 ^ suc n) (below_all u (reach f) l (omega arith)) (below_all u n l h)) n

  -- the clamped rule is the rule
  pub clamp_alike : (a : Attribute) (s : Bool) (u : ℕ) (n : ℤ) → u < units f (inf f) → answer f a s (scaled s u (clamp (reach f) n)) ≡ answer f a s (scaled s u n)
  clamp_alike a s u (pos n) l =
      answer_of f a s s (u * 2 ^ min n (reach f)) 0 (sign_own s (u * 2 ^ min n (reach f)) 0)
      ∙ ap (signed f s) (up_alike (way_of a s) u n)
      ∙ sym (answer_of f a s s (u * 2 ^ n) 0 (sign_own s (u * 2 ^ n) 0))
  clamp_alike a s u (negsuc n) l =
      answer_of f a s s u (suc (min n (reach f))) (sign_own s u (suc (min n (reach f))))
      ∙ ap (signed f s) (down_alike (way_of a s) u n l)
      ∙ sym (answer_of f a s s u (suc n) (sign_own s u (suc n)))

  pub scaled_exact : (x u : ℕ) (n : ℤ) → kind f x ≡ finite u → scaled (minus f x) u n ≡ exact_scalbn f x n
  scaled_exact x u (pos n) h = ap (λ c. dyadic c 0) (sym (signed_times (minus f x) u (2 ^ n)) ∙ ap (λ c. c *ℤ pos (2 ^ n)) (sym (value_finite f x u h)))
  scaled_exact x u (negsuc n) h = ap (λ c. dyadic c (suc n)) (sym (value_finite f x u h))

  -- the answer is the exact value, rounded, for every n
  pub scalbn_answer : (a : Attribute) (x u : ℕ) (n : ℤ) → kind f x ≡ finite u → scalbn_in f a x n ≡ answer f a (minus f x) (exact_scalbn f x n)
  unfolding scalbn_in scalbn_by
  scalbn_answer a x u n h =
      let m = finite_is f x u h in
      ap (scalbn_by f a x n) h ∙ clamp_alike a (minus f x) u n (omega (arith, m.counts, units_lt f m.below)) ∙ ap (answer f a (minus f x)) (scaled_exact x u n h)

  -- so it meets the rule for answers, under every attribute
  pub scalbn_met : (a : Attribute) (x u : ℕ) (n : ℤ) → kind f x ≡ finite u → RuleIn f a (minus f x) (exact_scalbn f x n) (scalbn_in f a x n)
  scalbn_met a x u n h = subst (RuleIn f a (minus f x) (exact_scalbn f x n)) (sym (scalbn_answer a x u n h)) (answer_met f g a (minus f x) (exact_scalbn f x n))

  -- and to the nearest even
  pub scalbn_once : (x u : ℕ) (n : ℤ) → kind f x ≡ finite u → Once f to_even (minus f x) (exact_scalbn f x n) (scalbn_of f x n)
  unfolding scalbn_of
  scalbn_once x u n h = scalbn_met ties_to_even x u n h

  scalbn_zero : (a : Attribute) (x : ℕ) (n : ℤ) → Pattern f x → kind f x ≡ finite 0 → scalbn_in f a x n ≡ x
  scalbn_zero a x n p h = scalbn_answer a x 0 n h ∙ ap (answer f a (minus f x)) (sym (scaled_exact x 0 n h)) ∙ nothing n ∙ zero_is f x p h
    where
      nothing : (n : ℤ) → answer f a (minus f x) (scaled (minus f x) 0 n) ≡ signed f (minus f x) 0
      nothing (pos n) =
          let e : 0 * 2 ^ n ≡ 0 = omega arith in
          ap (λ c. answer f a (minus f x) (dyadic c 0)) (ap (with_sign (minus f x)) e ∙ signed_zero (minus f x)) ∙ answer_zero f a (minus f x) 0
      nothing (negsuc n) = ap (λ c. answer f a (minus f x) (dyadic c (suc n))) (signed_zero (minus f x)) ∙ answer_zero f a (minus f x) (suc n)

pub scalbn_rows : (f : Format) → Fair f → (a : Attribute) (x : ℕ) (n : ℤ) → ScalbnRows f x n (scalbn_in f a x n)
unfolding scalbn_in scalbn_by
scalbn_rows f g a x n = record { of_nan = λ h. ap (scalbn_by f a x n) h; of_infinity = λ h. ap (scalbn_by f a x n) h; of_zero = λ p h. scalbn_zero f g a x n p h }
