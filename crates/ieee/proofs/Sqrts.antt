-- sqrt: for a finite operand not below zero the exact root, rounded once; and every other row. Assumes nothing.
use Prim.Native.Nat.{ℕ, zero, suc, ◌*◌, ◌^◌}
use mathlib.Core.Path.{◌≡◌, refl, sym, ap, ◌∙◌, subst}
use mathlib.Core.Bool.{Bool, true, false}
use native.Mathlib.Omega.{arith}
use lib.IntN.{nat_abs}
use Rattle.ieee.specs.Format.{Format, Fair, low}
use Rattle.ieee.specs.Pattern.{Pattern, minus, Kind, nan, finite, kind}
use Rattle.ieee.specs.Exact.{surd}
use Rattle.ieee.specs.Round.{Attribute, ties_to_even, answer}
use Rattle.ieee.specs.Rule.{to_even, Once, RuleIn}
use Rattle.ieee.specs.Sqrt.{root_of, exact_sqrt, sqrt_by, sqrt_in, sqrt_of}
use Rattle.ieee.specs.SqrtRows.{SqrtRows}
use Rattle.ieee.proofs.Patterns.{kind_canonical, zero_is, value_finite}
use Rattle.ieee.proofs.Signs.{abs_signed}
use Rattle.ieee.proofs.Exacts.{answer_root_zero}
use Rattle.ieee.proofs.Attributes.{answer_met}

module _ (f : Format) where
  sqrt_by_lem : (a : Attribute) (x : ℕ) {s : Bool} {k : Kind} → minus f x ≡ s → kind f x ≡ k → sqrt_in f a x ≡ sqrt_by f a x s k
  unfolding sqrt_in
  sqrt_by_lem a x e h = λ i. sqrt_by f a x (e i) (h i)

  pub root_exact : (x u : ℕ) → kind f x ≡ finite u → root_of f u ≡ exact_sqrt f x
  root_exact x u h = ap (λ n. surd (n * 2 ^ low f)) (sym (ap nat_abs (value_finite f x u h) ∙ abs_signed (minus f x) u))

  sqrt_root : (a : Attribute) (x u : ℕ) → kind f x ≡ finite u → (minus f x ≡ true → u ≡ 0) → sqrt_in f a x ≡ answer f a (minus f x) (root_of f u)
  unfolding sqrt_by
  sqrt_root a x u h z = go (minus f x) u refl h z
    where
      go : (s : Bool) (u : ℕ) → minus f x ≡ s → kind f x ≡ finite u → (s ≡ true → u ≡ 0) → sqrt_in f a x ≡ answer f a s (root_of f u)
      go s zero e h z = sqrt_by_lem a x e h
      go false (suc u) e h z = sqrt_by_lem a x e h
      go true (suc u) e h z = absurd (omega (arith, z refl))

  -- the answer is the exact root, rounded; a zero keeps its sign
  pub sqrt_answer : (a : Attribute) (x u : ℕ) → kind f x ≡ finite u → (minus f x ≡ true → u ≡ 0) → sqrt_in f a x ≡ answer f a (minus f x) (exact_sqrt f x)
  sqrt_answer a x u h z = sqrt_root a x u h z ∙ ap (answer f a (minus f x)) (root_exact x u h)

  -- so it meets the rule for answers, under every attribute
  pub sqrt_met : Fair f → (a : Attribute) (x u : ℕ) → kind f x ≡ finite u → (minus f x ≡ true → u ≡ 0) → RuleIn f a (minus f x) (exact_sqrt f x) (sqrt_in f a x)
  sqrt_met g a x u h z = subst (RuleIn f a (minus f x) (exact_sqrt f x)) (sym (sqrt_answer a x u h z)) (answer_met f g a (minus f x) (exact_sqrt f x))

  -- and to the nearest even
  pub sqrt_once : Fair f → (x u : ℕ) → kind f x ≡ finite u → (minus f x ≡ true → u ≡ 0) → Once f to_even (minus f x) (exact_sqrt f x) (sqrt_of f x)
  unfolding sqrt_of
  sqrt_once g x u h z = sqrt_met g ties_to_even x u h z

  sqrt_zero : (a : Attribute) (x : ℕ) → Pattern f x → kind f x ≡ finite 0 → sqrt_in f a x ≡ x
  sqrt_zero a x p h =
      let e : 0 * 2 ^ low f ≡ 0 = omega arith in
      sqrt_root a x 0 h (λ m. refl) ∙ ap (λ n. answer f a (minus f x) (surd n)) e ∙ answer_root_zero f a (minus f x) ∙ zero_is f x p h

pub sqrt_rows : (f : Format) (a : Attribute) → SqrtRows f (sqrt_in f a)
unfolding sqrt_by
sqrt_rows f a =
    record {
      of_nan = λ x h. sqrt_by_lem f a x refl h;
      of_infinity = λ x h m. sqrt_by_lem f a x m h;
      of_minus_infinity = λ x h m. sqrt_by_lem f a x m h;
      of_zero = λ x p h. sqrt_zero f a x p h;
      of_minus = λ x u h m. sqrt_by_lem f a x m h;
    }

-- a number whose root is no NaN is not below zero
pub rooted_not_below : (f : Format) → Fair f → (a : Attribute) (x u : ℕ) → kind f x ≡ finite u → (kind f (sqrt_in f a x) ≡ nan → ⊥) → minus f x ≡ true → u ≡ 0
rooted_not_below f g a x zero h n m = refl
rooted_not_below f g a x (suc u) h n m = absurd (n (ap (kind f) ((sqrt_rows f a).of_minus x u h m) ∙ kind_canonical f g.frac_pos))
