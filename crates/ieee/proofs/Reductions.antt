-- The reduction: what it refuses, and what its value means. Assumes nothing.
use Prim.Native.Nat.{ℕ, zero, suc, ◌*◌, ◌%◌, ◌/◌, ◌^◌, ◌≤◌, ◌<◌}
use mathlib.Core.Path.{◌≡◌, refl, sym, ap, ◌∙◌}
use mathlib.Core.Logic.Iff
use mathlib.Core.Logic.{◌↔◌, ◌⊎◌, inl, inr}
use mathlib.Core.Bool.{◌||◌}
use native.Mathlib.Omega.{arith}
use lib.Dec.{leb, ltb}
use Rattle.algebra.proofs.Quotients.{div_mod, quot_unique}
use Rattle.ieee.specs.Refusal.{given, Answer, done, refused, number_of, value_of}
use Rattle.ieee.specs.Reduction.{shift_limit, divisor_limit, reduce_refusals, reduce_by, reduce_of}
use Rattle.ieee.specs.ReductionRule.{Unfit, Fit, ReduceRefusals, Reduced, ReducedAs}
use Rattle.ieee.proofs.Decide.{split, eqb_reads}
use Rattle.ieee.proofs.Refusals.{given_first, given_none, first_here, first_later, none_later, none_last, Tells, leb_tells, ltb_tells, or_tells, either, same_at}

pub reduce_refusals_same : {w x e y i j : ℕ} → ReduceRefusals w x e y i → ReduceRefusals w x e y j → i ≡ j
reduce_refusals_same {i = i} {j} p q = go p.only
  where
    go : (i ≡ 0) ⊎ (i ≡ 4) ⊎ (i ≡ 5) → i ≡ j
    go (inl h) = same_at p.none q.none h
    go (inr (inl h)) = same_at p.four q.four h
    go (inr (inr h)) = same_at p.five q.five h

pub reduce_is : (x e y : ℕ) → 0 < y → Reduced x e y (x * 2 ^ e % y)
reduce_is x e y p = record { quotient = x * 2 ^ e / y; parts = sym (div_mod (x * 2 ^ e) y p).0; below = (div_mod (x * 2 ^ e) y p).1 }

pub reduce_only : {x e y r s : ℕ} → Reduced x e y r → Reduced x e y s → r ≡ s
reduce_only {y = y} {r} {s} p q = (quot_unique y p.quotient r q.quotient s p.below q.below (sym p.parts ∙ q.parts)).1

module _ (w x e y : ℕ) where
  unfit : Tells (Unfit w x y) (Fit w x y) (ltb (divisor_limit w) y || leb (2 * y) x)
  unfit = or_tells (ltb_tells (divisor_limit w) y) (leb_tells (2 * y) x)

  far : Tells (shift_limit < e) (e ≤ shift_limit) (ltb shift_limit e)
  far = ltb_tells shift_limit e

  given_refusals : ReduceRefusals w x e y (given (reduce_refusals w x e y))
  given_refusals = record { four = four; five = five; none = none; only = only }
    where
      k : ℕ
      k = given (reduce_refusals w x e y)

      four : (k ≡ 4) ↔ Unfit w x y
      four = Iff.trans (given_first (reduce_refusals w x e y) 4 (omega arith)) (first_here unfit (omega arith))

      five : (k ≡ 5) ↔ (Fit w x y × (shift_limit < e))
      five = Iff.trans (given_first (reduce_refusals w x e y) 5 (omega arith)) (first_later unfit (omega arith) (first_here far (omega arith)))

      none : (k ≡ 0) ↔ (Fit w x y × (e ≤ shift_limit))
      none = Iff.trans (given_none (reduce_refusals w x e y) (omega arith)) (none_later unfit (none_last far))

      only : (k ≡ 0) ⊎ (k ≡ 4) ⊎ (k ≡ 5)
      only =
          either unfit (λ u. inr (inl (four.1 u))) (λ f.
          either far (λ l. inr (inr (five.1 (f, l)))) (λ s.
          inl (none.1 (f, s))))

  -- the answer by its number
  reduce_by_lem : {k : ℕ} → given (reduce_refusals w x e y) ≡ k → reduce_of w x e y ≡ reduce_by x e y k
  unfolding reduce_of
  reduce_by_lem p = ap (reduce_by x e y) p

  pub reduce_done : y ≤ divisor_limit w → x < 2 * y → e ≤ shift_limit → reduce_of w x e y ≡ done (x * 2 ^ e % y)
  unfolding reduce_by
  reduce_done a b c = reduce_by_lem (given_refusals.none.1 ((a, b), c))

  pub reduce_four : Unfit w x y → reduce_of w x e y ≡ refused 4
  unfolding reduce_by
  reduce_four u = reduce_by_lem (given_refusals.four.1 u)

  pub reduce_five : Fit w x y → shift_limit < e → reduce_of w x e y ≡ refused 5
  unfolding reduce_by
  reduce_five f l = reduce_by_lem (given_refusals.five.1 (f, l))

  answer_by : (k : ℕ) → ReduceRefusals w x e y k → ReducedAs w x e y (reduce_by x e y k)
  unfolding reduce_by
  answer_by zero r = record { refusals = r; no_value = λ n. absurd (n refl); value = λ z. reduce_is x e y (omega (arith, r.none.0 refl)) }
  answer_by (suc k) r = record { refusals = r; no_value = λ n. refl; value = λ z. absurd (omega arith) }

  pub reduction_is : ReducedAs w x e y (reduce_of w x e y)
  unfolding reduce_of
  reduction_is = answer_by (given (reduce_refusals w x e y)) given_refusals

pub reduction_only : {w x e y : ℕ} (a b : Answer) → ReducedAs w x e y a → ReducedAs w x e y b → (number_of a ≡ number_of b) × (value_of a ≡ value_of b)
reduction_only a b p q =
    let n = reduce_refusals_same p.refusals q.refusals in (
      n,
      split (eqb_reads (number_of a) 0)
          (λ z. reduce_only (p.value z) (q.value (omega arith)))
          (λ z. p.no_value z ∙ sym (q.no_value (omega arith))),
    )

-- ---- at the limits
pub zero_divisor_refused : (w x e : ℕ) → reduce_of w x e 0 ≡ refused 4
zero_divisor_refused w x e = reduce_four w x e 0 (inr (omega arith))

pub shift_limit_done : (w x y : ℕ) → Fit w x y → reduce_of w x 4096 y ≡ done (x * 2 ^ 4096 % y)
shift_limit_done w x y f = reduce_done w x 4096 y f.0 f.1 (omega arith)

pub past_shift_limit_refused : (w x y : ℕ) → Fit w x y → reduce_of w x 4097 y ≡ refused 5
past_shift_limit_refused w x y f = reduce_five w x 4097 y f (omega arith)
