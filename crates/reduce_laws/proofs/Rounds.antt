-- From step to step: the remainder of x, with the quotient kept in the statement. Assumes nothing.
use Prim.Native.Nat.{ℕ, ◌+◌, ◌-◌, ◌*◌, ◌/◌, ◌%◌, ◌^◌, ◌≤◌, ◌<◌}
use mathlib.Core.Path.{◌≡◌, sym, ap, ◌∙◌, subst}
use native.Mathlib.Omega.{arith}
use lib.Pow.{pow-add}
use Rattle.algebra.proofs.Products.{times}
use Rattle.algebra.proofs.Quotients.{div_mod, mod_is}
use Rattle.reduce_laws.specs.Reducer.{Holds, held_of, Reduces, Stepped, Left}
use Rattle.reduce_laws.proofs.Widths.{held_is}

-- ---- the state
-- a reducer for n that holds h
pub record State (w n h m r t : ℕ) : Type 0 where
  pub reduces : Reduces w m r t
  pub divisor : m / 2 ≡ n
  pub holds : held_of w m t ≡ h

pub state_of : {w n h m r t : ℕ} → 3 ≤ w → Holds w n h m r t → State w n h m r t
state_of {w} {n} {h} {m} {r} {t} l a =
    record { reduces = subst (λ i. Holds w i (held_of w m t) m r t) (sym d) (subst (λ x. Holds w n x m r t) (sym (held_is l a)) a); divisor = d; holds = held_is l a }
  where
    d : m / 2 ≡ n
    d = omega (arith, a.twice)

pub state_below : {w n h m r t : ℕ} → State w n h m r t → h < 2 * n
state_below s = omega (arith, s.reduces.small, s.divisor, s.holds)

-- ---- the steps
pub left_at_first : (n x : ℕ) → Left n x 0 x
left_at_first n x = record { quotient = 0; parts = omega arith }

left_after : {n x i h : ℕ} → Left n x i h → (k a y : ℕ) → h * 2 ^ k ≡ a * n + y → Left n x (i + k) y
left_after {n} {x} {i} {h} l k a y e = record { quotient = l.quotient * 2 ^ k + a; parts = simp pow-add (omega (arith, e, times (2 ^ k) l.parts)) }

pub record After (w n x i m r t : ℕ) : Type 0 where
  pub state : State w n (held_of w m t) m r t
  pub left : Left n x i (held_of w m t)

pub after_start : {w n x m r t : ℕ} → 3 ≤ w → Holds w n x m r t → After w n x 0 m r t
after_start {w} {n} {x} {m} {r} {t} l a =
    let s = state_of l a in
    record { state = subst (λ h. State w n h m r t) (sym s.holds) s; left = subst (Left n x 0) (sym s.holds) (left_at_first n x) }

pub after_step : {w n x i k m r t a m' r' t' : ℕ} → 3 ≤ w → After w n x i m r t → Stepped w k m r t a m' r' t' → After w n x (i + k) m' r' t'
after_step {w} {n} {x} {i} {k} {m} {r} {t} {a} {m'} {r'} {t'} l b s =
    record {
      state = state_of l (subst (λ j. Holds w j (held_of w m' t') m' r' t') b.state.divisor s.holds);
      left = left_after b.left k a (held_of w m' t') (s.parts ∙ ap (λ j. a * j + held_of w m' t') b.state.divisor);
    }

-- with l of e bits left: a step by k of them
pub after_round : {w n x e l k m r t a m' r' t' : ℕ} → 3 ≤ w → k ≤ l → l ≤ e → After w n x (e - l) m r t → Stepped w k m r t a m' r' t' → After w n x (e - (l - k)) m' r' t'
after_round {w} {n} {x} {m' = m'} {r'} {t'} b c d p q = subst (λ i. After w n x i m' r' t') (omega arith) (after_step b p q)

-- the remainder of what is held is the remainder of x times 2 ^ i
pub left_at_last : {n x i h : ℕ} → 0 < n → Left n x i h → h % n ≡ x * 2 ^ i % n
left_at_last {n} {x} {i} {h} p l =
    let d = div_mod h n p in
    sym (mod_is (x * 2 ^ i) n (l.quotient + h / n) (h % n) d.1 (omega (arith, l.parts, d.0)))
