-- An ordered list of refusals gives a number exactly when its reason holds and none before it does, and none otherwise. Assumes nothing.
use Prim.Native.Nat.{ℕ, suc, ◌≤◌, ◌<◌}
use mathlib.Core.Path.{◌≡◌, refl, sym, ◌∙◌}
use mathlib.Core.Logic.{◌↔◌, ◌⊎◌, inl, inr}
use mathlib.Core.Bool.{Bool, true, false, not, ◌||◌, cond, true≢false, false≢true}
use mathlib.Core.List.{List, [], ◌∷◌}
use native.Mathlib.Omega.{arith}
use lib.Dec.{leb, ltb}
use Rattle.ieee.specs.Refusal.{Refusal, given, refused, number_of, value_of}
use Rattle.ieee.specs.RefusalRule.{First, here, later, None, end, and_none, Absent}
use Rattle.ieee.proofs.Decide.{Reads, so, not_so, leb_reads}

-- ---- the law
given_says : (rs : List Refusal) (k : ℕ) → 0 < k → given rs ≡ k → First rs k
given_says [] k p e = absurd (omega arith)
given_says (r ∷ rs) k p e = go r.reason refl e (given_says rs k p)
  where
    go : (b : Bool) → r.reason ≡ b → cond b r.number (given rs) ≡ k → (given rs ≡ k → First rs k) → First (r ∷ rs) k
    go true t e f = here t e
    go false t e f = later t (f e)

says_given : {rs : List Refusal} {k : ℕ} → First rs k → given rs ≡ k
says_given (here t e) = rw t e
says_given (later t h) = rw t (says_given h)

pub given_first : (rs : List Refusal) (k : ℕ) → 0 < k → (given rs ≡ k) ↔ First rs k
given_first rs k p = (given_says rs k p, says_given)

zero_none : (rs : List Refusal) → Absent 0 rs → given rs ≡ 0 → None rs
zero_none [] a e = end
zero_none (r ∷ rs) a e = go r.reason refl e (zero_none rs a.1)
  where
    go : (b : Bool) → r.reason ≡ b → cond b r.number (given rs) ≡ 0 → (given rs ≡ 0 → None rs) → None (r ∷ rs)
    go true t e f = absurd (a.0 e)
    go false t e f = and_none t (f e)

none_zero : {rs : List Refusal} → None rs → given rs ≡ 0
none_zero end = refl
none_zero (and_none t n) = rw t (none_zero n)

pub given_none : (rs : List Refusal) → Absent 0 rs → (given rs ≡ 0) ↔ None rs
given_none rs a = (zero_none rs a, none_zero)

-- ---- a test and two statements, of which it says which one holds
pub data Tells (A N : Type 0) : Bool → Type 0 where
  tells : A → (N → ⊥) → Tells A N true
  tells_not : (A → ⊥) → N → Tells A N false

pub by_reads : {A N : Type 0} {b : Bool} → Reads A b → (A → ⊥) ↔ N → Tells A N b
by_reads (so a) e = tells a (λ n. e.1 n a)
by_reads (not_so n) e = tells_not n (e.0 n)

pub leb_tells : (m n : ℕ) → Tells (m ≤ n) (n < m) (leb m n)
leb_tells m n = by_reads (leb_reads m n) (omega arith)

pub ltb_tells : (m n : ℕ) → Tells (m < n) (n ≤ m) (ltb m n)
ltb_tells m n = by_reads (leb_reads (suc m) n) (omega arith)

pub not_tells : {A N : Type 0} {b : Bool} → Tells A N b → Tells N A (not b)
not_tells (tells a n) = tells_not n a
not_tells (tells_not a n) = tells n a

pub or_tells : {A N B M : Type 0} {a b : Bool} → Tells A N a → Tells B M b → Tells (A ⊎ B) (N × M) (a || b)
or_tells (tells a n) q = tells (inl a) (λ h. n h.0)
or_tells (tells_not a n) (tells b m) = tells (inr b) (λ h. m h.1)
or_tells (tells_not a n) (tells_not b m) = tells_not (elim [ inl h ↦ a h | inr h ↦ b h ]) (n, m)

pub either : {A N : Type 0} {b : Bool} {G : Type 0} → Tells A N b → (A → G) → (N → G) → G
either (tells a n) f g = f a
either (tells_not a n) f g = g n

is_told : {A N : Type 0} {b : Bool} → Tells A N b → (b ≡ true) ↔ A
is_told (tells a n) = (λ e. a, λ h. refl)
is_told (tells_not a n) = (λ e. absurd (false≢true e), λ h. absurd (a h))

not_told : {A N : Type 0} {b : Bool} → Tells A N b → (b ≡ false) ↔ N
not_told (tells a n) = (λ e. absurd (true≢false e), λ h. absurd (n h))
not_told (tells_not a n) = (λ e. n, λ h. refl)

-- ---- the law, where each reason tells which of two statements holds
first_absent : {rs : List Refusal} {k : ℕ} → Absent k rs → First rs k → ⊥
first_absent a (here t e) = a.0 e
first_absent a (later t h) = first_absent a.1 h

pub first_here : {A N : Type 0} {r : Refusal} {rs : List Refusal} → Tells A N r.reason → Absent r.number rs → First (r ∷ rs) r.number ↔ A
first_here {A} {r = r} {rs} d a = (to, λ h. here ((is_told d).1 h) refl)
  where
    to : First (r ∷ rs) r.number → A
    to (here t e) = (is_told d).0 t
    to (later t h) = absurd (first_absent a h)

pub first_later : {A N B : Type 0} {r : Refusal} {rs : List Refusal} {k : ℕ} → Tells A N r.reason → (r.number ≡ k → ⊥) → First rs k ↔ B → First (r ∷ rs) k ↔ (N × B)
first_later {N = N} {B} {r} {rs} {k} d n e = (to, λ h. later ((not_told d).1 h.0) (e.1 h.1))
  where
    to : First (r ∷ rs) k → N × B
    to (here t q) = absurd (n q)
    to (later t h) = ((not_told d).0 t, e.0 h)

pub none_later : {A N B : Type 0} {r : Refusal} {rs : List Refusal} → Tells A N r.reason → None rs ↔ B → None (r ∷ rs) ↔ (N × B)
none_later {N = N} {B} {r} {rs} d e = (to, λ h. and_none ((not_told d).1 h.0) (e.1 h.1))
  where
    to : None (r ∷ rs) → N × B
    to (and_none t n) = ((not_told d).0 t, e.0 n)

pub none_last : {A N : Type 0} {r : Refusal} → Tells A N r.reason → None (r ∷ []) ↔ N
none_last {N = N} {r} d = (to, λ h. and_none ((not_told d).1 h) end)
  where
    to : None (r ∷ []) → N
    to (and_none t n) = (not_told d).0 t

-- two numbers, each k exactly where P holds, are equal where the one is k
pub same_at : {P : Type 0} {i j k : ℕ} → (i ≡ k) ↔ P → (j ≡ k) ↔ P → i ≡ k → i ≡ j
same_at p q e = e ∙ sym (q.1 (p.0 e))

-- ---- a refusal's two parts
pub refused_is : (k : ℕ) → (number_of (refused k) ≡ k) × (value_of (refused k) ≡ 0)
refused_is k = (refl, refl)
