-- The sum of two signed numbers, by their magnitudes, and its count of steps. Assumes nothing.
use Prim.Native.Nat.{ℕ, ◌-◌, ◌*◌, ◌%◌, ◌≤◌, ◌<◌}
use mathlib.Core.Path.{◌≡◌, refl, sym, ap, ◌∙◌, subst}
use mathlib.Core.Bool.{Bool, true, false, cond}
use native.Mathlib.Omega.{arith}
use borrow.Author.Tests.{lt-ltb, le-ltb}
use lib.Dec.{ltb}
use lib.IntN.{◌+ℤ◌}
use Rattle.algebra.proofs.Products.{order, times, times_le, diff}
use Rattle.ieee.specs.Pattern.{unlike, with_sign}
use Rattle.ieee.proofs.SignedSums.{plus_like, plus_more, plus_less}
use Rattle.round_step.specs.Mark.{Marks}
use Rattle.round_step.proofs.Marks.{marks_sum, marks_minus, marks_over}
use Rattle.fma_laws.specs.Aligned.{joined, joined_sign}
use Rattle.fma_laws.proofs.Alignment.{Level, first_whole, second_whole, level_le, level_ge}

-- ---- the exact sum
-- the sign, by which is greater
pub sign_second : (s t : Bool) (a b : ℕ) → a < b → joined_sign s t a b ≡ t
sign_second s t a b l = ap (λ c. cond c t s) (lt-ltb a b l)

pub sign_first : (s t : Bool) (a b : ℕ) → b ≤ a → joined_sign s t a b ≡ s
sign_first s t a b l = ap (λ c. cond c t s) (le-ltb a b l)

-- of unlike signs the greater decides, of like signs either
sum_first : (s t : Bool) (a b : ℕ) → b ≤ a → with_sign s a +ℤ with_sign t b ≡ with_sign s (joined (unlike s t) a b)
sum_first false false a b l = plus_like false a b
sum_first false true a b l = let e : a - b ≡ joined true a b = omega arith in plus_more false a b l ∙ ap (with_sign false) e
sum_first true false a b l = let e : a - b ≡ joined true a b = omega arith in plus_more true a b l ∙ ap (with_sign true) e
sum_first true true a b l = plus_like true a b

sum_second : (s t : Bool) (a b : ℕ) → a ≤ b → with_sign s a +ℤ with_sign t b ≡ with_sign t (joined (unlike s t) a b)
sum_second false false a b l = plus_like false a b
sum_second false true a b l = let e : b - a ≡ joined true a b = omega arith in plus_less false a b l ∙ ap (with_sign true) e
sum_second true false a b l = let e : b - a ≡ joined true a b = omega arith in plus_less true a b l ∙ ap (with_sign false) e
sum_second true true a b l = plus_like true a b

pub sum_signed : (s t : Bool) (a b : ℕ) → with_sign s a +ℤ with_sign t b ≡ with_sign (joined_sign s t a b) (joined (unlike s t) a b)
sum_signed s t a b =
    order b a
    (λ l. sum_first s t a b l ∙ ap (λ c. with_sign c (joined (unlike s t) a b)) (sym (sign_first s t a b l)))
    (λ l. sum_second s t a b (omega arith) ∙ ap (λ c. with_sign c (joined (unlike s t) a b)) (sym (sign_second s t a b l)))

-- both times a factor
pub joined_times : (u : Bool) (a b k : ℕ) → joined u (a * k) (b * k) ≡ joined u a b * k
joined_times false a b k = omega arith
joined_times true a b k =
    order b a
    (λ l. let none : b - a ≡ 0 = omega arith in omega (arith, diff k l, times_le k l, times k none))
    (λ l. let none : a - b ≡ 0 = omega arith in let h : a ≤ b = omega arith in omega (arith, diff k h, times_le k h, times k none))

pub sign_times : (s t : Bool) (a b k : ℕ) → 0 < k → joined_sign s t (a * k) (b * k) ≡ joined_sign s t a b
sign_times s t a b k p =
    order b a
    (λ l. sign_first s t (a * k) (b * k) (times_le k l) ∙ sym (sign_first s t a b l))
    (λ l. sign_second s t (a * k) (b * k) (omega (arith, times_le k l)) ∙ sym (sign_second s t a b l))

-- ---- its count
marks_as : {v w n r s : ℕ} → v ≡ w → r ≡ s → Marks v n r → Marks w n s
marks_as {n} e h m = subst (λ (t : Type 0). t) (λ i. Marks (e i) n (h i)) m

pub joined_marks : {P Q n a b : ℕ} (u : Bool) → Level P Q n a b → Marks (joined u P Q) n (joined u a b)
joined_marks {a} {b} false (first_whole e h m) = marks_as (omega (arith, e)) refl (marks_sum m a h)
joined_marks {a} {b} false (second_whole e h m) = marks_as (omega (arith, e)) (omega arith) (marks_sum m b h)
joined_marks {a} {b} true (first_whole e h m) =
    order b a
    (λ l. marks_as (omega (arith, e, level_ge (first_whole e h m) l)) (omega arith) (marks_minus m a h l))
    (λ l. marks_as (omega (arith, e, level_le (first_whole e h m) (omega arith))) (omega arith) (marks_over m a h (omega arith)))
joined_marks {a} {b} true (second_whole e h m) =
    order b a
    (λ l. marks_as (omega (arith, e, level_ge (second_whole e h m) l)) (omega arith) (marks_over m b h l))
    (λ l. marks_as (omega (arith, e, level_le (second_whole e h m) (omega arith))) (omega arith) (marks_minus m b h (omega arith)))

-- a count is nonzero exactly where the number is
pub marks_some : {v n s : ℕ} → Marks v n s → 0 < n → 0 < s → 0 < v
marks_some {v} {n} {s} m p l = order 1 (s % 2) (λ q. omega (arith, m.more (omega arith), times_le n l)) (λ q. omega (arith, m.exact (omega arith), times_le n l))

pub marks_none : {v n : ℕ} → Marks v n 0 → v ≡ 0
marks_none m = omega (arith, m.exact refl)

like_either : (s : Bool) (c : Bool) → cond c s s ≡ s
like_either s false = refl
like_either s true = refl

unlike_sign : {P Q n a b : ℕ} (s t : Bool) → Level P Q n a b → 0 < n → 0 < joined true a b → joined_sign s t P Q ≡ joined_sign s t a b
unlike_sign {P} {Q} {n} {a} {b} s t v p l =
    let some = marks_some (joined_marks true v) p l in
    order b a
    (λ h. sign_first s t P Q (level_ge v h) ∙ sym (sign_first s t a b h))
    (λ h. sign_second s t P Q (omega (arith, level_le v (omega arith))) ∙ sym (sign_second s t a b h))

-- its sign is the sum's
pub joined_sign_lem : {P Q n a b : ℕ} (s t : Bool) → Level P Q n a b → 0 < n → 0 < joined (unlike s t) a b → joined_sign s t P Q ≡ joined_sign s t a b
joined_sign_lem {P} {Q} {n} {a} {b} false false v p l = like_either false (ltb P Q) ∙ sym (like_either false (ltb a b))
joined_sign_lem {P} {Q} {n} {a} {b} true true v p l = like_either true (ltb P Q) ∙ sym (like_either true (ltb a b))
joined_sign_lem {P} {Q} {n} {a} {b} false true v p l = unlike_sign false true v p l
joined_sign_lem {P} {Q} {n} {a} {b} true false v p l = unlike_sign true false v p l
