-- The grammar as a relation and as a function agree: what a text says is read, part by part; what is read is said; and a text says one thing. Assumes nothing.
use Prim.Native.Nat.{ℕ, ◌+◌, ◌*◌, ◌^◌, ◌≤◌, ◌<◌}
use mathlib.Core.Path.{◌≡◌, refl, sym, ap, ap₂, ◌∙◌, subst, subst₂}
use mathlib.Core.Bool.{Bool, true, false, cond, false≢true, and-eq-true_iff}
use mathlib.Core.List.{List, [], ◌∷◌, ◌++◌, append_assoc, append-nil}
use native.Mathlib.Omega.{arith}
use lib.Dec.{eqb}
use lib.ListN.{length}
use lib.IntN.{ℤ, pos, neg_ℤ}
use borrow.Author.Tests.{le-leb, eq-eqb, ne_eqb, eqb-true}
use Rattle.text_numbers.specs.Digits.{digit_of}
use Rattle.ieee.proofs.Decide.{split, eqb_reads}
use Rattle.ieee_numeral_laws.specs.Numeral.{Numeral, number, infinity, not_a_number, Digits, none, first, Significand, whole, pointed, Few, Exponent, raised, lowered, Unsigned, constant, Says, positive, negative, infinite, minus_infinite, nan, plus, dash, point, letter_p, inf_text, nan_text}
use Rattle.std.specs.Prelude.{Option, Some}
use Rattle.ieee_numeral_laws.specs.Reading.{same, run, few_by, few_of, exponent_of, with_exponent, end_by, point_by, behind_by, ahead_by, unsigned_of, after_dash, without_sign, numeral_of}
use Rattle.ieee_numeral_laws.proofs.Digits.{at_end_lem, at_other, parts, digits_run}
use Rattle.ieee_numeral_laws.proofs.Said.{nothing_said, unsigned_said}

-- ---- the exponent
few_counted : (sign : ℕ → ℤ) (v n : ℕ) → 1 ≤ n → n ≤ 5 → few_by sign (parts v n []) ≡ Some (sign v)
unfolding few_by
few_counted sign v n some most = simp (le-leb 1 n some, le-leb n 5 most)

few_read : {s : List ℕ} {n : ℕ} (sign : ℕ → ℤ) → Few s n → few_of sign s ≡ Some (sign n)
unfolding few_of
few_read {s} {n} sign f =
    let v : ℕ = 0 * 10 ^ length s + n in
    let all : run 10 0 0 s ≡ parts v (0 + length s) [] = ap (run 10 0 0) (sym (append-nil s)) ∙ digits_run f.digits at_end_lem 0 0 in
    let same : v ≡ n = omega arith in
    ap (few_by sign) all ∙ few_counted sign v (0 + length s) (omega (arith, f.some)) (omega (arith, f.most)) ∙ ap (λ w. Some (sign w)) same

-- a decimal digit is no sign
digit_no_sign : (c : ℕ) → digit_of c < 10 → (c ≡ plus → ⊥) × (c ≡ dash → ⊥)
digit_no_sign c h = (λ e. no_digit (rw e at h), λ e. no_digit (rw e at h))
  where
    no_digit : 16 < 10 → ⊥
    no_digit l = omega arith

bare_read : {s : List ℕ} {n : ℕ} → Digits 10 s n → 1 ≤ length s → exponent_of s ≡ few_of pos s
unfolding exponent_of
bare_read none l = absurd (omega arith)
bare_read (first {c = c} h r) l = let (p, q) = digit_no_sign c h in simp (ne_eqb c plus p, ne_eqb c dash q)

exponent_read : {t : List ℕ} {e : ℤ} → Exponent t e → exponent_of t ≡ Some e
unfolding exponent_of
exponent_read (Exponent.bare f) = bare_read f.digits f.some ∙ few_read pos f
exponent_read (raised f) = few_read pos f
exponent_read (lowered f) = few_read (λ n. neg_ℤ (pos n)) f

-- ---- the significand, before an exponent
end_read : (neg : Bool) (d n k : ℕ) (t : List ℕ) → 1 ≤ n → end_by neg d n k (letter_p ∷ t) ≡ with_exponent neg d k (exponent_of t)
unfolding end_by
end_read neg d n k t some = simp (le-leb 1 n some)

significand_read : {s : List ℕ} {d k : ℕ} (neg : Bool) (t : List ℕ) → Significand s d k → ahead_by neg (run 16 0 0 (s ++ (letter_p ∷ t))) ≡ with_exponent neg d k (exponent_of t)
unfolding point_by
significand_read neg t (whole {s} {d} r some) =
    let v : ℕ = 0 * 16 ^ length s + d in
    let same : v ≡ d = omega arith in
    ap (ahead_by neg) (digits_run r (at_other {c = letter_p} {s = t} (omega arith)) 0 0) ∙ end_read neg v (0 + length s) 0 t (omega arith) ∙ ap (λ w. with_exponent neg w 0 (exponent_of t)) same
significand_read neg t (pointed {s} {t = u} {d} {e} r q some) =
    let v : ℕ = 0 * 16 ^ length s + d in
    let n : ℕ = 0 + length s in
    let k : ℕ = 0 + length u in
    let w : ℕ = v * 16 ^ length u + e in
    let same : v ≡ d = omega arith in
    let count : k ≡ length u = omega arith in
    ap (λ l. ahead_by neg (run 16 0 0 l)) (append_assoc s (point ∷ u) (letter_p ∷ t))
    ∙ ap (ahead_by neg) (digits_run r (at_other {c = point} {s = u ++ (letter_p ∷ t)} (omega arith)) 0 0)
    ∙ ap (behind_by neg n) (digits_run q (at_other {c = letter_p} {s = t} (omega arith)) v 0)
    ∙ end_read neg w (n + k) k t (omega arith)
    ∙ rw (same, count) refl

-- ---- the whole text
unsigned_read : {s : List ℕ} {d k : ℕ} {e : ℤ} (neg : Bool) → Unsigned s d k e → unsigned_of neg s ≡ Some (number neg d k e)
unfolding unsigned_of
unsigned_read neg (constant {t = t} {d} {k} r x) = significand_read neg t r ∙ ap (with_exponent neg d k) (exponent_read x)

-- no number begins as a sign or a word does
unsigned_plain : {s : List ℕ} {d k : ℕ} {e : ℤ} → Unsigned s d k e → (numeral_of s ≡ unsigned_of false s) × (after_dash s ≡ unsigned_of true s)
unfolding numeral_of
unsigned_plain (constant r x) = (refl, refl)

pub reads_what_it_says : {s : List ℕ} {m : Numeral} → Says s m → numeral_of s ≡ Some m
unfolding numeral_of
reads_what_it_says (Says.bare u) = (unsigned_plain u).0 ∙ unsigned_read false u
reads_what_it_says (positive u) = unsigned_read false u
reads_what_it_says (negative u) = (unsigned_plain u).1 ∙ unsigned_read true u
reads_what_it_says infinite = refl
reads_what_it_says minus_infinite = refl
reads_what_it_says nan = refl

-- ---- the whole text, back
same_texts : (s t : List ℕ) → same s t ≡ true → s ≡ t
unfolding same
same_texts [] [] h = refl
same_texts [] (d ∷ t) h = absurd (false≢true h)
same_texts (c ∷ s) [] h = absurd (false≢true h)
same_texts (c ∷ s) (d ∷ t) h =
    let (p, q) = (and-eq-true_iff (eqb c d) (same s t)).0 h in
    ap₂ (λ b l. b ∷ l) (eqb-true c d p) (same_texts s t q)

-- a word, or what is read of any other text
word_said : (P : List ℕ → Numeral → Type 0) (s w : List ℕ) (x m : Numeral) {p : Option Numeral} (b : Bool) → same s w ≡ b → P w x → (p ≡ Some m → P s m) → cond b (Some x) p ≡ Some m → P s m
word_said P s w x m true e word other h = let is : x ≡ m = cc in subst₂ P (sym (same_texts s w e)) is word
word_said P s w x m false e word other h = other h

after_dash_said : (s : List ℕ) (m : Numeral) → after_dash s ≡ Some m → Says (dash ∷ s) m
unfolding after_dash
after_dash_said s m =
    word_said (λ l x. Says (dash ∷ l) x) s inf_text (infinity true) m (same s inf_text) refl minus_infinite
    (λ h. let u = unsigned_said true s m h in subst (Says (dash ∷ s)) u.is (negative u.unsigned))

without_sign_said : (s : List ℕ) (m : Numeral) → without_sign s ≡ Some m → Says s m
unfolding without_sign
without_sign_said s m =
    word_said Says s inf_text (infinity false) m (same s inf_text) refl infinite
    (word_said Says s nan_text not_a_number m (same s nan_text) refl nan
    (λ h. let u = unsigned_said false s m h in subst (Says s) u.is (Says.bare u.unsigned)))

pub says_what_is_read : (s : List ℕ) (m : Numeral) → numeral_of s ≡ Some m → Says s m
unfolding numeral_of
says_what_is_read [] m h = nothing_said h
says_what_is_read (c ∷ s) m h =
    split (eqb_reads c plus)
    (λ p. let u = unsigned_said false s m (rw (eq-eqb c plus p) at h) in subst₂ (λ b x. Says (b ∷ s) x) (sym p) u.is (positive u.unsigned))
    (λ p. split (eqb_reads c dash)
    (λ q. subst (λ b. Says (b ∷ s) m) (sym q) (after_dash_said s m (rw (ne_eqb c plus p, eq-eqb c dash q) at h)))
    (λ q. without_sign_said (c ∷ s) m (rw (ne_eqb c plus p, ne_eqb c dash q) at h)))

-- a text says one thing
pub says_one : {s : List ℕ} {m n : Numeral} → Says s m → Says s n → m ≡ n
says_one p q = cc (reads_what_it_says p, reads_what_it_says q)
