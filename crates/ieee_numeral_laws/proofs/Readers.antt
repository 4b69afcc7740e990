-- The reader: what it refuses, and what its value means. Assumes nothing.
use Prim.Native.Nat.{ℕ, zero, suc, ◌≤◌, ◌<◌}
use mathlib.Core.Path.{◌≡◌, refl, sym, ap, ap₂, ◌∙◌, subst}
use mathlib.Core.Logic.Iff
use mathlib.Core.Logic.{◌↔◌, ◌⊎◌, inl, inr}
use mathlib.Core.List.{List}
use native.Mathlib.Omega.{arith}
use lib.Dec.{ltb}
use lib.ListN.{length}
use Rattle.algebra.proofs.Products.{order}
use Rattle.ieee.specs.Format.{Format, Fair}
use Rattle.ieee.specs.Round.{Attribute, ties_to_even, ties_to_away, toward_zero, toward_positive, toward_negative}
use Rattle.ieee.specs.Rounded.{attribute_number}
use Rattle.ieee.specs.Refusal.{given, Answer, done, refused, number_of, value_of}
use Rattle.ieee.proofs.Decide.{split, eqb_reads}
use Rattle.ieee.proofs.Refusals.{given_first, given_none, first_here, first_later, none_later, none_last, Tells, tells, tells_not, ltb_tells, either, same_at}
use Rattle.ieee.proofs.Attributes.{answer_met, answer_met_unique}
use Rattle.ieee_numeral_laws.specs.Numeral.{Numeral, number, infinity, not_a_number, Says}
use Rattle.std.specs.Prelude.{Option, Some, None}
use Rattle.ieee_numeral_laws.specs.Reading.{numeral_of}
use Rattle.ieee_numeral_laws.specs.Read.{exact_numeral, value_in, outside, read_refusals, read_by, read_in, read_of, read_rounded}
use Rattle.ieee_numeral_laws.specs.ReadRule.{InGrammar, ReadRefusals, ReadValue, ReadAs}
use Rattle.ieee_numeral_laws.proofs.Said.{nothing_said}
use Rattle.ieee_numeral_laws.proofs.Grammar.{reads_what_it_says, says_what_is_read}

-- ---- the numbers of attributes
pub read_plain : (f : Format) (s : List ℕ) → read_of f s ≡ read_rounded f 0 s
unfolding read_of read_rounded
read_plain f s = refl

pub read_under : (f : Format) (a : Attribute) (s : List ℕ) → read_rounded f (attribute_number a) s ≡ read_in f a s
unfolding read_rounded
read_under f ties_to_even s = refl
read_under f ties_to_away s = refl
read_under f toward_zero s = refl
read_under f toward_positive s = refl
read_under f toward_negative s = refl

pub no_attribute : (f : Format) (n : ℕ) (s : List ℕ) → 5 ≤ n → read_rounded f n s ≡ refused 10
unfolding read_rounded
no_attribute f (suc (suc (suc (suc (suc n))))) s l = refl
no_attribute f zero s l = absurd (omega arith)
no_attribute f (suc zero) s l = absurd (omega arith)
no_attribute f (suc (suc zero)) s l = absurd (omega arith)
no_attribute f (suc (suc (suc zero))) s l = absurd (omega arith)
no_attribute f (suc (suc (suc (suc zero)))) s l = absurd (omega arith)

attribute_of_lem : (n : ℕ) → n < 5 → (a : Attribute) × (attribute_number a ≡ n)
attribute_of_lem zero l = (ties_to_even, refl)
attribute_of_lem (suc zero) l = (toward_zero, refl)
attribute_of_lem (suc (suc zero)) l = (toward_negative, refl)
attribute_of_lem (suc (suc (suc zero))) l = (toward_positive, refl)
attribute_of_lem (suc (suc (suc (suc zero)))) l = (ties_to_away, refl)
attribute_of_lem (suc (suc (suc (suc (suc n))))) l = absurd (omega arith)

pub by_number : (f : Format) (n : ℕ) (s : List ℕ) (a : Attribute) → attribute_number a ≡ n → read_rounded f n s ≡ read_in f a s
by_number f n s a e = ap (λ k. read_rounded f k s) (sym e) ∙ read_under f a s

-- ---- the refusals under an attribute
record InRefusals (s : List ℕ) (k : ℕ) : Type 0 where
  six : (k ≡ 6) ↔ (64 < length s)
  seven : (k ≡ 7) ↔ ((length s ≤ 64) × (InGrammar s → ⊥))
  none : (k ≡ 0) ↔ ((length s ≤ 64) × InGrammar s)
  only : (k ≡ 0) ⊎ (k ≡ 6) ⊎ (k ≡ 7)

-- where the test tells whether the text is in the grammar
module _ (s : List ℕ) (unread : Tells (InGrammar s → ⊥) (InGrammar s) (outside (numeral_of s))) where
  long : Tells (64 < length s) (length s ≤ 64) (ltb 64 (length s))
  long = ltb_tells 64 (length s)

  given_refusals : InRefusals s (given (read_refusals s))
  given_refusals = record { six = six; seven = seven; none = none; only = only }
    where
      k : ℕ
      k = given (read_refusals s)

      six : (k ≡ 6) ↔ (64 < length s)
      six = Iff.trans (given_first (read_refusals s) 6 (omega arith)) (first_here long (omega arith))

      seven : (k ≡ 7) ↔ ((length s ≤ 64) × (InGrammar s → ⊥))
      seven = Iff.trans (given_first (read_refusals s) 7 (omega arith)) (first_later long (omega arith) (first_here unread tt))

      none : (k ≡ 0) ↔ ((length s ≤ 64) × InGrammar s)
      none = Iff.trans (given_none (read_refusals s) (omega arith)) (none_later long (none_last unread))

      only : (k ≡ 0) ⊎ (k ≡ 6) ⊎ (k ≡ 7)
      only =
          either long (λ l. inr (inl (six.1 l))) (λ l.
          either unread (λ n. inr (inr (seven.1 (l, n)))) (λ g.
          inl (none.1 (l, g))))

-- it does
unread : (s : List ℕ) → Tells (InGrammar s → ⊥) (InGrammar s) (outside (numeral_of s))
unread s = go (numeral_of s) refl
  where
    go : (p : Option Numeral) → numeral_of s ≡ p → Tells (InGrammar s → ⊥) (InGrammar s) (outside p)
    go (Some m) e = let g : InGrammar s = record { numeral = m; says = says_what_is_read s m e } in tells_not (λ n. n g) g
    go None e = let n : InGrammar s → ⊥ = λ g. nothing_said (sym e ∙ reads_what_it_says g.says) in tells n n

-- the answer's number is the refusal's
number_by : (f : Format) (a : Attribute) (p : Option Numeral) (k : ℕ) → (k ≡ 0 → p ≡ None → ⊥) → number_of (read_by f a p k) ≡ k
unfolding read_by
number_by f a (Some m) zero n = refl
number_by f a None zero n = absurd (n refl refl)
number_by f a (Some m) (suc k) n = refl
number_by f a None (suc k) n = refl

number_is : (f : Format) (a : Attribute) (s : List ℕ) → InRefusals s (given (read_refusals s)) → number_of (read_in f a s) ≡ given (read_refusals s)
unfolding read_in
number_is f a s r = number_by f a (numeral_of s) (given (read_refusals s)) (λ z e. nothing_said (sym e ∙ reads_what_it_says (r.none.0 z).1.says))

in_refusals : (f : Format) (a : Attribute) (s : List ℕ) → InRefusals s (number_of (read_in f a s))
in_refusals f a s = let r = given_refusals s (unread s) in subst (InRefusals s) (sym (number_is f a s r)) r

-- ---- the answer, by the text's length and what is read of it
read_by_lem : (f : Format) (a : Attribute) (s : List ℕ) (p : Option Numeral) (k : ℕ) → numeral_of s ≡ p → given (read_refusals s) ≡ k → read_in f a s ≡ read_by f a p k
unfolding read_in
read_by_lem f a s p k e g = ap₂ (read_by f a) e g

module _ (f : Format) (a : Attribute) (s : List ℕ) where
  pub read_too_long : 64 < length s → read_in f a s ≡ refused 6
  unfolding read_by
  read_too_long l = read_by_lem f a s (numeral_of s) 6 refl ((given_refusals s (unread s)).six.1 l)

  pub read_outside : length s ≤ 64 → numeral_of s ≡ None → read_in f a s ≡ refused 7
  unfolding read_by
  read_outside l e = read_by_lem f a s None 7 e ((given_refusals s (unread s)).seven.1 (l, λ g. nothing_said (sym e ∙ reads_what_it_says g.says)))

  pub read_done : (m : Numeral) → length s ≤ 64 → numeral_of s ≡ Some m → read_in f a s ≡ done (value_in f a m)
  unfolding read_by
  read_done m l e = read_by_lem f a s (Some m) 0 e ((given_refusals s (unread s)).none.1 (l, record { numeral = m; says = says_what_is_read s m e }))

-- ---- the refusals by the attribute's number
known_attribute : {n k : ℕ} {s : List ℕ} → n < 5 → InRefusals s k → ReadRefusals n s k
known_attribute {n} {k} {s} l r =
    record {
      ten = (λ e. absurd (few r.only e), λ h. absurd (omega arith));
      six = (λ e. (l, r.six.0 e), λ h. r.six.1 h.1);
      seven = (λ e. (l, r.seven.0 e), λ h. r.seven.1 h.1);
      none = (λ e. (l, r.none.0 e), λ h. r.none.1 h.1);
      only = all r.only;
    }
  where
    few : (k ≡ 0) ⊎ (k ≡ 6) ⊎ (k ≡ 7) → k ≡ 10 → ⊥
    few (inl h) e = omega arith
    few (inr (inl h)) e = omega arith
    few (inr (inr h)) e = omega arith

    all : (k ≡ 0) ⊎ (k ≡ 6) ⊎ (k ≡ 7) → (k ≡ 0) ⊎ (k ≡ 6) ⊎ (k ≡ 7) ⊎ (k ≡ 10)
    all (inl h) = inl h
    all (inr (inl h)) = inr (inl h)
    all (inr (inr h)) = inr (inr (inl h))

unknown_attribute : {n : ℕ} {s : List ℕ} → 5 ≤ n → ReadRefusals n s 10
unknown_attribute {n} l =
    record {
      ten = (λ e. l, λ h. refl);
      six = (λ e. absurd (omega arith), λ h. absurd (omega (arith, h.0)));
      seven = (λ e. absurd (omega arith), λ h. absurd (omega (arith, h.0)));
      none = (λ e. absurd (omega arith), λ h. absurd (omega (arith, h.0)));
      only = inr (inr (inr refl));
    }

read_refusals_same : {n i j : ℕ} {s : List ℕ} → ReadRefusals n s i → ReadRefusals n s j → i ≡ j
read_refusals_same {i = i} {j} p q = go p.only
  where
    go : (i ≡ 0) ⊎ (i ≡ 6) ⊎ (i ≡ 7) ⊎ (i ≡ 10) → i ≡ j
    go (inl h) = same_at p.none q.none h
    go (inr (inl h)) = same_at p.six q.six h
    go (inr (inr (inl h))) = same_at p.seven q.seven h
    go (inr (inr (inr h))) = same_at p.ten q.ten h

-- ---- the value
refused_zero : (r : Answer) → (number_of r ≡ 0 → ⊥) → value_of r ≡ 0
refused_zero (done v) n = absurd (n refl)
refused_zero (refused k) n = refl

value_is : (f : Format) (a : Attribute) (m : Numeral) (s : List ℕ) → Says s m → number_of (read_in f a s) ≡ 0 → value_of (read_in f a s) ≡ value_in f a m
value_is f a m s h z = ap value_of (read_done f a s m ((in_refusals f a s).none.0 z).0 (reads_what_it_says h))

module _ (f : Format) (g : Fair f) where
  value_met : (a : Attribute) (m : Numeral) → ReadValue f a m (value_in f a m)
  unfolding value_in
  value_met a (number s d k e) = answer_met f g a s (exact_numeral f s d k e)
  value_met a (infinity s) = refl
  value_met a not_a_number = refl

  value_one : (a : Attribute) (m : Numeral) (q r : ℕ) → ReadValue f a m q → ReadValue f a m r → q ≡ r
  value_one a (number s d k e) q r p o = answer_met_unique f g a s (exact_numeral f s d k e) q r p o
  value_one a (infinity s) q r p o = p ∙ sym o
  value_one a not_a_number q r p o = p ∙ sym o

  -- ---- the whole answer
  pub read_as : (n : ℕ) (s : List ℕ) → ReadAs f n s (read_rounded f n s)
  read_as n s = record { refusals = order 5 n unknown known; no_value = refused_zero (read_rounded f n s); value = value }
    where
      unknown : 5 ≤ n → ReadRefusals n s (number_of (read_rounded f n s))
      unknown l = subst (λ r. ReadRefusals n s (number_of r)) (sym (no_attribute f n s l)) (unknown_attribute l)

      known : n < 5 → ReadRefusals n s (number_of (read_rounded f n s))
      known l = let (a, e) = attribute_of_lem n l in subst (λ r. ReadRefusals n s (number_of r)) (sym (by_number f n s a e)) (known_attribute l (in_refusals f a s))

      value : number_of (read_rounded f n s) ≡ 0 → (a : Attribute) → attribute_number a ≡ n → (m : Numeral) → Says s m → ReadValue f a m (value_of (read_rounded f n s))
      value z a e m h =
          let b = by_number f n s a e in
          subst (ReadValue f a m) (sym (ap value_of b ∙ value_is f a m s h (sym (ap number_of b) ∙ z))) (value_met a m)

  pub read_settled : (n : ℕ) (s : List ℕ) (r : Answer) → ReadAs f n s r → (number_of r ≡ number_of (read_rounded f n s)) × (value_of r ≡ value_of (read_rounded f n s))
  read_settled n s r p =
      let q = read_as n s in
      let same : number_of r ≡ number_of (read_rounded f n s) = read_refusals_same p.refusals q.refusals in
      (same, split (eqb_reads (number_of r) 0) (value same) (λ z. p.no_value z ∙ sym (q.no_value (λ h. z (same ∙ h)))))
    where
      value : number_of r ≡ number_of (read_rounded f n s) → number_of r ≡ 0 → value_of r ≡ value_of (read_rounded f n s)
      value same z =
          let (l, (short, m)) = p.refusals.none.0 z in
          let (a, e) = attribute_of_lem n l in
          value_one a m.numeral (value_of r) (value_of (read_rounded f n s)) (p.value z a e m.numeral m.says) ((read_as n s).value (sym same ∙ z) a e m.numeral m.says)
