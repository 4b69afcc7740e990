-- Digits at the front of a text: `run` takes all of them, and what it takes are digits. Assumes nothing.
use Prim.Native.Nat.{ℕ, suc, ◌+◌, ◌*◌, ◌^◌, ◌≤◌}
use mathlib.Core.Path.{◌≡◌, refl, ap, ◌∙◌}
use mathlib.Core.List.{List, [], ◌∷◌, ◌++◌}
use native.Mathlib.Nat.{pow-zero, pow-succ'}
use native.Mathlib.Omega.{arith}
use lib.ListN.{length}
use borrow.Author.Tests.{lt-ltb, le-ltb}
use Rattle.algebra.proofs.Products.{order}
use Rattle.text_numbers.specs.Digits.{digit_of}
use Rattle.ieee_numeral_laws.specs.Numeral.{Digits, none, first}
use Rattle.ieee_numeral_laws.specs.Reading.{Run, run}

-- what follows the digits of base b: the end of the text, or a byte that is none of them
pub data Stops (b : ℕ) : List ℕ → Type 0 where
  at_end_lem : Stops b []
  at_other : {c : ℕ} {s : List ℕ} → b ≤ digit_of c → Stops b (c ∷ s)

abbrev pub parts : ℕ → ℕ → List ℕ → Run
parts v n s = record { spelt = v; count = n; rest = s }

same_parts : {v w n m : ℕ} (s : List ℕ) → v ≡ w → n ≡ m → parts v n s ≡ parts w m s
same_parts s p q = λ i. parts (p i) (q i) s

-- one digit more before k others: its weight is theirs
weighed : (b v c d k : ℕ) → (v * b + c) * b ^ k + d ≡ v * b ^ suc k + (c * b ^ k + d)
weighed b v c d k = rw pow-succ' (omega arith)

-- all the digits are taken, after n others that spell v
pub digits_run : {b d : ℕ} {s t : List ℕ} → Digits b s d → Stops b t → (v n : ℕ) → run b v n (s ++ t) ≡ parts (v * b ^ length s + d) (n + length s) t
unfolding run
digits_run {b} none at_end_lem v n = same_parts [] (rw pow-zero (omega arith)) (omega arith)
digits_run {b} none (at_other {c} {s} h) v n = rw (le-ltb (digit_of c) b h) (same_parts (c ∷ s) (rw pow-zero (omega arith)) (omega arith))
digits_run {b} {t = t} (first {c = c} {n = d} {s} h r) e v n =
    rw (lt-ltb (digit_of c) b h) (digits_run r e (v * b + digit_of c) (suc n) ∙ same_parts t (weighed b v (digit_of c) d (length s)) (omega arith))

-- what is taken of s after n digits that spell v: digits, and no digit follows them
pub record Taken (b v n : ℕ) (s : List ℕ) (r : Run) : Type 0 where
  pub digits : List ℕ
  pub spells : ℕ
  pub are_digits : Digits b digits spells
  pub text : s ≡ digits ++ r.rest
  pub spelt : r.spelt ≡ v * b ^ length digits + spells
  pub count : r.count ≡ n + length digits
  pub stops : Stops b r.rest

none_taken : {b v n : ℕ} {s : List ℕ} → Stops b s → Taken b v n s (parts v n s)
none_taken {b} h = record { digits = []; spells = 0; are_digits = none; text = refl; spelt = rw pow-zero (omega arith); count = omega arith; stops = h }

one_taken : {b v n c : ℕ} {s : List ℕ} {r : Run} → suc (digit_of c) ≤ b → Taken b (v * b + digit_of c) (suc n) s r → Taken b v n (c ∷ s) r
one_taken {b} {v} {n} {c} {s} h t =
    record {
      digits = c ∷ t.digits;
      spells = digit_of c * b ^ length t.digits + t.spells;
      are_digits = first h t.are_digits;
      text = ap (λ l. c ∷ l) t.text;
      spelt = t.spelt ∙ weighed b v (digit_of c) t.spells (length t.digits);
      count = omega (arith, t.count);
      stops = t.stops;
    }

pub run_taken : (b v n : ℕ) (s : List ℕ) → Taken b v n s (run b v n s)
unfolding run
run_taken b v n [] = none_taken at_end_lem
run_taken b v n (c ∷ s) =
    order b (digit_of c)
    (λ l. rw (le-ltb (digit_of c) b l) (none_taken (at_other l)))
    (λ l. rw (lt-ltb (digit_of c) b l) (one_taken l (run_taken b (v * b + digit_of c) (suc n) s)))
