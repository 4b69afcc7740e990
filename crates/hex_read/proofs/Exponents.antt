-- Laws of a numeral's exponent: decimal digits read whole are those at the front of a text, if they are all of it; and a sign before them. Assumes nothing.
use Prim.Native.Nat.{ℕ, suc, ◌+◌, ◌-◌, ◌*◌, ◌^◌, ◌≤◌, ◌<◌}
use mathlib.Core.Path.{◌≡◌, refl, sym, ap, ◌∙◌}
use mathlib.Core.Bool.{Bool, true, false, ◌&&◌, ◌||◌, cond}
use mathlib.Core.List.{List, [], ◌∷◌}
use native.Mathlib.Nat.{pow-le-pow_right}
use native.Mathlib.Omega.{arith}
use lib.Dec.{leb, eqb}
use mir.Val.{bool_byte}
use lib.IntN.{ℤ, pos, neg_ℤ}
use lib.ListN.{length, take, drop, get_or}
use borrow.Author.Tests.{lt-ltb, le-ltb, le-leb, lt-leb, eqb-true}
use Rattle.algebra.proofs.Products.{order}
use Rattle.text_numbers.specs.Digits.{digit_of, read_on}
use Rattle.ieee.specs.Pattern.{with_sign}
use Rattle.text_numbers.proofs.Parts.{rest_whole}
use Rattle.text_numbers.proofs.Reading.{read_below}
use Rattle.std.specs.Prelude.{Option, Some, None}
use Rattle.ieee_numeral_laws.specs.Reading.{Run, run, at_end, few_by, few_of, exponent_of}

-- ---- digits read whole
module _ (b : ℕ) where
  not_wrong : {w : ℕ} → None ≡ Some w → ⊥
  not_wrong e = let z : ◌≡◌ {A = ℕ} 0 1 = cc in omega arith

  run_all : (v n : ℕ) (s : List ℕ) (w : ℕ) → read_on b v s ≡ Some w → run b v n s ≡ record { spelt = w; count = n + length s; rest = [] }
  unfolding read_on run
  run_all v n [] w e = let same : v ≡ w = cc in let none : n + length {A = ℕ} [] ≡ n = omega arith in rw (same, none)
  run_all v n (c ∷ s) w e =
      order b (digit_of c)
      (λ l. absurd (not_wrong (rw (le-ltb (digit_of c) b l) at e)))
      (λ l. let sum : n + suc (length s) ≡ suc n + length s = omega arith in
      rw (lt-ltb (digit_of c) b l, sum) (run_all (v * b + digit_of c) (suc n) s w (rw (lt-ltb (digit_of c) b l) at e)))

  run_some : (v n : ℕ) (s : List ℕ) → read_on b v s ≡ None → at_end (run b v n s).rest ≡ false
  unfolding read_on run
  run_some v n [] e = absurd (not_wrong (sym e))
  run_some v n (c ∷ s) e =
      order b (digit_of c)
      (λ l. rw (le-ltb (digit_of c) b l))
      (λ l. rw (lt-ltb (digit_of c) b l) (run_some (v * b + digit_of c) (suc n) s (rw (lt-ltb (digit_of c) b l) at e)))

-- ---- one to five, to the end
not_second : (x y z : Bool) → y ≡ false → (x && y && z) ≡ false
not_second true y z e = rw e
not_second false y z e = refl

not_third : (x y z : Bool) → z ≡ false → (x && y && z) ≡ false
not_third true true z e = rw e
not_third true false z e = refl
not_third false y z e = refl

module _ (sign : ℕ → ℤ) where
  by_count : (r : Run) → 5 < r.count → few_by sign r ≡ None
  unfolding few_by
  by_count r l = ap (λ (t : Bool). cond t (Some (sign r.spelt)) None) (not_second (leb 1 r.count) (leb r.count 5) (at_end r.rest) (lt-leb r.count 5 l))

  by_rest : (r : Run) → at_end r.rest ≡ false → few_by sign r ≡ None
  unfolding few_by
  by_rest r e = ap (λ (t : Bool). cond t (Some (sign r.spelt)) None) (not_third (leb 1 r.count) (leb r.count 5) (at_end r.rest) e)

  by_all : (r : Run) → 1 ≤ r.count → r.count ≤ 5 → at_end r.rest ≡ true → few_by sign r ≡ Some (sign r.spelt)
  unfolding few_by
  by_all r l m e = rw (le-leb 1 r.count l, le-leb r.count 5 m, e)

module _ (sign : ℕ → ℤ) (s : List ℕ) where
  few_number : (w : ℕ) → 1 ≤ length s → length s ≤ 5 → read_on 10 0 s ≡ Some w → few_of sign s ≡ Some (sign w)
  unfolding few_of
  few_number w l m e = ap (few_by sign) (run_all 10 0 0 s w e) ∙ by_all sign (record { spelt = w; count = 0 + length s; rest = [] }) (omega arith) (omega arith) refl

  pub few_wrong : read_on 10 0 s ≡ None → few_of sign s ≡ None
  unfolding few_of
  few_wrong e = by_rest sign (run 10 0 0 s) (run_some 10 0 0 s e)

  few_many : (d : Option ℕ) → read_on 10 0 s ≡ d → 5 < length s → few_of sign s ≡ None
  unfolding few_of
  few_many (Some w) e l = ap (few_by sign) (run_all 10 0 0 s w e) ∙ by_count sign (record { spelt = w; count = 0 + length s; rest = [] }) (omega arith)
  few_many None e l = few_wrong e

  pub few_long : 5 < length s → few_of sign s ≡ None
  few_long = few_many (read_on 10 0 s) refl

pub few_none : (sign : ℕ → ℤ) (s : List ℕ) → length s ≡ 0 → few_of sign s ≡ None
unfolding few_of few_by run
few_none sign [] e = refl
few_none sign (c ∷ s) e = absurd (omega arith)

pub few_small : (s : List ℕ) (w : ℕ) → length s ≤ 5 → Some w ≡ read_on 10 0 s → w < 10 ^ 5
few_small s w m e = omega (arith, read_below 10 0 s w (sym e), pow-le-pow_right {n = 10} (omega arith) m)

pub few_some : (sign : ℕ → ℤ) (s : List ℕ) (w : ℕ) → 1 ≤ length s → length s ≤ 5 → Some w ≡ read_on 10 0 s → Some (sign w) ≡ few_of sign s
few_some sign s w l m e = sym (few_number sign s w l m (sym e))

-- ---- the sign
pub exponent_none : (s : List ℕ) → length s ≤ 0 → exponent_of s ≡ None
unfolding exponent_of
exponent_none [] e = refl
exponent_none (c ∷ s) e = absurd (omega arith)

signed_by : (c : ℕ) (s : List ℕ) (p q : Bool) → (p ≡ true → q ≡ true → ⊥)
    → cond p (few_of pos s) (cond q (few_of (λ n. neg_ℤ (pos n)) s) (few_of pos (c ∷ s))) ≡ few_of (with_sign q) (drop (cond (p || q) 1 0) (c ∷ s))
signed_by c s true true f = absurd (f refl refl)
signed_by c s true false f = refl
signed_by c s false true f = refl
signed_by c s false false f = refl

pub exponent_signed : (s : List ℕ) → 0 < length s
    → exponent_of s ≡ few_of (with_sign (eqb (get_or s 0 0) 45)) (drop (cond (eqb (get_or s 0 0) 43 || eqb (get_or s 0 0) 45) 1 0) s)
unfolding exponent_of
exponent_signed [] l = absurd (omega arith)
exponent_signed (c ∷ s) l = signed_by c s (eqb c 43) (eqb c 45) (λ p q. omega (arith, eqb-true c 43 p, eqb-true c 45 q))

pub offset : (t : Bool) → bool_byte t ≡ cond t 1 0
offset true = refl
offset false = refl

-- the part of a text after its sign, by its first byte and the code's offset
pub exponent_part : (s : List ℕ) (b start : ℕ) → b ≡ get_or s 0 0 → 0 < length s → start ≡ bool_byte (eqb b 43 || eqb b 45)
    → few_of (with_sign (eqb b 45)) (take (length s - start) (drop start s)) ≡ exponent_of s
exponent_part s b start is l e =
    rw (rest_whole start s, e, offset (eqb b 43 || eqb b 45), is) (sym (exponent_signed s l))
