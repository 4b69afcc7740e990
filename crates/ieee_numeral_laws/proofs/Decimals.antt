-- A number in decimal digits: they spell it, they are the fewest that do, and at most so many. Assumes nothing.
use Prim.Native.Nat.{ℕ, zero, suc, ◌-◌, ◌*◌, ◌/◌, ◌%◌, ◌^◌, ◌≤◌, ◌<◌}
use mathlib.Core.Path.{◌≡◌, refl, sym, ◌∙◌, subst}
use mathlib.Core.Bool.{Bool, cond}
use mathlib.Core.List.{List, [], ◌∷◌, ◌++◌}
use native.Mathlib.Nat.{pow-suc}
use native.Mathlib.Omega.{arith}
use borrow.Author.Tests.{lt-ltb, le-ltb}
use lib.ListN.{length, length-append}
use lib.IntN.{ℤ, pos, negsuc, nat_abs}
use Rattle.algebra.proofs.Products.{order}
use Rattle.text_numbers.specs.Digits.{glyph_of}
use Rattle.text_numbers.specs.Written.{Fewest}
use Rattle.ieee_numeral_laws.specs.Numeral.{Digits, Few, Exponent, raised, lowered}
use Rattle.ieee_numeral_laws.specs.Write.{decimal, exponent_text}
use Rattle.ieee_numeral_laws.proofs.Spellings.{spells, digit_spells, digits_join}

-- s is n in decimal digits, at most k + 1
record Decimal (k n : ℕ) (s : List ℕ) : Type 0 where
  digits : Digits 10 s n
  fewest : Fewest n (length s)
  most : length s ≤ suc k

one_digit : (k n : ℕ) → n < 10 → Decimal k n (glyph_of n ∷ [])
one_digit k n l = record { digits = digit_spells (omega arith) l; fewest = record { some = omega arith; hold = l; all = λ h. absurd (omega arith) }; most = omega arith }

-- one more digit behind
digit_behind : {k n : ℕ} {s : List ℕ} → 10 ≤ n → Decimal k (n / 10) s → Decimal (suc k) n (s ++ (glyph_of (n % 10) ∷ []))
digit_behind {k} {n} {s} l d =
    let size : length (s ++ (glyph_of (n % 10) ∷ [])) ≡ suc (length s) = length-append s (glyph_of (n % 10) ∷ []) ∙ omega arith in
    let least : 10 ^ length s ≤ n = by_size (length s) d.fewest in
    let e : suc (length s) - 1 ≡ length s = omega arith in
    let grown : 10 ^ suc (length s) ≡ 10 ^ length s * 10 = pow-suc 10 (length s) in
    record {
      digits = spells (omega arith) (digits_join {n = n % 10} d.digits (digit_spells (omega arith) (omega arith)));
      fewest = rw size (record { some = omega arith; hold = omega (arith, d.fewest.hold); all = λ h. rw e least });
      most = omega (arith, d.most);
    }
  where
    -- a number of several digits without its last one, or of two
    by_size : (j : ℕ) → Fewest (n / 10) j → 10 ^ j ≤ n
    by_size zero w = absurd (omega (arith, w.some))
    by_size (suc zero) w = l
    by_size (suc (suc j)) w =
        let p : 10 ^ suc (suc j) ≡ 10 ^ suc j * 10 = pow-suc 10 (suc j) in
        let e : suc (suc j) - 1 ≡ suc j = omega arith in
        let q : 10 ^ suc j ≤ n / 10 = rw e at (w.all (omega arith)) in
        omega arith

decimal_is : (k n : ℕ) → n < 10 ^ suc k → Decimal k n (decimal k n)
unfolding decimal
decimal_is zero n h = let e : n % 10 ≡ n = omega arith in rw e (one_digit 0 n h)
decimal_is (suc k) n h =
    let p : 10 ^ suc (suc k) ≡ 10 ^ suc k * 10 = pow-suc 10 (suc k) in
    order 10 n
    (λ l. subst by_test (sym (le-ltb n 10 l)) (digit_behind l (decimal_is k (n / 10) (omega arith))))
    (λ l. subst by_test (sym (lt-ltb n 10 l)) (one_digit (suc k) n l))
  where
    by_test : Bool → Type 0
    by_test b = Decimal (suc k) n (cond b (glyph_of n ∷ []) (decimal k (n / 10) ++ (glyph_of (n % 10) ∷ [])))

pub decimal_few : (n : ℕ) → n < 100000 → Few (decimal 4 n) n
decimal_few n h = let d = decimal_is 4 n h in record { digits = d.digits; some = d.fewest.some; most = d.most }

pub decimal_fewest : (n : ℕ) → n < 100000 → Fewest n (length (decimal 4 n))
decimal_fewest n h = (decimal_is 4 n h).fewest

-- ---- with a sign
pub exponent_says : (e : ℤ) → nat_abs e < 100000 → Exponent (exponent_text e) e
unfolding exponent_text
exponent_says (pos n) h = raised (decimal_few n h)
exponent_says (negsuc n) h = lowered (decimal_few (suc n) h)

-- its digits are one fewer than its bytes
pub record Exponents (e : ℤ) (s : List ℕ) : Type 0 where
  pub j : ℕ
  pub fewest : Fewest (nat_abs e) j
  pub size : length s ≡ suc j

pub exponent_fewest : (e : ℤ) → nat_abs e < 100000 → Exponents e (exponent_text e)
unfolding exponent_text
exponent_fewest (pos n) h = record { j = length (decimal 4 n); fewest = decimal_fewest n h; size = refl }
exponent_fewest (negsuc n) h = record { j = length (decimal 4 (suc n)); fewest = decimal_fewest (suc n) h; size = refl }
