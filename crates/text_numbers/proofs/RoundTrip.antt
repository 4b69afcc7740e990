-- Reading gives back what was written: digits in every base up to sixteen, words, and numbers without and with a sign. Assumes nothing.
use mathlib.Core.Path.{◌≡◌, sym, ap, ◌∙◌}
use mathlib.Core.Bool.{false}
use mathlib.Core.List.{List, [], ◌∷◌, ◌++◌, append_assoc, append-nil}
use Prim.Native.Nat.{ℕ, zero, suc, ◌+◌, ◌-◌, ◌*◌, ◌/◌, ◌%◌, ◌^◌, ◌≤◌, ◌<◌}
use native.Mathlib.Nat.{pow-zero, pow-suc, pow-succ', div-one, div-div-eq-div-mul, div-lt_iff_lt-mul, le-div_iff_mul-le, one-le-pow, mod-eq_of_lt}
use native.Mathlib.Omega.{arith}
use lib.ListN.{length, get_or, get_or-append}
use lib.IntN.{ℤ, pos, negsuc, nat_abs}
use mir.Syntax.{w32}
use mir.Val.{SFits}
use borrow.Author.Tests.{lt-ltb, le-ltb, eq-eqb, ne_eqb}
use Rattle.algebra.proofs.Products.{order}
use Rattle.algebra.proofs.Quotients.{div_mod}
use Rattle.std.specs.Prelude.{Some, Ok}
use Rattle.text_numbers.specs.Digits.{digit_of, glyph_of, read_on, digits_of}
use Rattle.text_numbers.specs.Written.{signed_digits, Fewest}
use Rattle.text_numbers.specs.Fields.{word_of, leads_with_zero, natural_of, signed_of}
use Rattle.text_numbers.proofs.Placing.{length_digits}

-- a digit's byte is read as the digit
pub glyph_read : (d : ℕ) → d < 16 → digit_of (glyph_of d) ≡ d
glyph_read d h =
    order 10 d
    (λ l.
    simp (
      le-ltb d 10 l,
      le-ltb (87 + d) 48 (omega arith),
      le-ltb (87 + d) 58 (omega arith),
      le-ltb (87 + d) 97 (omega arith),
      lt-ltb (87 + d) 103 (omega arith),
    ) (omega arith))
    (λ l. simp (lt-ltb d 10 l, le-ltb (48 + d) 48 (omega arith), lt-ltb (48 + d) 58 (omega arith)) (omega arith))

-- the digits of n after digits of value v, and before any t
pub digits_read : (b : ℕ) → 1 < b → b ≤ 16 → (k n v : ℕ) (t : List ℕ) → n < b ^ k → read_on b v (digits_of b k n ++ t) ≡ read_on b (v * b ^ k + n) t
unfolding read_on digits_of
digits_read b low high zero n v t h =
    let none : n < 1 = rw pow-zero at h in
    ap (λ (m : ℕ). read_on b m t) (rw pow-zero (omega arith))
digits_read b low high (suc k) n v t h =
    let (whole, less) = div_mod n b (omega arith) in
    let before : n / b < b ^ k = (div-lt_iff_lt-mul {k = b} {x = n} {y = b ^ k} (omega arith)).1 (rw pow-suc at h) in
    ap (read_on b v) (append_assoc (digits_of b k (n / b)) (glyph_of (n % b) ∷ []) t)
    ∙ digits_read b low high k (n / b) v (glyph_of (n % b) ∷ t) before
    ∙ simp (glyph_read (n % b) (omega arith), lt-ltb (n % b) b less)
    (ap (λ (m : ℕ). read_on b m t) (rw pow-suc (omega arith)))

-- the digits of n, alone
pub all_read : (b : ℕ) → 1 < b → b ≤ 16 → (k n : ℕ) → n < b ^ k → read_on b 0 (digits_of b k n) ≡ Some n
unfolding read_on
all_read b low high k n h =
    let e : 0 * b ^ k + n ≡ n = omega arith in
    ap (read_on b 0) (sym (append-nil (digits_of b k n))) ∙ digits_read b low high k n 0 [] h ∙ ap Some e

-- a word is read as it was written
pub word_read : (width x : ℕ) → width ≤ 16 → x < 16 ^ width → word_of width (digits_of 16 width x) ≡ Ok x
unfolding word_of
word_read width x most h =
    simp (eq-eqb _ _ (length_digits 16 width x), le-ltb 16 width most, all_read 16 (omega arith) (omega arith) width x h)

-- the first of several digits
first_digit : (b k n : ℕ) → get_or (digits_of b (suc k) n) 0 0 ≡ glyph_of (n / b ^ k % b)
unfolding digits_of
first_digit b zero n = ap (λ (m : ℕ). glyph_of (m % b)) (sym (ap (λ (d : ℕ). n / d) (pow-zero b) ∙ div-one n))
first_digit b (suc k) n =
    get_or-append (digits_of b (suc k) (n / b)) (glyph_of (n % b) ∷ []) 0 0 (omega (arith, length_digits b (suc k) (n / b)))
    ∙ first_digit b k (n / b)
    ∙ ap (λ (m : ℕ). glyph_of (m % b)) (div-div-eq-div-mul n b (b ^ k) ∙ ap (λ (d : ℕ). n / d) (sym (pow-succ' b k)))

-- the fewest digits of a number do not begin with zero
no_leading_zero : (n k : ℕ) → Fewest n k → leads_with_zero (digits_of 10 k n) ≡ false
unfolding leads_with_zero
no_leading_zero n zero f = absurd (omega (arith, f.some))
no_leading_zero n (suc zero) f = simp (length_digits 10 1 n)
no_leading_zero n (suc (suc j)) f =
    let e : suc (suc j) - 1 ≡ suc j = omega arith in
    let low : 1 * 10 ^ suc j ≤ n = omega (arith, rw e at (f.all (omega arith))) in
    let first : 1 ≤ n / 10 ^ suc j = (le-div_iff_mul-le {k = 10 ^ suc j} {x = 1} {y = n} (one-le-pow (suc j) 10 (omega arith))).1 low in
    let last : n / 10 ^ suc j < 10 = (div-lt_iff_lt-mul {k = 10 ^ suc j} {x = n} {y = 10} (one-le-pow (suc j) 10 (omega arith))).1 (rw pow-succ' at f.hold) in
    simp (length_digits 10 (suc (suc j)) n, lt-ltb 1 (suc (suc j)) (omega arith), first_digit 10 (suc j) n, mod-eq_of_lt last, lt-ltb (n / 10 ^ suc j) 10 last)
    (ne_eqb (48 + n / 10 ^ suc j) 48 (λ z. absurd (omega arith)))

-- a number is read as it was written
pub natural_read : (n k : ℕ) → Fewest n k → natural_of (digits_of 10 k n) ≡ Ok n
unfolding natural_of
natural_read n k f =
    simp (no_leading_zero n k f, length_digits 10 k n, ne_eqb k 0 (λ z. absurd (omega (arith, f.some))), all_read 10 (omega arith) (omega arith) k n f.hold)

-- a digit's byte is not a minus
glyph_no_minus : (d : ℕ) → glyph_of d ≡ 45 → ⊥
glyph_no_minus d =
    order 10 d
    (λ l. simp (le-ltb d 10 l) (λ e. absurd (omega arith)))
    (λ l. simp (lt-ltb d 10 l) (λ e. absurd (omega arith)))

no_minus : (n k : ℕ) → 1 ≤ k → get_or (digits_of 10 k n) 0 0 ≡ 45 → ⊥
no_minus n zero h e = absurd (omega arith)
no_minus n (suc j) h e = glyph_no_minus (n / 10 ^ j % 10) (sym (first_digit 10 j n) ∙ e)

-- a number with a sign is read as it was written
pub signed_read : (z : ℤ) (k : ℕ) → SFits w32 z → Fewest (nat_abs z) k → signed_of (signed_digits z k) ≡ Ok z
unfolding signed_of
signed_read (pos n) k fit f =
    simp (
      ne_eqb _ _ (no_minus n k f.some),
      length_digits 10 k n,
      ne_eqb k 0 (λ e. absurd (omega (arith, f.some))),
      natural_read n k f,
      le-ltb 2147483647 n (omega (arith, fit.sfits)),
    )
signed_read (negsuc n) k fit f =
    simp (
      ne_eqb (suc (length (digits_of 10 k (suc n)))) 0 (λ e. absurd (omega arith)),
      natural_read (suc n) k f,
      ne_eqb (suc n) 0 (λ e. absurd (omega arith)),
      le-ltb 2147483648 (suc n) (omega (arith, fit.sfits)),
    )
