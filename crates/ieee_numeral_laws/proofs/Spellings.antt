-- Digits and the numbers that they spell: one digit, two sequences together, the digits of a number. Assumes nothing.
use Prim.Native.Nat.{ℕ, zero, suc, ◌+◌, ◌*◌, ◌/◌, ◌%◌, ◌^◌, ◌≤◌, ◌<◌}
use mathlib.Core.Path.{◌≡◌, refl, ap, ◌∙◌, subst}
use mathlib.Core.List.{List, [], ◌∷◌, ◌++◌}
use native.Mathlib.Nat.{pow-zero, pow-suc, div-lt_iff_lt-mul}
use native.Mathlib.Omega.{arith}
use lib.Pow.{pow-add}
use lib.ListN.{length, length-append}
use Rattle.algebra.proofs.Products.{times, times_le}
use Rattle.algebra.proofs.Quotients.{div_mod}
use Rattle.text_numbers.specs.Digits.{digit_of, glyph_of, digits_of}
use Rattle.text_numbers.proofs.RoundTrip.{glyph_read}
use Rattle.ieee_numeral_laws.specs.Numeral.{Digits, none, first}

pub spells : {b m n : ℕ} {s : List ℕ} → m ≡ n → Digits b s m → Digits b s n
spells {b} {s = s} e d = subst (Digits b s) e d

-- no digits spell zero
pub nothing_spells : {b n : ℕ} → Digits b [] n → n ≡ 0
nothing_spells none = refl

-- one digit
pub digit_spells : {b d : ℕ} → b ≤ 16 → d < b → Digits b (glyph_of d ∷ []) d
digit_spells {b} {d} h l =
    let e : digit_of (glyph_of d) ≡ d = glyph_read d (omega arith) in
    let p : b ^ 0 ≡ 1 = pow-zero b in
    spells (omega (arith, times (b ^ 0) e, times d p)) (first (omega (arith, e)) none)

-- k digits spell less than b ^ k
pub digits_below : {b n : ℕ} {s : List ℕ} → Digits b s n → n < b ^ length s
digits_below {b} none = let p : b ^ 0 ≡ 1 = pow-zero b in omega arith
digits_below {b} (first {c = c} {n = n} {s = s} h d) =
    let below = digits_below d in
    let p : b ^ suc (length s) ≡ b ^ length s * b = pow-suc b (length s) in
    omega (arith, times_le (b ^ length s) h)

-- digits before digits
pub digits_join : {b m n : ℕ} {s t : List ℕ} → Digits b s m → Digits b t n → Digits b (s ++ t) (m * b ^ length t + n)
digits_join {b} {n = n} {t = t} none e = spells (omega arith) e
digits_join {b} {n = n} {t = t} (first {c = c} {n = m} {s = s} h d) e =
    let p : b ^ length (s ++ t) ≡ b ^ length s * b ^ length t = ap (λ k. b ^ k) (length-append s t) ∙ pow-add b (length s) (length t) in
    spells (omega (arith, times (digit_of c) p)) (first h (digits_join d e))

pub digits_length : (b k n : ℕ) → length (digits_of b k n) ≡ k
unfolding digits_of
digits_length b zero n = refl
digits_length b (suc k) n = length-append (digits_of b k (n / b)) (glyph_of (n % b) ∷ []) ∙ omega (arith, digits_length b k (n / b))

-- the digits of a number spell it
pub digits_spell : {b : ℕ} → 1 < b → b ≤ 16 → (k n : ℕ) → n < b ^ k → Digits b (digits_of b k n) n
unfolding digits_of
digits_spell {b} low high zero n h = let p : b ^ 0 ≡ 1 = pow-zero b in spells (omega arith) none
digits_spell {b} low high (suc k) n h =
    let (whole, less) = div_mod n b (omega arith) in
    let before : n / b < b ^ k = (div-lt_iff_lt-mul {k = b} {x = n} {y = b ^ k} (omega arith)).1 (rw pow-suc at h) in
    let p : b ^ 1 ≡ b = pow-suc b 0 ∙ ap (λ q. q * b) (pow-zero b) ∙ omega arith in
    spells (omega (arith, times (n / b) p)) (digits_join (digits_spell low high k (n / b) before) (digit_spells high less))
