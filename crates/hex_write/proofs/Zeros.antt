-- The zeros at the end of hexadecimal digits, counted by the bits below the lowest one: what is left without them. Assumes nothing.
use Prim.Native.Nat.{ℕ, zero, suc, ◌+◌, ◌-◌, ◌*◌, ◌/◌, ◌%◌, ◌^◌, ◌≤◌, ◌<◌}
use mathlib.Core.Path.{◌≡◌, refl, sym, ap, ◌∙◌}
use mathlib.Core.List.{List, [], ◌∷◌, ◌++◌}
use native.Mathlib.Nat.{add-suc, two-pow-succ}
use native.Mathlib.Omega.{arith}
use borrow.Author.Tests.{ne_eqb, lt-ltb, le-ltb}
use lib.Count.{count_trailing_zeros, under}
use lib.Pow.{pow-add, pow_mono, shl-shr}
use Rattle.algebra.proofs.Powers.{pow_inj_lt}
use Rattle.algebra.proofs.Products.{order, times, times_le}
use Rattle.text_numbers.specs.Digits.{glyph_of, digits_of}
use Rattle.ieee_numeral_laws.specs.Write.{kept_before, trimmed}

-- ---- the last digit
zero_goes : (s : List ℕ) → trimmed (s ++ (48 ∷ [])) ≡ trimmed s
unfolding trimmed
zero_goes [] = refl
zero_goes (c ∷ s) = ap (kept_before c) (zero_goes s)

before_last : (c : ℕ) (s : List ℕ) (g : ℕ) → kept_before c (s ++ (g ∷ [])) ≡ c ∷ (s ++ (g ∷ []))
before_last c [] g = refl
before_last c (d ∷ s) g = refl

other_stays : (s : List ℕ) (g : ℕ) → (g ≡ 48 → ⊥) → trimmed (s ++ (g ∷ [])) ≡ s ++ (g ∷ [])
unfolding trimmed
other_stays [] g n = simp (ne_eqb g 48 n)
other_stays (c ∷ s) g n = ap (kept_before c) (other_stays s g n) ∙ before_last c s g

glyph_some : (d : ℕ) → 0 < d → glyph_of d ≡ 48 → ⊥
glyph_some d p e = order 10 d (λ l. omega (arith, simp (le-ltb d 10 l) at e)) (λ l. omega (arith, simp (lt-ltb d 10 l) at e))

-- ---- the digits of m, with z zeros behind them
zeros_go : (z k m : ℕ) → trimmed (digits_of 16 (k + z) (m * 2 ^ (4 * z))) ≡ trimmed (digits_of 16 k m)
unfolding digits_of
zeros_go zero k m =
    let a : k + 0 ≡ k = omega arith in
    let b : m * 1 ≡ m = omega arith in
    ap (λ i. trimmed (digits_of 16 i (m * 1))) a ∙ ap (λ n. trimmed (digits_of 16 k n)) b
zeros_go (suc z) k m =
    let n : ℕ = m * 2 ^ (4 * suc z) in
    let p : 2 ^ (4 * suc z) ≡ 2 ^ (4 * z) * 16 = ap (λ i. 2 ^ i) (times_suc z) ∙ pow-add 2 (4 * z) 4 in
    let e : n ≡ m * 2 ^ (4 * z) * 16 = omega (arith, times m p) in
    let q : n / 16 ≡ m * 2 ^ (4 * z) = omega arith in
    let r : n % 16 ≡ 0 = omega arith in
    ap (λ i. trimmed (digits_of 16 i n)) (add-suc k z)
    ∙ ap (λ d. trimmed (digits_of 16 (k + z) (n / 16) ++ (glyph_of d ∷ []))) r
    ∙ zero_goes (digits_of 16 (k + z) (n / 16))
    ∙ ap (λ i. trimmed (digits_of 16 (k + z) i)) q
    ∙ zeros_go z k m
  where
    times_suc : (i : ℕ) → 4 * suc i ≡ 4 * i + 4
    times_suc i = omega arith

digits_stay : (k m : ℕ) → 0 < k → (m % 16 ≡ 0 → ⊥) → trimmed (digits_of 16 k m) ≡ digits_of 16 k m
unfolding digits_of
digits_stay zero m p n = absurd (omega arith)
digits_stay (suc k) m p n = other_stays (digits_of 16 k (m / 16)) (glyph_of (m % 16)) (glyph_some (m % 16) (omega (arith, n)))

pub none_stays : (h : ℕ) → trimmed (digits_of 16 h 0) ≡ []
unfolding digits_of trimmed
none_stays zero = refl
none_stays (suc h) = zero_goes (digits_of 16 h 0) ∙ none_stays h

-- ---- the bits below the lowest one
record Odd (n t : ℕ) : Type 0 where
  q : ℕ
  odd : q % 2 ≡ 1
  is : q * 2 ^ t ≡ n

trailing_odd : (k n : ℕ) → 0 < n → n < 2 ^ k → Odd n (count_trailing_zeros k n)
unfolding count_trailing_zeros
trailing_odd zero n p l = absurd (omega arith)
trailing_odd (suc k) n p l = by_digit (n % 2) refl (λ e. trailing_odd k (n / 2) (omega arith) (omega (arith, two-pow-succ k)))
  where
    by_digit : (d : ℕ) → n % 2 ≡ d → (n % 2 ≡ 0 → Odd (n / 2) (count_trailing_zeros k (n / 2))) → Odd n (under d (count_trailing_zeros k (n / 2)))
    by_digit zero e rest =
        let o = rest e in
        record { q = o.q; odd = o.odd; is = omega (arith, o.is, times o.q (two-pow-succ (count_trailing_zeros k (n / 2)))) }
    by_digit (suc d) e rest = record { q = n; odd = omega arith; is = omega arith }

not_even : (q j : ℕ) → q % 2 ≡ 1 → q ≡ j * 2 → ⊥
not_even q j o e = omega arith

-- an odd number and up to three bits behind it
some_digit : (q r : ℕ) → q % 2 ≡ 1 → r < 4 → q * 2 ^ r % 16 ≡ 0 → ⊥
some_digit q zero o l e = not_even q (q * 1 / 16 * 8) o (omega arith)
some_digit q (suc zero) o l e = not_even q (q * 2 / 16 * 4) o (omega arith)
some_digit q (suc (suc zero)) o l e = not_even q (q * 4 / 16 * 2) o (omega arith)
some_digit q (suc (suc (suc zero))) o l e = not_even q (q * 8 / 16) o (omega arith)
some_digit q (suc (suc (suc (suc r)))) o l e = omega arith

-- so a quarter of their count is that of the zeros at the end of n's h digits
pub trimmed_by_bits : (h n : ℕ) → 0 < n → n < 2 ^ (4 * h) → 4 * h ≤ 64 → let z = count_trailing_zeros 64 n / 4 in
    (z < h) × (digits_of 16 (h - z) (n / 2 ^ (4 * z)) ≡ trimmed (digits_of 16 h n))
trimmed_by_bits h n p l w =
    let t : ℕ = count_trailing_zeros 64 n in
    let z : ℕ = t / 4 in
    let o = trailing_odd 64 n p (omega (arith, pow_mono {i = 4 * h} {j = 64} w)) in
    let m : ℕ = o.q * 2 ^ (t % 4) in
    let split : t ≡ t % 4 + 4 * z = omega arith in
    let power : 2 ^ t ≡ 2 ^ (t % 4) * 2 ^ (4 * z) = ap (λ i. 2 ^ i) split ∙ pow-add 2 (t % 4) (4 * z) in
    let e : m * 2 ^ (4 * z) ≡ n = omega (arith, o.is, times o.q power) in
    let last : m % 16 ≡ 0 → ⊥ = some_digit o.q (t % 4) o.odd (omega arith) in
    let some : 1 ≤ m = omega (arith, last) in
    let fewer : z < h = let c = pow_inj_lt (4 * z) (4 * h) (omega (arith, times_le (2 ^ (4 * z)) some)) in omega arith in
    let d : n / 2 ^ (4 * z) ≡ m = ap (λ i. i / 2 ^ (4 * z)) (sym e) ∙ shl-shr m (4 * z) in
    let all : h - z + z ≡ h = omega arith in (
      fewer,
      ap (digits_of 16 (h - z)) d
          ∙ sym (digits_stay (h - z) m (omega arith) last)
          ∙ sym (zeros_go z (h - z) m)
          ∙ ap (λ i. trimmed (digits_of 16 i (m * 2 ^ (4 * z)))) all
          ∙ ap (λ i. trimmed (digits_of 16 h i)) e,
    )
