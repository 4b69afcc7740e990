-- Digits without the zeros at their end: each zero left away divides the number by sixteen, and the last digit kept is no zero. Assumes nothing.
use Prim.Native.Nat.{ℕ, suc, ◌+◌, ◌*◌, ◌%◌, ◌^◌, ◌≤◌, ◌<◌}
use mathlib.Core.Path.{◌≡◌, refl, sym, ap, ◌∙◌}
use mathlib.Core.List.{List, [], ◌∷◌}
use native.Mathlib.Nat.{pow-suc}
use native.Mathlib.Omega.{arith}
use borrow.Author.Tests.{eq-eqb, ne_eqb, lt-ltb, le-ltb}
use lib.Pow.{pow-add}
use lib.ListN.{length}
use Rattle.algebra.proofs.Products.{order, times}
use Rattle.ieee.proofs.Decide.{split, eqb_reads}
use Rattle.text_numbers.specs.Digits.{digit_of}
use Rattle.ieee_numeral_laws.specs.Numeral.{Digits, none, first}
use Rattle.ieee_numeral_laws.specs.Write.{kept_before, trimmed}
use Rattle.ieee_numeral_laws.proofs.Spellings.{spells, nothing_spells}

-- only `0` is the digit zero
digit_zero : (c : ℕ) → digit_of c ≡ 0 → c ≡ 48
digit_zero c e =
    order 48 c
    (λ a. order 58 c
    (λ b. order 97 c
    (λ d. order 103 c
    (λ g. absurd (omega (arith, simp (le-ltb c 48 a, le-ltb c 58 b, le-ltb c 97 d, le-ltb c 103 g) at e)))
    (λ g. absurd (omega (arith, simp (le-ltb c 48 a, le-ltb c 58 b, le-ltb c 97 d, lt-ltb c 103 g) at e))))
    (λ d. absurd (omega (arith, simp (le-ltb c 48 a, le-ltb c 58 b, lt-ltb c 97 d) at e))))
    (λ b. omega (arith, simp (le-ltb c 48 a, lt-ltb c 58 b) at e)))
    (λ a. absurd (omega (arith, simp (lt-ltb c 48 a) at e)))

-- t is s, which spells n, without its last `zeros` digits, and spells m
pub record Trimmed (s t : List ℕ) (n : ℕ) : Type 0 where
  pub zeros : ℕ
  pub m : ℕ
  pub size : length t + zeros ≡ length s
  pub digits : Digits 16 t m
  pub worth : m * 16 ^ zeros ≡ n
  pub last : 1 ≤ length t → m % 16 ≡ 0 → ⊥

-- one more digit before; none was kept behind it, or some
before_none : {n : ℕ} (c : ℕ) (s : List ℕ) → digit_of c < 16 → Trimmed s [] n → Trimmed (c ∷ s) (kept_before c []) (digit_of c * 16 ^ length s + n)
before_none {n} c s h r =
    let z : r.m ≡ 0 = nothing_spells r.digits in
    let e : n ≡ 0 = sym r.worth ∙ times (16 ^ r.zeros) z ∙ omega arith in
    split (eqb_reads c 48) (λ q. dropped e q) (λ q. kept e q)
  where
    dropped : n ≡ 0 → c ≡ 48 → Trimmed (c ∷ s) (kept_before c []) (digit_of c * 16 ^ length s + n)
    dropped e q =
        rw (eq-eqb c 48 q)
        record { zeros = suc (length s); m = 0; size = omega arith; digits = none; worth = rw q (omega arith); last = λ l. absurd (omega arith) }

    kept : n ≡ 0 → (c ≡ 48 → ⊥) → Trimmed (c ∷ s) (kept_before c []) (digit_of c * 16 ^ length s + n)
    kept e q =
        rw (ne_eqb c 48 q)
        record {
          zeros = length s;
          m = digit_of c;
          size = omega arith;
          digits = spells (omega arith) (first h none);
          worth = omega arith;
          last = λ l y. q (digit_zero c (omega arith));
        }

before_some : {n : ℕ} (c d : ℕ) (s t : List ℕ) → digit_of c < 16 → Trimmed s (d ∷ t) n → Trimmed (c ∷ s) (c ∷ d ∷ t) (digit_of c * 16 ^ length s + n)
before_some {n} c d s t h r =
    let k : ℕ = suc (length t) in
    let p : 16 ^ length s ≡ 16 ^ k * 16 ^ r.zeros = ap (λ i. 16 ^ i) (sym r.size) ∙ pow-add 16 k r.zeros in
    let q : 16 ^ k ≡ 16 ^ length t * 16 = pow-suc 16 (length t) in
    record {
      zeros = r.zeros;
      m = digit_of c * 16 ^ k + r.m;
      size = omega (arith, r.size);
      digits = first h r.digits;
      worth = omega (arith, r.worth, times (digit_of c) p);
      last = λ l y. r.last (omega arith) (omega (arith, times (digit_of c) q));
    }

before : {n : ℕ} (c : ℕ) (s t : List ℕ) → digit_of c < 16 → Trimmed s t n → Trimmed (c ∷ s) (kept_before c t) (digit_of c * 16 ^ length s + n)
before c s [] h r = before_none c s h r
before c s (d ∷ t) h r = before_some c d s t h r

pub trim : {s : List ℕ} {n : ℕ} → Digits 16 s n → Trimmed s (trimmed s) n
unfolding trimmed
trim none = record { zeros = 0; m = 0; size = refl; digits = none; worth = refl; last = λ l. absurd (omega arith) }
trim (first {c = c} {s = s} h d) = before c s (trimmed s) h (trim d)
