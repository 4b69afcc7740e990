-- Flags as the bits of a word. Assumes nothing.
use Rattle.std.proofs.Common.{◌≡◌, ℕ, ◌+◌, ◌*◌, ◌/◌, ◌%◌, ◌≤◌, Bool, true, false, cond, ◌&&◌, sym, refl, ap, ◌∙◌, arith, eq-eqb, ne_eqb}
use Rattle.algebra.proofs.Products.{order}
use Rattle.ieee.specs.Flags.{Flags, nan_flags, only_inexact, judged, flag_word}
use Rattle.fmt_fields.specs.Raised.{bit_at}

abbrev pub flags_in : ℕ → Flags
flags_in w = record { invalid = bit_at w 1; division_by_zero = bit_at w 4; overflow = bit_at w 8; underflow = bit_at w 16; inexact = bit_at w 32 }

pub invalid_bit : (b : Bool) → flags_in (cond b 1 0) ≡ nan_flags b
invalid_bit true = refl
invalid_bit false = refl

pub inexact_bit : (b : Bool) → flags_in (cond b 32 0) ≡ only_inexact b
inexact_bit true = refl
inexact_bit false = refl

pub judged_bits : (o t i : Bool) → flags_in (cond o 8 0 + cond (t && i) 16 0 + cond i 32 0) ≡ judged o t i
judged_bits true true true = refl
judged_bits true true false = refl
judged_bits true false true = refl
judged_bits true false false = refl
judged_bits false true true = refl
judged_bits false true false = refl
judged_bits false false true = refl
judged_bits false false false = refl

-- a weight by its bit
weight : (w k : ℕ) → cond (bit_at w k) k 0 ≡ w / k % 2 * k
weight w k =
    order 1 (w / k % 2)
    (λ l. let e : w / k % 2 ≡ 1 = omega arith in ap (λ b. cond b k 0) (eq-eqb (w / k % 2) 1 e) ∙ omega (arith, ap (λ n. n * k) e))
    (λ l. let e : w / k % 2 ≡ 0 = omega arith in ap (λ b. cond b k 0) (ne_eqb (w / k % 2) 1 (omega arith)) ∙ omega (arith, ap (λ n. n * k) e))

-- four bits of a word
sixteen : (q : ℕ) → q % 16 ≡ q % 2 + 2 * (q / 2 % 8)
sixteen q = omega arith

eight : (q : ℕ) → q % 8 ≡ q % 2 + 2 * (q / 2 % 4)
eight q = omega arith

four : (q : ℕ) → q % 4 ≡ q % 2 + 2 * (q / 2 % 2)
four q = omega arith

nibble : (q : ℕ) → q % 16 * 4 ≡ q % 2 * 4 + q / 2 % 2 * 8 + q / 4 % 2 * 16 + q / 8 % 2 * 32
nibble q =
    let a : q / 2 / 2 ≡ q / 4 = omega arith in
    let b : q / 4 / 2 ≡ q / 8 = omega arith in
    let e : q / 2 % 8 ≡ q / 2 % 2 + 2 * (q / 4 % 4) = eight (q / 2) ∙ ap (λ n. q / 2 % 2 + 2 * (n % 4)) a in
    let f : q / 4 % 4 ≡ q / 4 % 2 + 2 * (q / 8 % 2) = four (q / 4) ∙ ap (λ n. q / 4 % 2 + 2 * (n % 2)) b in
    add (q % 16) (q % 2) (q / 2 % 8) (q / 2 % 2) (q / 4 % 4) (q / 4 % 2) (q / 8 % 2) (sixteen q) e f
  where
    add : (a b c d e f g : ℕ) → a ≡ b + 2 * c → c ≡ d + 2 * e → e ≡ f + 2 * g → a * 4 ≡ b * 4 + d * 8 + f * 16 + g * 32
    add a b c d e f g i j k = omega arith

-- the five bits alone
pub word_bits : (w : ℕ) → w % 2 + w / 4 % 16 * 4 ≡ flag_word (flags_in w)
word_bits w =
    let n = nibble (w / 4) in
    let a : w / 4 / 2 ≡ w / 8 = omega arith in
    let b : w / 4 / 4 ≡ w / 16 = omega arith in
    let c : w / 4 / 8 ≡ w / 32 = omega arith in
    let one : w / 1 ≡ w = omega arith in
    let n' : w / 4 % 16 * 4 ≡ w / 4 % 2 * 4 + w / 8 % 2 * 8 + w / 16 % 2 * 16 + w / 32 % 2 * 32 = n ∙ (λ i. w / 4 % 2 * 4 + a i % 2 * 8 + b i % 2 * 16 + c i % 2 * 32) in
    ap (λ m. w % 2 + m) n' ∙ join (w % 2) (w / 4 % 2 * 4) (w / 8 % 2 * 8) (w / 16 % 2 * 16) (w / 32 % 2 * 32) (ap (λ m. m % 2 * 1) (sym one) ∙ sym (weight w 1)) (sym (weight w 4)) (sym (weight w 8)) (sym (weight w 16)) (sym (weight w 32))
  where
    join : (a b c d e : ℕ) {a' b' c' d' e' : ℕ} → a * 1 ≡ a' → b ≡ b' → c ≡ c' → d ≡ d' → e ≡ e' → a + (b + c + d + e) ≡ a' + b' + c' + d' + e'
    join a b c d e i j k l m = omega arith

pub weight_most : (b : Bool) (k : ℕ) → cond b k 0 ≤ k
weight_most true k = omega arith
weight_most false k = omega arith
