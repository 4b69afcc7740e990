-- The location of shifted-out bits: the last bit of a quotient and whether its remainder is 0. Assumes nothing.
use Prim.Native.Nat.{ℕ, zero, suc, ◌+◌, ◌-◌, ◌*◌, ◌/◌, ◌%◌, ◌^◌, ◌≤◌, ◌<◌}
use mathlib.Core.Path.{◌≡◌, sym, ap, ◌∙◌}
use mathlib.Core.Bool.{Bool, cond}
use native.Mathlib.Omega.{arith}
use lib.Dec.{leb, eqb}
use lib.Pow.{pow-add, pow_pos}
use native.Mathlib.Nat.{two-pow-succ}
use Rattle.algebra.proofs.Products.{times, times_le, mul_le_cancel}
use Rattle.algebra.proofs.Quotients.{div_mod, div_is, mod_is}
use Rattle.ieee.proofs.Decide.{Reads, so, not_so, alike, leb_reads, eqb_reads}
use Rattle.round_laws.specs.Location.{part, high_part}
use Rattle.round_laws.proofs.Parts.{part_at, part_before, part_middle, part_beyond}

-- the location of a remainder that consists of a bit b and r below it
bit_part : (b r h : ℕ) → b ≤ 1 → r < h → part (b * h + r) (2 * h) ≡ 2 * b + cond (eqb r 0) 0 1
bit_part b r h l k = go b l (eqb_reads r 0)
  where
    go : (b : ℕ) → b ≤ 1 → {t : Bool} → Reads (r ≡ 0) t → part (b * h + r) (2 * h) ≡ 2 * b + cond t 0 1
    go zero l (so e) = part_at (0 * h + r) (2 * h) (omega arith)
    go zero l (not_so n) = part_before (0 * h + r) (2 * h) (omega arith) (omega arith)
    go (suc zero) l (so e) = part_middle (1 * h + r) (2 * h) (omega arith) (omega arith)
    go (suc zero) l (not_so n) = part_beyond (1 * h + r) (2 * h) (omega arith)
    go (suc (suc b)) l t = absurd (omega arith)

-- s by 2 * h, from s by h
halves : (s h : ℕ) → 0 < h → (s / (2 * h) ≡ s / h / 2) × (s % (2 * h) ≡ s / h % 2 * h + s % h)
halves s h p =
    let d = div_mod s h p in
    let e : s / h / 2 * 2 + s / h % 2 ≡ s / h = omega arith in
    let b : s / h % 2 ≤ 1 = omega arith in
    div_is s (2 * h) (s / h / 2) (s / h % 2 * h + s % h) (omega (arith, times_le h b)) (omega (arith, d, times h e))

part_of_halves : (s h : ℕ) → 0 < h → part (s % (2 * h)) (2 * h) ≡ 2 * (s / h % 2) + cond (eqb (s % h) 0) 0 1
part_of_halves s h p = ap (λ r. part r (2 * h)) (halves s h p).1 ∙ bit_part (s / h % 2) (s % h) h (omega arith) (div_mod s h p).1

-- the same for code that has d = 2 ^ j, half of the last kept bit
module _ (s j k d : ℕ) (e : d ≡ 2 ^ j) (i : k ≡ suc j) where
  doubled : 2 * 2 ^ j ≡ 2 ^ k
  doubled = omega (arith, two-pow-succ j) ∙ ap (λ n. 2 ^ n) (sym i)

  pub shed_kept : s / d / 2 ≡ s / 2 ^ k
  shed_kept = ap (λ n. s / n / 2) e ∙ sym (halves s (2 ^ j) (pow_pos j)).0 ∙ ap (λ n. s / n) doubled

  pub shed_location : 2 * (s / d % 2) + cond (eqb (s % d) 0) 0 1 ≡ part (s % 2 ^ k) (2 ^ k)
  shed_location = ap (λ n. 2 * (s / n % 2) + cond (eqb (s % n) 0) 0 1) e ∙ sym (part_of_halves s (2 ^ j) (pow_pos j)) ∙ ap (λ n. part (s % n) n) doubled

-- the last k bits at the top of a word
pub top_bits : (s k : ℕ) → k ≤ 64 → s * 2 ^ (64 - k) % 2 ^ 64 ≡ s % 2 ^ k * 2 ^ (64 - k)
top_bits s k l =
    let d = div_mod s (2 ^ k) (pow_pos k) in
    let whole : 2 ^ k * 2 ^ (64 - k) ≡ 2 ^ 64 = sym (pow-add 2 k (64 - k)) ∙ ap (λ n. 2 ^ n) {x = k + (64 - k)} {y = 64} (omega arith) in
    mod_is (s * 2 ^ (64 - k)) (2 ^ 64) (s / 2 ^ k) (s % 2 ^ k * 2 ^ (64 - k))
    (omega (arith, whole, times_le (2 ^ (64 - k)) d.1, pow_pos (64 - k)))
    (omega (arith, times (s / 2 ^ k) whole, times (2 ^ (64 - k)) d.0))

-- they are high where they are at least three quarters of the word
pub high_bits : (s k : ℕ) → k ≤ 64 → leb (3 * 2 ^ 62) (s * 2 ^ (64 - k) % 2 ^ 64) ≡ high_part (s % 2 ^ k) (2 ^ k)
high_bits s k l =
    let whole : 2 ^ k * 2 ^ (64 - k) ≡ 2 ^ 64 = sym (pow-add 2 k (64 - k)) ∙ ap (λ n. 2 ^ n) {x = k + (64 - k)} {y = 64} (omega arith) in
    let t = top_bits s k l in
    alike (leb_reads (3 * 2 ^ 62) (s * 2 ^ (64 - k) % 2 ^ 64)) (leb_reads (3 * 2 ^ k) (4 * (s % 2 ^ k)))
    (λ h. mul_le_cancel (3 * 2 ^ k) (4 * (s % 2 ^ k)) (2 ^ (64 - k)) (pow_pos (64 - k)) (omega (arith, whole, t)), λ h. omega (arith, whole, t, times_le (2 ^ (64 - k)) h))
