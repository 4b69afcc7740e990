-- The word of the radicand holds the whole number, and its root fits in a word. Assumes nothing.
use Prim.Native.Nat.{ℕ, zero, suc, ◌+◌, ◌-◌, ◌*◌, ◌/◌, ◌%◌, ◌^◌, ◌≤◌, ◌<◌}
use mathlib.Core.Path.{◌≡◌, sym, ap, ◌∙◌}
use native.Mathlib.Nat.{two-pow-succ}
use native.Mathlib.Omega.{arith, by_contra}
use lib.IntN.{ℤ, pos, ◌+ℤ◌}
use lib.Pow.{pow-add, pow_pos, pow_mono, shl-shr}
use Rattle.algebra.proofs.Products.{times, times_le, mul_lt_cancel}
use Rattle.algebra.proofs.Powers.{pow_diff}
use Rattle.algebra.proofs.Roots.{sq_lt}
use Rattle.algebra.proofs.Quotients.{div_mod, mod_is}
use Rattle.ieee.specs.Format.{Format, Fair}
use Rattle.ieee.specs.Pattern.{magnitude, field}
use Rattle.fmt_fields.specs.Width.{format, Fits}
use Rattle.fmt_decode.specs.Significand.{significand, exponent, sig_of, exp_of}
use Rattle.fmt_decode.proofs.Significands.{normal_is, normal_stays}
use Rattle.sqrt_digits.specs.Floor.{pairs}
use Rattle.sqrt_table.specs.Table.{Serves}
use Rattle.sqrt_table.proofs.Rule.{serves_low, serves_high}
use Rattle.sqrt_number.specs.Split.{lift, word_of, Parts, Leads}

-- the number of exponent fields is twice a power of two
pub fields_twice : (f : Format) → Fair f → 2 ^ f.expo ≡ 2 * 2 ^ (f.expo - 1)
fields_twice f g =
    let e : f.expo ≡ suc (f.expo - 1) = omega (arith, g.expo_two) in
    ap (λ i. 2 ^ i) e ∙ omega (arith, two-pow-succ (f.expo - 1))

-- the exponent bits limit those of the fraction
pub fraction_few : {p e : ℕ} → Fits p e → p ≤ 58
fraction_few {p} {e} w =
    by_contra p 58 (λ l. omega (arith, pow_mono {i = e - 1} {j = 3} (omega (arith, w.word)), w.fair.frac_fits))

-- a number's significand has its leading bit at bit frac
pub leads : {p e : ℕ} → Fits p e → (x sig : ℕ) → 0 < magnitude (format p e) x → sig ≡ sig_of (format p e) x → Leads p sig
leads {p} {e} w x sig some i =
    let n = (normal_is (format p e) w.fair x some).1 in
    record { least = omega (arith, n.least); most = omega (arith, n.most); few = fraction_few w }

-- the parts, from an unpacked number and its exponent lifted
module _ (f : Format) (x : ℕ) {sig up unpacked : ℕ} {exp : ℤ} (k : sig ≡ unpacked) (u : pos up ≡ exp +ℤ pos (lift f)) where
  pub parts : unpacked ≡ sig_of f x → exp ≡ exp_of f x → Parts f x sig up
  parts s e = record { sig_is = k ∙ s; up_is = u ∙ ap (λ z. z +ℤ pos (lift f)) e }

  pub normal_parts : 0 < magnitude f x → 0 < field f x → unpacked ≡ significand f x → exp ≡ exponent f x → Parts f x sig up
  normal_parts some normal s e = let (i, j) = normal_stays f x some normal in parts (s ∙ i) (e ∙ j)

module _ (p sig up : ℕ) (l : Leads p sig) where
  abbrev odd : ℕ
  odd = up % 2

  abbrev by : ℕ
  by = 62 - p + odd

  pub word_room : word_of p sig up < 2 ^ 64
  word_room =
      let m = pow_mono {i = by} {j = 63 - p} (omega (arith, l.few)) in
      let d : 2 ^ (63 - p) * 2 ^ p ≡ 2 ^ 63 = pow_diff {a = 63} {b = p} (omega (arith, l.few)) in
      omega (arith, times_le (2 ^ by) l.most, times_le (2 * 2 ^ p) m, pow_pos by)

  -- its leading bit is one of the first two
  pub word_high : 2 ^ 62 ≤ word_of p sig up
  word_high =
      let m = pow_mono {i = 62 - p} {j = by} (omega arith) in
      let d : 2 ^ (62 - p) * 2 ^ p ≡ 2 ^ 62 = pow_diff {a = 62} {b = p} (omega (arith, l.few)) in
      omega (arith, times_le (2 ^ by) l.least, times_le (2 ^ p) m)

  -- its root has a digit for each bit of the significand, and `more` besides
  pub word_pairs : (more : ℕ) → pairs (word_of p sig up) (p + 1 + more) ≡ sig * 2 ^ (p + 2 * more + odd)
  word_pairs more =
      let i : by + 2 * (p + 1 + more) ≡ p + 2 * more + odd + 64 = omega (arith, l.few) in
      ap (λ n. n / 2 ^ 64)
      (omega (arith, times sig (sym (pow-add 2 by (2 * (p + 1 + more))) ∙ ap (λ j. 2 ^ j) i ∙ pow-add 2 (p + 2 * more + odd) 64)))
      ∙ shl-shr (sig * 2 ^ (p + 2 * more + odd)) 64

  pub word_squares : pairs (word_of p sig up) (p + 2) ≡ sig * 2 ^ (p + 2 + odd)
  word_squares = let i : p + 1 + 1 ≡ p + 2 = omega arith in ap (λ d. pairs (word_of p sig up) d) (sym i) ∙ word_pairs 1

  -- with one digit more the number is four times as large
  pub word_fourfold : pairs (word_of p sig up) (p + 2) ≡ 4 * pairs (word_of p sig up) (p + 1)
  word_fourfold =
      let i : p + 1 + 0 ≡ p + 1 = omega arith in
      let k : p + 2 + odd ≡ p + 0 + odd + 2 = omega arith in
      let d : 2 ^ (p + 2 + odd) ≡ 2 ^ (p + 0 + odd) * 4 = ap (λ j. 2 ^ j) k ∙ pow-add 2 (p + 0 + odd) 2 in
      omega (arith, word_squares, ap (λ d. pairs (word_of p sig up) d) (sym i) ∙ word_pairs 0, times sig d)

  -- the root has as many bits as digits
  pub word_root : (q : ℕ) → q * q ≤ pairs (word_of p sig up) (p + 1) → q < 2 * 2 ^ p
  word_root q h =
      sq_lt q (2 * 2 ^ p) (omega (arith, h, word_fourfold, word_squares, long))
    where
      long : sig * 2 ^ (p + 2 + odd) < 4 * (2 * 2 ^ p * (2 * 2 ^ p))
      long =
          let m : 2 ^ (p + 2 + odd) ≤ 8 * 2 ^ p = omega (arith, pow_mono {i = p + 2 + odd} {j = p + 3} (omega arith), pow-add 2 p 3) in
          omega (arith, times_le (2 ^ (p + 2 + odd)) l.most, times_le (2 * 2 ^ p) m, pow_pos (p + 2 + odd))

  -- ---- the step of the table, by the first seven bits of the significand
  module _ (six : 6 ≤ p) where
    abbrev seven : ℕ
    seven = sig / 2 ^ (p - 6)

    whole : 2 ^ (p - 6) * 2 ^ 6 ≡ 2 ^ p
    whole = pow_diff {a = p} {b = 6} six

    pub seven_bits : (64 ≤ seven) × (seven < 128)
    seven_bits =
        let (q, r) = div_mod sig (2 ^ (p - 6)) (pow_pos (p - 6)) in
        let a : 63 < seven = mul_lt_cancel 63 seven (2 ^ (p - 6)) (omega (arith, whole, l.least)) in
        (omega arith, mul_lt_cancel seven 128 (2 ^ (p - 6)) (omega (arith, whole, l.most)))

    -- the word's first seven bits are the same
    bounds : (o : ℕ) → (seven * (2 ^ 56 * 2 ^ o) ≤ sig * 2 ^ (62 - p + o)) × (sig * 2 ^ (62 - p + o) < (seven + 1) * (2 ^ 56 * 2 ^ o))
    bounds o =
        let (q, r) = div_mod sig (2 ^ (p - 6)) (pow_pos (p - 6)) in
        let i : p - 6 + (62 - p + o) ≡ 56 + o = omega (arith, l.few) in
        let e : 2 ^ (p - 6) * 2 ^ (62 - p + o) ≡ 2 ^ 56 * 2 ^ o = sym (pow-add 2 (p - 6) (62 - p + o)) ∙ ap (λ j. 2 ^ j) i ∙ pow-add 2 56 o in
        let k = 2 ^ (62 - p + o) in
        let lo : seven * 2 ^ (p - 6) ≤ sig = omega arith in
        let hi : sig + 1 ≤ (seven + 1) * 2 ^ (p - 6) = omega arith in
        (omega (arith, times_le k lo, times seven e), omega (arith, times_le k hi, times (seven + 1) e, pow_pos (62 - p + o)))

    served_at : (o : ℕ) → o < 2 → Serves ((seven - 64 * o) % 128) (sig * 2 ^ (62 - p + o) / 2 ^ 32)
    served_at zero h =
        let (a, b) = seven_bits in
        let (lo, hi) = bounds 0 in
        let i : (seven - 64 * 0) % 128 ≡ seven = omega arith in
        rw i (serves_low seven (sig * 2 ^ (62 - p + 0) / 2 ^ 32) a b (omega arith) (omega arith))
    served_at (suc zero) h =
        let (a, b) = seven_bits in
        let (lo, hi) = bounds 1 in
        let i : (seven - 64 * 1) % 128 ≡ seven - 64 = omega arith in
        rw i (serves_high seven (sig * 2 ^ (62 - p + 1) / 2 ^ 32) a b (omega arith) (omega arith))
    served_at (suc (suc o)) h = absurd (omega arith)

    pub step_serves : Serves ((seven - 64 * odd) % 128) (word_of p sig up / 2 ^ 32)
    step_serves = served_at odd (omega arith)

  -- the significand has nothing below its last bit
  pub word_empty : word_of p sig up % 2 ^ (62 - p) ≡ 0
  word_empty = mod_is _ (2 ^ (62 - p)) (sig * 2 ^ odd) 0 (pow_pos (62 - p)) (omega (arith, times sig (pow-add 2 (62 - p) odd)))

-- at 32 bits the lower half of the word is zero
pub half_empty : (sig odd : ℕ) → sig * 2 ^ (62 - 23 + odd) % 2 ^ 32 ≡ 0
half_empty sig odd = mod_is _ (2 ^ 32) (sig * 2 ^ (7 + odd)) 0 (omega arith) (omega (arith, times sig (ap (λ j. 2 ^ j) i ∙ pow-add 2 (7 + odd) 32)))
  where
    i : 62 - 23 + odd ≡ 7 + odd + 32
    i = omega arith
