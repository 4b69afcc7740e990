-- Two words, the upper not 0, without the bits that leave one word with its top bit set. Assumes nothing.
use Prim.Native.Nat.{ℕ, zero, suc, ◌+◌, ◌-◌, ◌*◌, ◌/◌, ◌%◌, ◌^◌, ◌≤◌, ◌<◌}
use mathlib.Core.Path.{◌≡◌, refl, sym, ap, ap₂, ◌∙◌}
use mathlib.Core.Bool.{Bool}
use native.Mathlib.Nat.{div-lt_iff_lt-mul, mod-eq_of_lt}
use native.Mathlib.Omega.{arith}
use lib.Arith.{digits_lt}
use lib.Count.{count_leading_zeros}
use lib.Dec.{ltb}
use lib.IntN.{ℤ, pos, ◌+ℤ◌}
use lib.Pow.{pow_pos, pow_mono}
use lib.Signed.{mag}
use Rattle.algebra.proofs.Integers.{add_z, eq_z, mag_z, mag_z_fact}
use Rattle.algebra.proofs.Leading.{Fills, leading_fills}
use Rattle.algebra.proofs.Powers.{pow_diff}
use Rattle.algebra.proofs.Products.{order, times, times_le, mul_le_cancel, mul_lt_cancel}
use Rattle.algebra.proofs.Quotients.{div_mod, div_is}
use Rattle.ieee.specs.Round.{Attribute}
use Rattle.ieee.specs.Scalbn.{scaled}
use Rattle.fmt_fields.specs.Width.{format, Fits}
use Rattle.word_wide.proofs.Pairs.{same_test}
use Rattle.round_step.specs.Outcome.{outcome}
use Rattle.round_wide.specs.Stuck.{stuck}
use Rattle.round_wide.proofs.Stuck.{stuck_exact, stuck_lost, stuck_none, stuck_outcome}
use Rattle.round_wide.proofs.Told.{told, stuck_told}

-- ---- in base B, which is n * m: shifted up by n, multiples of the base are multiples of m
module _ (B n m h l : ℕ) (base : n * m ≡ B) (n_positive : 0 < n) (m-positive : 0 < m) where
  lower : (l * n / B ≡ l / m) × (l * n % B ≡ l % m * n)
  lower =
      let (e, r) = div_mod l m m-positive in
      div_is (l * n) B (l / m) (l % m * n) (omega (arith, base, times_le n r, n_positive)) (omega (arith, times n e, times (l / m) base))

  both : ((h * B + l) / m ≡ h * n + l / m) × ((h * B + l) % m ≡ l % m)
  both =
      let (e, r) = div_mod l m m-positive in
      div_is (h * B + l) m (h * n + l / m) (l % m) r (omega (arith, e, times h base))

  -- the upper word, with the carry of the lower
  pub kept_is : h * n + l * n / B ≡ (h * B + l) / m
  kept_is = omega (arith, lower.0, both.0)

  -- the rest of the lower word is what is lost
  pub rest_tells : ltb 0 (l * n % B) ≡ ltb 0 ((h * B + l) % m)
  rest_tells =
      ap (ltb 0) lower.1 ∙ same_test 0 (l % m * n) 0 (l % m) (λ p. mul_lt_cancel 0 (l % m) n (omega arith)) (λ p. mul_le_cancel (l % m) 0 n n_positive (omega arith)) ∙ ap (ltb 0) (sym both.1)

  pub kept_fits : l < B → h * n < B → h * n + l * n / B < B
  kept_fits p q =
      let u : h < m = mul_lt_cancel h m n (omega (arith, base)) in
      let v : l / m < n = (div-lt_iff_lt-mul {k = m} {x = l} {y = n} m-positive).1 (omega (arith, base)) in
      omega (arith, lower.0, digits_lt u v, base)

-- a mark only adds
pub stuck_least : (v k : ℕ) → v / 2 ^ k ≤ stuck v k
stuck_least v k = order 1 (v % 2 ^ k) (λ l. omega (arith, stuck_lost v k l)) (λ l. omega (arith, stuck_exact v k (omega arith)))

-- ---- by the leading zeros z of the upper word h
module _ (w h l z : ℕ) (fills : Fills w h z) where
  base : 2 ^ z * 2 ^ (w - z) ≡ 2 ^ w
  base = omega (arith, pow_diff {a = w} {b = z} (omega (arith, fills.fewer)))

  moved : h * 2 ^ z % 2 ^ w ≡ h * 2 ^ z
  moved = mod-eq_of_lt fills.most

  -- x is the upper word with the carry of the lower
  pub folded_fits : (x : ℕ) → l < 2 ^ w → x ≡ h * 2 ^ z % 2 ^ w + l * 2 ^ z / 2 ^ w → x < 2 ^ w
  folded_fits x p e = omega (arith, moved, kept_fits (2 ^ w) (2 ^ z) (2 ^ (w - z)) h l base (pow_pos z) (pow_pos (w - z)) p fills.most)

  pub folded_is : (x : ℕ) → x ≡ h * 2 ^ z % 2 ^ w + l * 2 ^ z / 2 ^ w → told (ltb 0 (l * 2 ^ z % 2 ^ w)) x ≡ stuck (h * 2 ^ w + l) (w - z)
  folded_is x e =
      stuck_told (h * 2 ^ w + l) (w - z) x _ (omega (arith, moved, kept_is (2 ^ w) (2 ^ z) (2 ^ (w - z)) h l base (pow_pos z) (pow_pos (w - z))))
      (rest_tells (2 ^ w) (2 ^ z) (2 ^ (w - z)) h l base (pow_pos z) (pow_pos (w - z)))

  -- the top bit is set
  pub folded_full : 2 ^ w ≤ 2 * stuck (h * 2 ^ w + l) (w - z)
  folded_full =
      let e = kept_is (2 ^ w) (2 ^ z) (2 ^ (w - z)) h l base (pow_pos z) (pow_pos (w - z)) in
      omega (arith, e, stuck_least (h * 2 ^ w + l) (w - z), fills.least)

-- one word: nothing is shifted out
no_bits : 64 - count_leading_zeros 64 0 ≡ 0
unfolding count_leading_zeros
no_bits = refl

pub one_word : (h l : ℕ) → h ≡ 0 → (64 - count_leading_zeros 64 h ≡ 0) × (stuck (h * 2 ^ 64 + l) (64 - count_leading_zeros 64 h) ≡ l)
one_word h l e =
    let k : 64 - count_leading_zeros 64 h ≡ 0 = ap (λ n. 64 - count_leading_zeros 64 n) e ∙ no_bits in
    let v : h * 2 ^ 64 + l ≡ l = omega arith in
    (k, ap₂ stuck v k ∙ stuck_none l)

plus_none : (n : ℤ) → n +ℤ pos 0 ≡ n
plus_none n = eq_z (n +ℤ pos 0) n (omega (arith, add_z n (pos 0)))

-- so it gives what the two words give; one word stays as it is
pub folded_outcome : {p e : ℕ} → Fits p e → (g : Attribute) (t : Bool) (h l : ℕ) (n : ℤ) → h < 2 ^ 64
    → let k = 64 - count_leading_zeros 64 h in
    outcome (format p e) g t (scaled t (h * 2 ^ 64 + l) n) ≡ outcome (format p e) g t (scaled t (stuck (h * 2 ^ 64 + l) k) (n +ℤ pos k))
folded_outcome {p} {e} f g t zero l n b =
    let (k, s) = one_word zero l refl in
    let whole : 0 * 2 ^ 64 + l ≡ l = omega arith in
    let stays : n +ℤ pos (64 - count_leading_zeros 64 0) ≡ n = ap (λ j. n +ℤ pos j) k ∙ plus_none n in
    λ i. outcome (format p e) g t (scaled t ((whole ∙ sym s) i) (sym stays i))
folded_outcome {p} {e} f g t (suc h) l n b =
    let k : ℕ = 64 - count_leading_zeros 64 (suc h) in
    let full = folded_full 64 (suc h) l (count_leading_zeros 64 (suc h)) (leading_fills 64 (suc h) (omega arith) b) in
    let bits = pow_mono {i = 2 + p} {j = 63} (omega (arith, f.word, f.fair.expo_two)) in
    stuck_outcome (format p e) f.fair g t (suc h * 2 ^ 64 + l) k n (omega arith) (omega arith)

-- none is left exactly where there was none
pub folded_none : (h l : ℕ) → h < 2 ^ 64 → stuck (h * 2 ^ 64 + l) (64 - count_leading_zeros 64 h) ≡ 0 → h * 2 ^ 64 + l ≡ 0
folded_none zero l b e = let s = (one_word zero l refl).1 in omega (arith, s, e)
folded_none (suc h) l b e =
    let full = folded_full 64 (suc h) l (count_leading_zeros 64 (suc h)) (leading_fills 64 (suc h) (omega arith) b) in
    absurd (omega (arith, full, e))

-- and its exponent stays within reach
pub raised_small : (n : ℤ) (k : ℕ) → mag n < 2 ^ 20 - 64 → k ≤ 64 → mag (n +ℤ pos k) ≤ 2 ^ 20
raised_small n k p q =
    let a = add_z n (pos k) in
    let m = mag_z_fact n p in
    omega (arith, mag_z (n +ℤ pos k) (2 ^ 20 + 1) (omega arith) (omega arith))
