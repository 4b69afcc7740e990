-- Two-word numbers in base B, times and by a power of two. A factor m stands for 2 ^ k where no law of powers is needed. Assumes nothing.
use Rattle.std.proofs.Common.{◌≡◌, ℕ, ◌+◌, ◌*◌, ◌/◌, ◌%◌, ◌<◌, mod-lt, div-lt_iff_lt-mul, div-add-mod', arith}
use lib.Arith.{digits_lt}
use Rattle.algebra.proofs.Products.{order, times, times_le, mul_lt_cancel}
use Rattle.algebra.proofs.Quotients.{div_is, div_mod, mod_is}
use Rattle.word_wide.proofs.Pairs.{upper_is_word}

-- Two words times m: the upper word takes the carry of the lower.
module _ (B m ah al : ℕ) (fits : (ah * B + al) * m < B * B) where
  upper_stays : ah * m < B
  upper_stays = upper_is_word B (ah * m) ((ah * B + al) * m) (omega arith) fits

  upper_whole : ah * m % B ≡ ah * m
  upper_whole = mod_is (ah * m) B 0 (ah * m) upper_stays (omega arith)

  pub left : (h l : ℕ) → h ≡ ah * m % B + al * m / B → l ≡ al * m % B → h * B + l ≡ (ah * B + al) * m
  left h l e f = omega (arith, times B e, times B upper_whole, div-add-mod' (al * m) B)

  pub left_fits : (h : ℕ) → h ≡ ah * m % B + al * m / B → h < B
  left_fits h e =
      upper_is_word B h ((ah * B + al) * m) (omega (arith, times B e, times B upper_whole, div-add-mod' (al * m) B)) fits

-- times p, a factor of a word or more: the lower word becomes the upper, and the old upper word is 0
module _ (B m p ah al : ℕ) (scaled : m * B ≡ p) (positive : 0 < m) (fits : (ah * B + al) * p < B * B) where
  product_is_word : (ah * B + al) * m < B
  product_is_word = upper_is_word B ((ah * B + al) * m) ((ah * B + al) * p) (omega (arith, times (ah * B + al) scaled)) fits

  upper_is_zero : ah ≡ 0
  upper_is_zero =
      order ah 0 (λ h. omega arith) (λ h. let l = times_le m (times_le B h) in omega (arith, product_is_word, times_le B positive))

  lower_stays : al * m % B ≡ al * m
  lower_stays = mod_is (al * m) B 0 (al * m) (omega (arith, product_is_word)) (omega arith)

  pub left_by_word : (h : ℕ) → h ≡ al * m % B → h * B + 0 ≡ (ah * B + al) * p
  left_by_word h e = omega (arith, times B e, times B lower_stays, times al scaled, times (B * p) upper_is_zero)

-- Two words by m, where n * m is the base: the lower word takes the bits that the upper drops.
module _ (B m n ah al : ℕ) (base : n * m ≡ B) (positive : 0 < m) (word : al < B) where
  n_positive : 0 < n
  n_positive = mul_lt_cancel 0 n m (omega arith)

  fallen : ah * n % B ≡ ah % m * n
  fallen =
      let (e, l) = div_mod ah m positive in
      mod_is (ah * n) B (ah / m) (ah % m * n) (omega (arith, times_le n l, base, n_positive)) (omega (arith, times n e, times (ah / m) base))

  pub right_fits : (l : ℕ) → l ≡ ah * n % B + al / m → l < B
  right_fits l e =
      let q : al / m < n = (div-lt_iff_lt-mul {k = m} {x = al} {y = n} positive).1 (omega arith) in
      omega (arith, fallen, digits_lt (mod-lt ah positive) q)

  quotient_and_rest : ((ah * B + al) / m ≡ ah * n + al / m) × ((ah * B + al) % m ≡ al % m)
  quotient_and_rest =
      let (e, l) = div_mod al m positive in
      div_is (ah * B + al) m (ah * n + al / m) (al % m) l (omega (arith, e, times ah base))

  pub right : (h l : ℕ) → h ≡ ah / m → l ≡ ah * n % B + al / m → h * B + l ≡ (ah * B + al) / m
  right h l e f =
      omega (arith, times B e, fallen, quotient_and_rest.0, times n (div-add-mod' ah m), times (ah / m) base)

  pub rest_is_lower : (ah * B + al) % m ≡ al % m
  rest_is_lower = quotient_and_rest.1

-- by p, a word or more: only the upper word remains
module _ (B m p ah al : ℕ) (scaled : m * B ≡ p) (positive : 0 < m) (word : al < B) where
  by_word : ((ah * B + al) / p ≡ ah / m) × ((ah * B + al) % p ≡ ah % m * B + al)
  by_word =
      let (e, l) = div_mod ah m positive in
      div_is (ah * B + al) p (ah / m) (ah % m * B + al) (rw (← scaled) (digits_lt l word)) (omega (arith, times B e, times (ah / m) scaled))

  pub right_by_word : (l : ℕ) → l ≡ ah / m → 0 * B + l ≡ (ah * B + al) / p
  right_by_word l e = omega (arith, by_word.0)

  pub rest_is_both : (ah * B + al) % p ≡ ah % m * B + al
  rest_is_both = by_word.1
