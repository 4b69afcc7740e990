-- The division with which a reducer starts, for a short divisor: h is R / 2, K S is h, and m is 2 y S. Assumes nothing.
use Prim.Native.Nat.{ℕ, ◌+◌, ◌-◌, ◌*◌, ◌/◌, ◌%◌, ◌^◌, ◌≤◌, ◌<◌}
use mathlib.Core.Path.{◌≡◌, ap, ◌∙◌}
use native.Mathlib.Nat.{mod-eq_of_lt}
use native.Mathlib.Omega.{arith}
use lib.Pow.{pow-add}
use Rattle.algebra.proofs.Powers.{pow_diff}
use Rattle.algebra.proofs.Products.{times, times_le, diff, mul_lt_cancel}
use Rattle.algebra.proofs.Quotients.{div_mod, mod_is}

module _ (h y S K : ℕ) (parts : K * S ≡ h) (above : h < 4 * (y * S)) (below : 2 * (y * S) < h) where
  some : 0 < y
  some = mul_lt_cancel 0 y S (omega (arith, above))

  first : (h / y * y + h % y ≡ h) × (h % y < y)
  first = div_mod h y some

  second : (h % y * K / y * y + h % y * K % y ≡ h % y * K) × (h % y * K % y < y)
  second = div_mod (h % y * K) y some

  -- h K by y, in two digits
  whole : (h / y * K + h % y * K / y) * y + h % y * K % y ≡ h * K
  whole = omega (arith, times K first.0, second.0)

  -- K is no zero, and the first quotient is from 2 S to 4 S
  scale_some : 0 < K
  scale_some = mul_lt_cancel 0 K S (omega (arith, parts, below))

  first_least : 2 * S ≤ h / y
  first_least = let l : 2 * S < h / y + 1 = mul_lt_cancel (2 * S) (h / y + 1) y (omega (arith, first, below)) in omega arith

  first_most : h / y < 4 * S
  first_most = mul_lt_cancel (h / y) (4 * S) y (omega (arith, first, above))

  -- a y of less than half a word leaves room for the second dividend
  rest_fits : 2 * (y * y) ≤ h → h % y * K < 2 * h
  rest_fits l =
      let z : y < 2 * S = mul_lt_cancel y (2 * S) y (omega (arith, above, l)) in
      let a : h % y + 2 ≤ 2 * S = omega (arith, first.1) in
      omega (arith, times_le K a, scale_some, parts)

  -- the first quotient, shifted, has R and a word
  first_passes_word : h / y * K % (2 * h) + 2 * h ≡ h / y * K
  first_passes_word =
      let a : 2 * h ≤ h / y * K = omega (arith, times_le K first_least, parts) in
      let b : h / y * K < 4 * h = omega (arith, times_le K first_most, scale_some, parts) in
      omega (arith, mod_is (h / y * K) (2 * h) 1 (h / y * K - 2 * h) (omega arith) (omega arith))

  quotient_fits : h / y * K % (2 * h) + h % y * K / y < 2 * h
  quotient_fits =
      let l : h / y * K + h % y * K / y < 4 * h
      = mul_lt_cancel (h / y * K + h % y * K / y) (4 * h) y (omega (arith, whole, times_le K above, scale_some, times y parts)) in
      omega (arith, first_passes_word)

  short_quotient : (h / y * K % (2 * h) + h % y * K / y) * (2 * (y * S)) + h % y * K % y * (2 * S) ≡ (h - 2 * (y * S)) * (2 * h)
  short_quotient =
      let l : 2 * (y * S) ≤ h = omega (arith, below) in
      omega (arith, times (2 * S) whole, times (2 * (y * S)) first_passes_word, times (2 * h) parts, diff (2 * h) l)

  short_rest : h % y * K % y * (2 * S) < 2 * (y * S)
  short_rest =
      let S_some : 0 < S = mul_lt_cancel 0 S K (omega (arith, parts, below)) in
      omega (arith, times_le (2 * S) second.1)

-- ---- the same on words of w bits, where a shift drops what passes the word
module _ (w y s : ℕ) (wide : 3 ≤ w) (short : 2 * (y * y) ≤ 2 ^ (w - 1)) (above : 2 ^ (w - 3) < y * 2 ^ s) (below : y * 2 ^ s < 2 ^ (w - 2)) (l : s < w) where
  abbrev h : ℕ
  h = 2 ^ (w - 1)

  abbrev K : ℕ
  K = 2 ^ (w - 1 - s)

  abbrev one : ℕ
  one = h / y * K % 2 ^ w

  abbrev rest : ℕ
  rest = h % y * K % 2 ^ w

  word_is : 2 ^ w ≡ 2 * h
  word_is = omega (arith, pow_diff {a = w} {b = 1} (omega arith))

  scale : K * 2 ^ s ≡ h
  scale = pow_diff {a = w - 1} {b = s} (omega arith)

  low : h < 4 * (y * 2 ^ s)
  low = omega (arith, above, word_is, pow_diff {a = w} {b = 3} wide)

  high : 2 * (y * 2 ^ s) < h
  high = omega (arith, below, word_is, pow_diff {a = w} {b = 2} (omega arith))

  one_is : one ≡ h / y * K % (2 * h)
  one_is = ap (λ t. h / y * K % t) word_is

  rest_is : rest ≡ h % y * K
  rest_is = mod-eq_of_lt (omega (arith, word_is, rest_fits h y (2 ^ s) K scale low high short))

  leaves : h % y * K % y * (2 * 2 ^ s) < 2 * (y * 2 ^ s)
  leaves = short_rest h y (2 ^ s) K scale low high

  left_is : rest % y * 2 ^ (s + 1) % 2 ^ w ≡ h % y * K % y * (2 * 2 ^ s)
  left_is =
      let a : rest % y * 2 ^ (s + 1) ≡ h % y * K % y * (2 * 2 ^ s) = ap (λ t. t % y * 2 ^ (s + 1)) rest_is ∙ simp pow-add (omega arith) in
      ap (λ t. t % 2 ^ w) a ∙ mod-eq_of_lt (omega (arith, leaves, high, word_is))

  pub short_fits : one + rest / y < 2 ^ w
  short_fits = rw (one_is, rest_is, word_is) (quotient_fits h y (2 ^ s) K scale low high)

  pub short_divides : (one + rest / y) * (2 * (y * 2 ^ s)) + rest % y * 2 ^ (s + 1) % 2 ^ w ≡ (h - 2 * (y * 2 ^ s)) * 2 ^ w
  short_divides = rw (left_is, one_is, rest_is, word_is) (short_quotient h y (2 ^ s) K scale low high)

  pub short_leaves : rest % y * 2 ^ (s + 1) % 2 ^ w < 2 * (y * 2 ^ s)
  short_leaves = omega (arith, left_is, leaves)
