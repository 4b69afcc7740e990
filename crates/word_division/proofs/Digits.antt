-- Long division in base B by a divisor d of two digits, d1 and d0, of which the upper is at least half the base: the digit that d1 alone suggests is at
-- most two too large, and one comparison tells whether it is too large. Assumes nothing.
use Rattle.std.proofs.Common.{◌≡◌, ℕ, ◌+◌, ◌-◌, ◌*◌, ◌/◌, ◌%◌, ◌<◌, ◌≤◌, max, sym, ◌∙◌, mod-lt, mul-le-mul, div-add-mod', arith}
use native.Mathlib.Nat.{max-le, max-eq_left, max-eq_right}
use native.Mathlib.Omega.{by_contra}
use lib.Arith.{digits_lt}
use Rattle.algebra.proofs.Products.{le_split, times, times_le, mul_lt_cancel}
use Rattle.algebra.proofs.Quotients.{quot_unique, div_mod}

-- a step down from q stops at Q; two steps down from Q + 2 or less end there
pub step_stays : (Q q : ℕ) → q ≡ Q → q ≡ max Q (q - 1)
step_stays Q q e = e ∙ sym (max-eq_left (omega arith))

pub step_down : (Q q : ℕ) → Q < q → q - 1 ≡ max Q (q - 1)
step_down Q q h = sym (max-eq_right (omega arith))

pub two_steps_end : (Q q s t : ℕ) → Q ≤ q → q ≤ Q + 2 → s ≡ max Q (q - 1) → t ≡ max Q (s - 1) → t ≡ Q
two_steps_end Q q s t l h e f =
    let near : max Q (q - 1) ≤ Q + 1 = max-le (omega arith) (omega arith) in
    f ∙ max-eq_left (omega arith)

-- the quotient of a digit step is a digit
pub quotient_is_digit : (B d h l q r : ℕ) → h < d → l < B → q * d + r ≡ h * B + l → q < B
quotient_is_digit B d h l q r p g e = mul_lt_cancel q B d (omega (arith, digits_lt p g))

-- (B + 1) * (B - 1) is below B * B
one_over_times_one_under : (B x y : ℕ) → x ≤ B + 1 → y < B → x * y < B * B
one_over_times_one_under B x y h l =
    let (p, e) = le_split {a = 1} {b = B} (omega arith) in
    let s = times B e in
    let t = times p e in
    omega (arith, mul-le-mul {n₁ = x} {m₁ = y} {n₂ = B + 1} {m₂ = p} h (omega arith))

-- the divisor, with an upper digit of at least half the base, and the digit l after the upper part
module _ (B d l : ℕ) (normal : B ≤ 2 * (d / B)) (next : l < B) where
  abbrev d1 : ℕ
  d1 = d / B

  abbrev d0 : ℕ
  d0 = d % B

  -- the number that one digit step divides, by its upper part
  abbrev number : ℕ → ℕ
  number h = h * B + l

  parts : d1 * B + d0 ≡ d
  parts = div-add-mod' d B

  lower : d0 < B
  lower = mod-lt d (omega arith)

  divisor_positive : 0 < d
  divisor_positive = omega (arith, parts, times_le {a = 1} {b = d1} B (omega arith))

  -- the digit that d1 suggests is at most B + 1, and its product with d0 has two digits
  estimate_le : (q r : ℕ) → q * d1 + r < d → q ≤ B + 1
  estimate_le q r h = let p = mul_lt_cancel q (B + 2) d1 (omega (arith, parts, lower)) in omega arith

  pub product_fits : (q r : ℕ) → q * d1 + r < d → q * d0 < B * B
  product_fits q r h = one_over_times_one_under B q d0 (estimate_le q r h) lower

  -- a rest of a digit or more leaves room for that product
  pub large_rest : (q r : ℕ) → q * d1 + r < d → B ≤ r → q * d0 ≤ r * B + l
  large_rest q r h p = omega (arith, product_fits q r h, times_le B p)

  -- the comparison is decisive
  pub not_too_large : (q r : ℕ) → q * d0 ≤ r * B + l → q ≤ number (q * d1 + r) / d
  not_too_large q r h =
      let n = number (q * d1 + r) in
      let (e, g) = div_mod n d divisor_positive in
      by_contra q (n / d) (λ p. omega (arith, times_le d p, times q parts))

  pub too_large : (q r : ℕ) → r * B + l < q * d0 → number (q * d1 + r) / d < q
  too_large q r h =
      let n = number (q * d1 + r) in
      mul_lt_cancel (n / d) q d (omega (arith, div-add-mod' n d, times q parts))

  -- the first estimate is at least the digit, and at most two more
  pub estimate_ge : (h q r : ℕ) → q * d1 + r ≡ h → r < d1 → number h / d ≤ q
  estimate_ge h q r e p =
      let Q = number h / d in
      let u : Q * d1 < h + 1 = mul_lt_cancel (Q * d1) (h + 1) B (omega (arith, div-add-mod' (number h) d, times Q parts)) in
      let w : Q < q + 1 = mul_lt_cancel Q (q + 1) d1 (omega arith) in
      omega arith

  pub estimate_two : (h q r : ℕ) → h < d → q * d1 + r ≡ h → q ≤ number h / d + 2
  estimate_two h q r p e =
      let Q = number h / d in
      let (f, g) = div_mod (number h) d divisor_positive in
      let w : q < Q + 3 = mul_lt_cancel q (Q + 3) d (omega (arith, parts, product_fits q r (omega arith), times q parts, times B e, times_le B normal)) in
      omega arith

  -- the remainder of the digit is the word w, of two digits, for which q * d0 + w wraps to the rest followed by the next digit
  pub rest_unwraps : (h q r w : ℕ) → d ≤ B * B → q * d1 + r ≡ h → q ≡ number h / d → w < B * B → (w + q * d0) % (B * B) ≡ r * B % (B * B) + l
      → (q * d + w ≡ number h) × (w < d)
  rest_unwraps h q r w f e g p s =
      let (i, j) = div_mod (number h) d divisor_positive in
      let v = number h % d in
      let t = (w + q * d0) / (B * B) in
      let k : r * B / (B * B) * (B * B) + w ≡ t * (B * B) + v =
      omega (arith, div-add-mod' (w + q * d0) (B * B), div-add-mod' (r * B) (B * B), times d g, times q parts, times B e) in
      let o = (quot_unique (B * B) (r * B / (B * B)) w t v p (omega arith) k).1 in
      (omega (arith, times d g), omega arith)
