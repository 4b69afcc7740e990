-- The product of two two-digit numbers in base B, column by column. Assumes nothing.
use Rattle.std.proofs.Common.{◌≡◌, ℕ, ◌+◌, ◌*◌, ◌/◌, ◌%◌, ◌<◌, ◌≤◌, ◌∙◌, ap₂, mod-lt, div-lt_iff_lt-mul, mul-le-mul, div-add-mod', arith}
use lib.Arith.{digits_lt}
use Rattle.algebra.proofs.Products.{le_split, times, mul_lt_cancel}
use Rattle.algebra.proofs.Quotients.{div_is}

-- the product of two digits leaves room for two more digits
pub product_leaves_room : {x y B : ℕ} → x < B → y < B → x * y + 2 * B ≤ B * B + 1
product_leaves_room {x} {y} {B} h l =
    let (p, e) = le_split {a = 1} {b = B} (omega arith) in
    rw (← e) (omega (arith, mul-le-mul {n₁ = x} {m₁ = y} {n₂ = p} {m₂ = p} (omega arith) (omega arith)))

-- the four products of the digits of a and b, each with that room
pub record Rooms (B a b : ℕ) : Type 0 where
  pub low : a % B * (b % B) + 2 * B ≤ B * B + 1
  pub left : a / B * (b % B) + 2 * B ≤ B * B + 1
  pub right : a % B * (b / B) + 2 * B ≤ B * B + 1
  pub high : a / B * (b / B) + 2 * B ≤ B * B + 1

-- a base whose square exceeds some number is not 0
base_positive : (B a : ℕ) → a < B * B → 0 < B
base_positive B a h = mul_lt_cancel 0 B B (omega arith)

upper_is_digit : (B a : ℕ) → a < B * B → a / B < B
upper_is_digit B a h = (div-lt_iff_lt-mul {k = B} {x = a} {y = B} (base_positive B a h)).1 h

-- the digits of two numbers of two digits have such products
pub digit_products_fit : (B a b : ℕ) → a < B * B → b < B * B → Rooms B a b
digit_products_fit B a b h l =
    let a1 = upper_is_digit B a h in
    let b1 = upper_is_digit B b l in
    let a0 = mod-lt a (base_positive B a h) in
    let b0 = mod-lt b (base_positive B b l) in
    record {
      low = product_leaves_room a0 b0;
      left = product_leaves_room a1 b0;
      right = product_leaves_room a0 b1;
      high = product_leaves_room a1 b1;
    }

-- The middle column is the sum of the two mixed products and the carry of the lowest column. However it is split into a digit t and a carry s, the carry completes
-- the upper word and the digit the lower one.
pub middle_column_settles_both : (B a b s t : ℕ) → t < B → s * B + t ≡ a / B * (b % B) + a % B * (b / B) + a % B * (b % B) / B
    → (a * b / (B * B) ≡ a / B * (b / B) + s) × (a * b % (B * B) ≡ t * B + a % B * (b % B) % B)
middle_column_settles_both B a b s t h e =
    let low = a % B * (b % B) in
    div_is (a * b) (B * B) (a / B * (b / B) + s) (t * B + low % B) (digits_lt h (mod-lt low (omega arith)))
    (whole B (a / B) (a % B) (b / B) (b % B) (low / B) (low % B) s t (div-add-mod' low B) e ∙ ap₂ ◌*◌ (div-add-mod' a B) (div-add-mod' b B))
  where
    whole : (B a1 a0 b1 b0 lq lr s t : ℕ) → lq * B + lr ≡ a0 * b0 → s * B + t ≡ a1 * b0 + a0 * b1 + lq
        → (a1 * b1 + s) * (B * B) + (t * B + lr) ≡ (a1 * B + a0) * (b1 * B + b0)
    whole B a1 a0 b1 b0 lq lr s t l m = omega (arith, times B m)
