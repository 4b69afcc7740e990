-- A reducer's steps, in plain numbers: s is R / 2, as in Bounds. Assumes nothing.
use Prim.Native.Nat.{ℕ, ◌+◌, ◌-◌, ◌*◌, ◌/◌, ◌%◌, ◌≤◌, ◌<◌}
use mathlib.Core.Path.{◌≡◌}
use native.Mathlib.Omega.{arith}
use native.Mathlib.Nat.{mul-le-mul}
use Rattle.algebra.proofs.Products.{times, times_le, diff, mul_le_cancel, mul_lt_cancel}
use Rattle.algebra.proofs.Quotients.{div_is}
use Rattle.reduce_laws.proofs.Bounds.{Kept, whole_passes_word, product_room}

-- ---- the start: R (R / 2 - m) = f m + r, where f is q less R and r is the same
pub record Started (s n x f r : ℕ) : Type 0 where
  pub whole_is : 2 * (s * s) / (2 * n) ≡ 2 * s + f
  pub rest_is : 2 * (s * s) % (2 * n) ≡ r
  pub kept : Kept s n x (2 * s + f) r (2 * x * (2 * s) + 2 * x * f)

pub started : (s n x f r : ℕ) → s < 4 * n → 2 * n < s → x < 2 * n → f * (2 * n) + r ≡ (s - 2 * n) * (2 * s) → r < 2 * n → Started s n x f r
started s n x f r a b l e h = record { whole_is = d.0; rest_is = d.1; kept = k }
  where
    whole : (2 * s + f) * (2 * n) + r ≡ 2 * (s * s)
    whole = let g : 2 * n ≤ s = omega (arith, b) in omega (arith, e, diff (2 * s) g)

    d : (2 * (s * s) / (2 * n) ≡ 2 * s + f) × (2 * (s * s) % (2 * n) ≡ r)
    d = div_is (2 * (s * s)) (2 * n) (2 * s + f) r h whole

    k : Kept s n x (2 * s + f) r (2 * x * (2 * s) + 2 * x * f)
    k = record { above = a; below = b; small = l; whole = whole; rest = h; product = omega arith }

-- ---- a step
-- a is the quotient, and y is held then
pub record Next (s n x q r p a b y : ℕ) : Type 0 where
  pub parts : x * p ≡ a * n + y
  pub kept : Kept s n y q r (a * r + b)
  pub room : a * r + b < 4 * (s * s)

-- t p is a R R / 2 + b, with b below R R / 2
pub next : {s n x q r t : ℕ} → Kept s n x q r t → (p a b : ℕ) → a * (2 * (s * s)) + b ≡ t * p → b < 2 * (s * s) → p ≤ s → Next s n x q r p a b (x * p - a * n)
next {s} {n} {x} {q} {r} {t} k p a b e l h = record { parts = parts; kept = kept; room = omega (arith, room, k.whole) }
  where
    y : ℕ
    y = x * p - a * n

    q_pos : 0 < q
    q_pos = omega (arith, whole_passes_word k)

    s_pos : 0 < s
    s_pos = omega (arith, k.below)

    within : a * (2 * s) ≤ t
    within = mul_le_cancel (a * (2 * s)) t s s_pos (omega (arith, e, times_le t h))

    word : a + 2 < 2 * s
    word = mul_lt_cancel (a + 2) (2 * s) (2 * s) (omega (arith, within, product_room k))

    -- a r + b is 2 q (x p - a n)
    balance : a * r + b + 2 * (a * n * q) ≡ 2 * (x * p * q)
    balance = omega (arith, e, times a k.whole, times p k.product)

    least : a * n ≤ x * p
    least = mul_le_cancel (a * n) (x * p) q q_pos (omega (arith, balance))

    parts : x * p ≡ a * n + y
    parts = omega (arith, least)

    product : a * r + b ≡ 2 * (y * q)
    product = omega (arith, balance, times q parts)

    -- (a + 2) r and b are each below R R / 2
    part_r : (a + 2) * r ≤ 2 * (s * s)
    part_r = let g : a + 2 ≤ 2 * s = omega (arith, word) in let i : r ≤ s = omega (arith, k.rest, k.below) in omega (arith, mul-le-mul g i)

    room : a * r + b < 2 * (2 * n * q)
    room = omega (arith, part_r, l, k.whole)

    small : y < 2 * n
    small = mul_lt_cancel y (2 * n) q (omega (arith, product, room))

    kept : Kept s n y q r (a * r + b)
    kept = record { above = k.above; below = k.below; small = small; whole = k.whole; rest = k.rest; product = product }

-- a step by R / 2: the upper word is the quotient, and the lower, which is even, is halved
pub record Word (s t u v : ℕ) : Type 0 where
  pub parts : u * (2 * (s * s)) + v / 2 * (2 * s) ≡ t * s
  pub below : v / 2 * (2 * s) < 2 * (s * s)

pub word_step : {s n x q r t : ℕ} → Kept s n x q r t → (u v : ℕ) → u * (2 * s) + v ≡ t → v < 2 * s → Word s t u v
word_step {s} {n} {x} {q} {r} {t} k u v e l = record { parts = omega (arith, times s e, times s even); below = omega (arith, times_le s half_below) }
  where
    even : 2 * (v / 2) ≡ v
    even = omega (arith, e, k.product)

    half_below : v / 2 + 1 ≤ s
    half_below = omega (arith, even, l)
