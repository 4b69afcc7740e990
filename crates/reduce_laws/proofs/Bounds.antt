-- The reducer's bounds, in plain numbers: s is R / 2, so R is 2 s and R R / 2 is 2 s s. Assumes nothing.
use Prim.Native.Nat.{ℕ, ◌+◌, ◌-◌, ◌*◌, ◌/◌, ◌≤◌, ◌<◌}
use mathlib.Core.Path.{◌≡◌}
use native.Mathlib.Omega.{arith}
use native.Mathlib.Nat.{mul-le-mul}
use Rattle.algebra.proofs.Products.{order, times, times_le, mul_le_cancel, mul_lt_cancel}
use Rattle.algebra.proofs.Quotients.{div_is}

-- the state of the words: x for the divisor n, over s
pub record Kept (s n x q r t : ℕ) : Type 0 where
  pub above : s < 4 * n
  pub below : 2 * n < s
  pub small : x < 2 * n
  pub whole : q * (2 * n) + r ≡ 2 * (s * s)
  pub rest : r < 2 * n
  pub product : t ≡ 2 * (x * q)

module _ {s n x q r t : ℕ} (k : Kept s n x q r t) where
  -- q has one bit more than a word
  pub whole_passes_word : 2 * s + 1 ≤ q
  whole_passes_word =
      order (2 * s + 1) q (λ h. h)
      (λ h. absurd (omega (arith, k.whole, k.rest, times_le {a = q} {b = 2 * s} (2 * n) (omega arith), times_le (2 * s) k.below, k.below)))

  -- t stays 2 R + 2 below the end of its range
  pub product_room : t + 4 * s + 2 ≤ 4 * (s * s)
  product_room =
      omega (arith, k.product, k.whole, whole_passes_word, times_le q k.small)

  -- and its upper word leaves room for two more
  pub upper_room : (u v : ℕ) → u * (2 * s) + v ≡ t → u + 2 < 2 * s
  upper_room u v e = mul_lt_cancel (u + 2) (2 * s) (2 * s) (omega (arith, product_room, e))

  -- m (u + 2) is x R plus something below R
  pub upper_gives_held : (u v : ℕ) → u * (2 * s) + v ≡ t → v < 2 * s → 2 * n * (u + 2) / (2 * s) ≡ x
  upper_gives_held u v e l = (div_is (2 * n * (u + 2)) (2 * s) x (2 * n * (u + 2) - x * (2 * s)) small_rest (omega (arith, least))).0
    where
      -- (u + 2) m R = x R R + (2 m R - 2 x r - m v)
      scaled : 2 * n * (u + 2) * (2 * s) + 2 * (x * r) + 2 * n * v ≡ x * (2 * s) * (2 * s) + 2 * (2 * n) * (2 * s)
      scaled = omega (arith, times (2 * n) e, times (2 * n) k.product, times (2 * x) k.whole)

      part_r : 2 * (x * r) ≤ 2 * n * (2 * s)
      part_r = let h : x ≤ s = omega (arith, k.small, k.below) in
          let l : r ≤ 2 * n = omega (arith, k.rest) in
          omega (arith, mul-le-mul h l)

      part_v : 2 * n * v + 2 * n ≤ 2 * n * (2 * s)
      part_v = omega (arith, times_le (2 * n) l)

      least : x * (2 * s) ≤ 2 * n * (u + 2)
      least = mul_le_cancel (x * (2 * s)) (2 * n * (u + 2)) (2 * s) (omega (arith, l)) (omega (arith, scaled, part_r, part_v))

      most : 2 * n * (u + 2) < x * (2 * s) + 2 * s
      most = mul_lt_cancel (2 * n * (u + 2)) (x * (2 * s) + 2 * s) (2 * s) (omega (arith, scaled, times_le (2 * s) k.below, l))

      small_rest : 2 * n * (u + 2) - x * (2 * s) < 2 * s
      small_rest = omega (arith, least, most)
