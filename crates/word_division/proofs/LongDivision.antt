-- Two digit steps divide by a divisor that was scaled by m to be normal, together with the dividend. Assumes nothing.
use Rattle.std.proofs.Common.{◌≡◌, ℕ, ◌+◌, ◌-◌, ◌*◌, ◌/◌, ◌%◌, ◌<◌, ◌≤◌, sym, div-add-mod', arith}
use lib.Arith.{digits_lt}
use Rattle.algebra.proofs.Products.{times, times_le, diff, mul_le_cancel, mul_lt_cancel}
use Rattle.algebra.proofs.Quotients.{div_is, mod_is}

-- a number whose upper word is below the divisor, both scaled by m: the product has two words, and its upper word is below the scaled divisor
module _ (W d m ah al : ℕ) (below : ah < d) (word : al < W) where
  pub scaled_fits : d * m < W → (ah * W + al) * m < W * W
  scaled_fits h = omega (arith, times_le m (digits_lt below word), times_le W h)

  pub scaled_upper_below : (th tl : ℕ) → 0 < m → th * W + tl ≡ (ah * W + al) * m → th < d * m
  scaled_upper_below th tl p e = mul_lt_cancel th (d * m) W (omega (arith, times_le m (digits_lt below word)))

-- the quotient is that of the unscaled numbers, and the remainder is scaled back
pub quotient_of_digits : (B d m n q1 r1 q0 r0 th tl N : ℕ) → 0 < m → n ≡ d * m
    → q1 * n + r1 ≡ th * B + tl / B → q0 * n + r0 ≡ r1 * B + tl % B → th * (B * B) + tl ≡ N * m → r0 < n
    → ((q1 * B + q0) * d + r0 / m ≡ N) × (r0 / m < d)
quotient_of_digits B d m n q1 r1 q0 r0 th tl N p s e f g h =
    let Q : ℕ = q1 * B + q0 in
    let whole : Q * d * m + r0 ≡ N * m =
    omega (arith, times B e, div-add-mod' tl B, times (q1 * B) s, times q0 s) in
    let le : Q * d ≤ N = mul_le_cancel (Q * d) N m p (omega arith) in
    let back : r0 / m ≡ N - Q * d = (div_is r0 m (N - Q * d) 0 p (omega (arith, diff m le))).0 in
    (omega arith, mul_lt_cancel (r0 / m) d m (omega (arith, diff m le, times m back)))

-- and of the whole number, where a remainder replaced the upper word
pub remainder_of_upper : (W d ah al q r : ℕ) → q * d + r ≡ ah % d * W + al → r < d → r ≡ (ah * W + al) % d
remainder_of_upper W d ah al q r e h =
    sym (mod_is (ah * W + al) d (ah / d * W + q) r h (omega (arith, e, times W (div-add-mod' ah d))))
