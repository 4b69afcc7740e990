-- What a number is worth: its exact value is that, and values of one worth round alike. Assumes nothing.
use Prim.Native.Nat.{ℕ, zero, suc, ◌+◌, ◌*◌, ◌^◌, ◌<◌}
use mathlib.Core.Path.{◌≡◌, refl, sym, ap, ◌∙◌}
use mathlib.Core.Bool.{Bool}
use native.Mathlib.Nat.{pow-suc, mul-pos}
use native.Mathlib.Omega.{arith}
use lib.Pow.{pow-add, pow_pos}
use lib.IntN.{ℤ, pos, negsuc, nat_abs, ◌+ℤ◌, ◌-ℤ◌, ◌*ℤ◌}
use Rattle.algebra.proofs.Products.{times}
use Rattle.algebra.proofs.Integers.{up, dn, add_z, sub_z}
use Rattle.ieee.specs.Format.{Format, low}
use Rattle.ieee.specs.Pattern.{signed, with_sign}
use Rattle.ieee.specs.Exact.{Value, dyadic, surd, sign_of, ratio}
use Rattle.ieee.specs.Round.{Attribute, way_of, rounded, answer}
use Rattle.ieee.specs.Scalbn.{scaled}
use Rattle.ieee.proofs.Rises.{ratio_same}
use Rattle.ieee.proofs.Signs.{signed_abs, signed_times, signed_tells}
use Rattle.ieee_numeral_laws.specs.Read.{exact_numeral}
use Rattle.ieee_numeral_laws.specs.ReadRule.{Worth}

-- ---- powers of two
pub hex_power : (k : ℕ) → 16 ^ k ≡ 2 ^ (4 * k)
hex_power zero = refl
hex_power (suc k) =
    let e : 4 * suc k ≡ 4 + 4 * k = omega arith in
    rw (e, pow-suc, pow-add 2 4 (4 * k), hex_power k) (omega arith)

level : (a b c i j k : ℕ) → a + b + c ≡ i + j + k → 2 ^ a * 2 ^ b * 2 ^ c ≡ 2 ^ i * 2 ^ j * 2 ^ k
level a b c i j k e = sym (apart a b c) ∙ ap (λ n. 2 ^ n) e ∙ apart i j k
  where
    apart : (a b c : ℕ) → 2 ^ (a + b + c) ≡ 2 ^ a * 2 ^ b * 2 ^ c
    apart a b c = pow-add 2 (a + b) c ∙ ap (λ n. n * 2 ^ c) (pow-add 2 a b)

-- ---- the exact value
signed_product_is : (s : Bool) (u m n : ℕ) → u * m ≡ n → with_sign s u *ℤ pos m ≡ with_sign s n
signed_product_is s u m n e = signed_times s u m ∙ ap (with_sign s) e

scaled_worth : (f : Format) (s : Bool) (d k : ℕ) (e x : ℤ) → up x + 4 * k + dn e ≡ dn x + up e + low f → Worth f s d k e (scaled s d x)
scaled_worth f s d k (pos e) (pos n) h = signed_product_is s (d * 2 ^ n) (16 ^ k) (d * 2 ^ e * 2 ^ low f * 2 ^ 0) (rw (hex_power k) (omega (arith, times d (level n (4 * k) 0 0 e (low f) h))))
scaled_worth f s d k (pos e) (negsuc n) h = signed_product_is s d (16 ^ k) (d * 2 ^ e * 2 ^ low f * 2 ^ suc n) (rw (hex_power k) (omega (arith, times d (level 0 (4 * k) 0 (suc n) e (low f) h))))
scaled_worth f s d k (negsuc e) (pos n) h =
    signed_product_is s (d * 2 ^ n) (16 ^ k * 2 ^ suc e) (d * 2 ^ low f * 2 ^ 0) (rw (hex_power k) (omega (arith, times d (level n (4 * k) (suc e) 0 0 (low f) h))))
scaled_worth f s d k (negsuc e) (negsuc n) h =
    signed_product_is s d (16 ^ k * 2 ^ suc e) (d * 2 ^ low f * 2 ^ suc n) (rw (hex_power k) (omega (arith, times d (level 0 (4 * k) (suc e) (suc n) 0 (low f) h))))

pub exact_worth : (f : Format) (s : Bool) (d k : ℕ) (e : ℤ) → Worth f s d k e (exact_numeral f s d k e)
exact_worth f s d k e =
    let y : ℤ = e +ℤ pos (low f) in
    let x : ℤ = y -ℤ pos (4 * k) in
    scaled_worth f s d k e x (omega (arith, add_z e (pos (low f)), sub_z y (pos (4 * k))))

-- ---- z / 2 ^ j is c / m with the sign s
module _ (s : Bool) (c m : ℕ) (p : 0 < m) where
  same_sign : (z : ℤ) (j : ℕ) → z *ℤ pos m ≡ with_sign s (c * 2 ^ j) → (nat_abs z * m ≡ c * 2 ^ j) × (sign_of s (dyadic z j) ≡ s)
  same_sign z j h =
      let t : Bool = sign_of s (dyadic z j) in
      let (n, sign) = signed_tells t s (nat_abs z * m) (c * 2 ^ j) (sym (signed_times t (nat_abs z) m) ∙ ap (λ y. y *ℤ pos m) (signed_abs s z j) ∙ h) in
      (n, by_size z sign)
    where
      by_size : (z : ℤ) → (0 < nat_abs z * m → sign_of s (dyadic z j) ≡ s) → sign_of s (dyadic z j) ≡ s
      by_size (pos zero) f = refl
      by_size (pos (suc n)) f = f (mul-pos (omega arith) p)
      by_size (negsuc n) f = f (mul-pos (omega arith) p)

  ratio_answer : (f : Format) (a : Attribute) (z : ℤ) (j : ℕ) → z *ℤ pos m ≡ with_sign s (c * 2 ^ j) → answer f a s (dyadic z j) ≡ signed f s (rounded f (way_of a s) (ratio c m))
  unfolding answer
  ratio_answer f a z j h =
      let (n, t) = same_sign z j h in
      (λ i. signed f (t i) (rounded f (way_of a (t i)) (ratio (nat_abs z) (2 ^ j)))) ∙ ap (signed f s) (ratio_same f (way_of a s) (nat_abs z) (2 ^ j) c m (pow_pos j) p n)

pub hex_pos : (k : ℕ) → 0 < 16 ^ k
hex_pos k = rw (hex_power k) (pow_pos (4 * k))

module _ (f : Format) (a : Attribute) (s : Bool) (d k : ℕ) where
  -- what values of one worth round to
  worth_answer : (e : ℤ) (v w : Value) → Worth f s d k e v → Worth f s d k e w → answer f a s v ≡ answer f a s w
  worth_answer (pos e) (dyadic z i) (dyadic y j) p q = ratio_answer s c (16 ^ k) (hex_pos k) f a z i p ∙ sym (ratio_answer s c (16 ^ k) (hex_pos k) f a y j q)
    where
      c : ℕ
      c = d * 2 ^ e * 2 ^ low f
  worth_answer (negsuc e) (dyadic z i) (dyadic y j) p q = ratio_answer s c m l f a z i p ∙ sym (ratio_answer s c m l f a y j q)
    where
      c : ℕ
      c = d * 2 ^ low f

      m : ℕ
      m = 16 ^ k * 2 ^ suc e

      l : 0 < m
      l = mul-pos (hex_pos k) (pow_pos (suc e))
  worth_answer e (surd n) w p q = absurd p
  worth_answer e (dyadic z i) (surd n) p q = absurd q

  pub worth_settles : (e : ℤ) (v : Value) → Worth f s d k e v → answer f a s v ≡ answer f a s (exact_numeral f s d k e)
  worth_settles e v p = worth_answer e v (exact_numeral f s d k e) p (exact_worth f s d k e)
