-- Signed whole numbers: their product, their distance, and how near they are to an exact value. Assumes nothing.
use Prim.Native.Nat.{ℕ, zero, suc, ◌+◌, ◌-◌, ◌*◌, ◌^◌, ◌≤◌, ◌<◌}
use mathlib.Core.Path.{◌≡◌, refl, sym, ap, ◌∙◌}
use mathlib.Core.Logic.{◌↔◌}
use mathlib.Core.Bool.{Bool, true, false, not}
use native.Mathlib.Nat.{mul-le-mul}
use native.Mathlib.Omega.{arith}
use lib.Pow.{pow_pos}
use lib.IntN.{ℤ, pos, negsuc, neg_ℤ, nat_abs, ◌-ℤ◌, ◌*ℤ◌, pos-*ℤ-pos, pos-*ℤ-negsuc, negsuc-*ℤ-pos, negsuc-*ℤ-negsuc, zero-*ℤ, *ℤ-zero}
use Rattle.algebra.proofs.Products.{mul_le_cancel}
use Rattle.algebra.proofs.Roots.{sq_le, Root, root_exists}
use Rattle.algebra.proofs.Integers.{up, dn, sub_z, neg_z, abs_z}
use Rattle.ieee.specs.Format.{Format, units}
use Rattle.ieee.specs.Pattern.{minus, magnitude, unlike, with_sign, value}
use Rattle.ieee.specs.Exact.{Value, dyadic, surd, sign_of, absolute}
use Rattle.ieee.specs.Rule.{distance, Within, AsNear, AsNearℤ}
use Rattle.ieee.proofs.Units.{units_lt, units_inj}
use Rattle.ieee.proofs.Patterns.{value_is}
use Rattle.ieee.proofs.Sides.{Sound}

-- one sign is another, or the opposite
pub by_sign : (a s : Bool) {G : Type 0} → (a ≡ s → G) → (a ≡ not s → G) → G
by_sign true true f g = f refl
by_sign true false f g = g refl
by_sign false true f g = g refl
by_sign false false f g = f refl

pub sound : (v : Value) → Sound (absolute v)
sound (dyadic z k) = pow_pos k
sound (surd n) = tt

-- ---- whole numbers
pub abs_signed : (s : Bool) (n : ℕ) → nat_abs (with_sign s n) ≡ n
abs_signed false n = refl
abs_signed true zero = refl
abs_signed true (suc n) = refl

pub signed_zero : (s : Bool) → with_sign s 0 ≡ pos 0
signed_zero false = refl
signed_zero true = refl

pub signed_abs : (s : Bool) (z : ℤ) (k : ℕ) → with_sign (sign_of s (dyadic z k)) (nat_abs z) ≡ z
signed_abs s (pos zero) k = signed_zero s
signed_abs s (pos (suc n)) k = refl
signed_abs s (negsuc n) k = refl

pub signed_times : (s : Bool) (u d : ℕ) → with_sign s u *ℤ pos d ≡ with_sign s (u * d)
signed_times false u d = pos-*ℤ-pos u d
signed_times true zero d = zero-*ℤ (pos d) ∙ ap (λ n. neg_ℤ (pos n)) {x = 0} {y = 0 * d} (omega arith)
signed_times true (suc u) d = negsuc-*ℤ-pos u d

-- the product of signed whole numbers
pub signed_product : (s t : Bool) (u v : ℕ) → with_sign s u *ℤ with_sign t v ≡ with_sign (unlike s t) (u * v)
signed_product false false u v = pos-*ℤ-pos u v
signed_product false true u zero = *ℤ-zero (pos u) ∙ ap (λ n. neg_ℤ (pos n)) {x = 0} {y = u * 0} (omega arith)
signed_product false true u (suc v) = pos-*ℤ-negsuc u v
signed_product true false u v = signed_times true u v
signed_product true true zero zero = refl
signed_product true true zero (suc v) = zero-*ℤ (negsuc v) ∙ ap pos {x = 0} {y = 0 * suc v} (omega arith)
signed_product true true (suc u) zero = *ℤ-zero (negsuc u) ∙ ap pos {x = 0} {y = suc u * 0} (omega arith)
signed_product true true (suc u) (suc v) = negsuc-*ℤ-negsuc u v

pub like_apart : (s : Bool) (a b : ℕ) → nat_abs (with_sign s a -ℤ with_sign s b) ≡ distance a b
like_apart false a b = omega (arith, abs_z (pos a -ℤ pos b), sub_z (pos a) (pos b))
like_apart true a b = omega (arith, abs_z (neg_ℤ (pos a) -ℤ neg_ℤ (pos b)), sub_z (neg_ℤ (pos a)) (neg_ℤ (pos b)), neg_z (pos a), neg_z (pos b))

pub unlike_apart : (s : Bool) (a b : ℕ) → nat_abs (with_sign s a -ℤ with_sign (not s) b) ≡ a + b
unlike_apart false a b = omega (arith, abs_z (pos a -ℤ neg_ℤ (pos b)), sub_z (pos a) (neg_ℤ (pos b)), neg_z (pos b))
unlike_apart true a b = omega (arith, abs_z (neg_ℤ (pos a) -ℤ pos b), sub_z (neg_ℤ (pos a)) (pos b), neg_z (pos a))

-- the distance of z / 2 ^ k from a whole number of its own sign, and of the other
dyadic_like : (s : Bool) (z : ℤ) (k u : ℕ) → nat_abs (z -ℤ with_sign (sign_of s (dyadic z k)) u *ℤ pos (2 ^ k)) ≡ distance (nat_abs z) (u * 2 ^ k)
dyadic_like s z k u =
    let t = sign_of s (dyadic z k) in
    (λ i. nat_abs (sym (signed_abs s z k) i -ℤ signed_times t u (2 ^ k) i)) ∙ like_apart t (nat_abs z) (u * 2 ^ k)

dyadic_unlike : (s : Bool) (z : ℤ) (k u : ℕ) → nat_abs (z -ℤ with_sign (not (sign_of s (dyadic z k))) u *ℤ pos (2 ^ k)) ≡ nat_abs z + u * 2 ^ k
dyadic_unlike s z k u =
    let t = sign_of s (dyadic z k) in
    (λ i. nat_abs (sym (signed_abs s z k) i -ℤ signed_times (not t) u (2 ^ k) i)) ∙ unlike_apart t (nat_abs z) (u * 2 ^ k)

-- ---- the root of zero is within a / b of a number of either sign exactly where that is at most a / b
within_zero : (s : Bool) (u a b : ℕ) → Within 0 (with_sign s u) a b ↔ (u * b ≤ a)
within_zero false u a b = (λ w. omega (arith, sq_le (u * b - a) 0 (omega arith)), λ h. let e : u * b - a ≡ 0 = omega arith in (rw e (omega arith), omega arith))
within_zero true zero a b = (λ w. omega arith, λ h. let e : 0 * b - a ≡ 0 = omega arith in (rw e (omega arith), omega arith))
within_zero true (suc u) a b = (λ w. w.0, λ h. (h, omega arith))

-- only zero is nearest to the root of zero
near_zero : (u : ℕ) → AsNear (absolute (surd 0)) u 0 → u ≡ 0
near_zero u a = omega (arith, (within_zero false u 0 1).0 (a 0 1 (omega arith) ((within_zero false 0 0 1).1 (omega arith))))

-- ---- nearness of numbers with the value's sign is that of magnitudes
pub near_like : (s : Bool) (v : Value) (u w : ℕ) → AsNearℤ v (with_sign (sign_of s v) u) (with_sign (sign_of s v) w) ↔ AsNear (absolute v) u w
near_like s (dyadic z k) u w = (λ h. omega (arith, dyadic_like s z k u, dyadic_like s z k w), λ h. omega (arith, dyadic_like s z k u, dyadic_like s z k w))
near_like s (surd zero) u w = (
  λ h a b p q. (within_zero false u a b).1 ((within_zero s u a b).0 (h a b p ((within_zero s w a b).1 ((within_zero false w a b).0 q)))),
  λ h a b p q. (within_zero s u a b).1 ((within_zero false u a b).0 (h a b p ((within_zero false w a b).1 ((within_zero s w a b).0 q)))),
)
near_like s (surd (suc n)) u w = (λ h. h, λ h. h)

-- a bound on the distance of a root from a negative number is one on its distance from zero
within_minus : (n w a b : ℕ) → Within n (neg_ℤ (pos w)) a b → Within n (pos 0) a b
within_minus n zero a b q = q
within_minus n (suc w) a b q =
    let e : 0 * b - a ≡ 0 = omega arith in
    let l : a - suc w * b ≤ 0 * b + a = omega arith in
    (rw e (omega arith), omega (arith, q.1, mul-le-mul l l))

-- a number as near as zero is as near as any number of the other sign
pub near_unlike : (s : Bool) (v : Value) (u w : ℕ) → AsNear (absolute v) u 0 → AsNearℤ v (with_sign (sign_of s v) u) (with_sign (not (sign_of s v)) w)
near_unlike s (dyadic z k) u w h = omega (arith, dyadic_like s z k u, dyadic_unlike s z k w)
near_unlike s (surd zero) u w h = λ a b p q. (within_zero s u a b).1 (omega (arith, ap (λ n. n * b) (near_zero u h)))
near_unlike s (surd (suc n)) u w h = λ a b p q. h a b p (within_minus (suc n) w a b q)

-- where a number of the other sign is as near as it, that number is zero
root_unlike : (n u w : ℕ) → AsNear (absolute (surd n)) u 0 → AsNearℤ (surd n) (negsuc w) (pos u) → ⊥
root_unlike n u w h q = go (root_exists (4 * n))
  where
    go : (r : ℕ) × Root (4 * n) r → ⊥
    go (r, p) =
        let e : 0 * 2 - (r + 1) ≡ 0 = omega arith in
        let bound : Within n (pos 0) (r + 1) 2 = (rw e (omega arith), omega (arith, p.high)) in
        let far = q (r + 1) 2 (omega arith) (h (r + 1) 2 (omega arith) bound) in
        omega (arith, far.0, sq_le r (r + 1 - suc w * 2) (omega (arith, far.1, p.low)))

pub unlike_zero : (s : Bool) (v : Value) (u w : ℕ) → AsNear (absolute v) u 0 → AsNearℤ v (with_sign (not (sign_of s v)) w) (with_sign (sign_of s v) u) → w ≡ 0
unlike_zero s (dyadic z k) u w h q =
    let l : w * 2 ^ k ≤ 0 * 2 ^ k = omega (arith, dyadic_like s z k u, dyadic_unlike s z k w) in
    omega (arith, mul_le_cancel w 0 (2 ^ k) (pow_pos k) l)
unlike_zero s (surd zero) u w h q =
    let z = (within_zero s u 0 1).1 (omega (arith, near_zero u h)) in
    omega (arith, (within_zero (not s) w 0 1).0 (q 0 1 (omega arith) z))
unlike_zero s (surd (suc n)) u zero h q = refl
unlike_zero s (surd (suc n)) u (suc w) h q = absurd (root_unlike (suc n) u w h q)

-- ---- distinct patterns have distinct values, save the two zeros
pub signed_tells : (s t : Bool) (m n : ℕ) → with_sign s m ≡ with_sign t n → (m ≡ n) × (0 < m → s ≡ t)
signed_tells s t m n e = (same, sign s t e)
  where
    same : m ≡ n
    same = sym (abs_signed s m) ∙ ap nat_abs e ∙ abs_signed t n

    sign : (s t : Bool) → with_sign s m ≡ with_sign t n → 0 < m → s ≡ t
    sign false false e l = refl
    sign false true e l = absurd (omega (arith, ap up e, neg_z (pos n)))
    sign true false e l = absurd (omega (arith, ap dn e, neg_z (pos m)))
    sign true true e l = refl

pub value_tells : (f : Format) (x y : ℕ) → value f x ≡ value f y → (magnitude f x ≡ magnitude f y) × (0 < magnitude f x → minus f x ≡ minus f y)
value_tells f x y e =
    let (m, s) = signed_tells (minus f x) (minus f y) (units f (magnitude f x)) (units f (magnitude f y)) (sym (value_is f x) ∙ e ∙ value_is f y) in
    (units_inj f (magnitude f x) (magnitude f y) m, λ l. s (omega (arith, units_lt f l)))
