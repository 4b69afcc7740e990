-- The exact product of two of the toolchain's values, before rounding, is our product of two kinds; the toolchain's product is that, rounded. Assumes nothing.
use Prim.Native.Nat.{ℕ, zero, suc, ◌+◌, ◌-◌, ◌*◌, ◌^◌, ◌≤◌, ◌<◌}
use mathlib.Core.Path.{◌≡◌, refl, sym, ap, ◌∙◌, subst}
use mathlib.Core.Bool.{Bool, true, false, not, ◌&&◌, cond}
use native.Mathlib.Nat.{mul-pos}
use native.Mathlib.Omega.{arith}
use borrow.Author.Tests.{le-ltb, eq-eqb, ne_eqb}
use lib.Dec.{T, ltb, eqb, ltb→lt, nltb→le}
use lib.IntN.{ℤ, pos, negsuc, sub_ℕ, ◌+ℤ◌}
use lib.Pow.{pow-add, pow_pos}
use lib.Ieee.{Float, nan as their-nan, inf as their-inf, fin, Format as Theirs, up, down, mul, add, sum, round}
use lib.Ieee.Fits.{up_pos, down_pos}
use lib.Ieee.Scale.{round_same as equal-fractions}
use Rattle.algebra.proofs.Products.{order, times as multiplied, mul_eq_cancel}
use Rattle.ieee.specs.Pattern.{Kind, nan, infinite, unlike}
use Rattle.ieee.specs.Fma.{infinity_times, times}
use Rattle.ieee_agreement_laws.specs.Toolchain.{Same, nans, infinities, numbers, product}

-- ---- 2 ^ (e + d) is 2 ^ e times 2 ^ d
sub_powers : (a b : ℕ) → 2 ^ a * down (sub_ℕ a b) ≡ up (sub_ℕ a b) * 2 ^ b
sub_powers a b = go (ltb a b) (ltb→lt a b) (nltb→le a b)
  where
    go : (t : Bool) → (T t → a < b) → (T (not t) → b ≤ a) → 2 ^ a * down (cond t (negsuc (b - suc a)) (pos (a - b))) ≡ up (cond t (negsuc (b - suc a)) (pos (a - b))) * 2 ^ b
    go true h g =
        let e : a + suc (b - suc a) ≡ b = omega (arith, h tt) in
        omega (arith, pow-add 2 a (suc (b - suc a)), ap (λ (n : ℕ). 2 ^ n) e)
    go false h g =
        let e : a - b + b ≡ a = omega (arith, g tt) in
        omega (arith, pow-add 2 (a - b) b, ap (λ (n : ℕ). 2 ^ n) e)

add_powers : (e d : ℤ) → up e * up d * down (e +ℤ d) ≡ up (e +ℤ d) * (down e * down d)
add_powers (pos a) (pos b) = omega (arith, pow-add 2 a b)
add_powers (pos a) (negsuc b) = omega (arith, sub_powers a (suc b))
add_powers (negsuc a) (pos b) = omega (arith, sub_powers b (suc a))
add_powers (negsuc a) (negsuc b) = omega (arith, ap (λ (n : ℕ). 2 ^ n) {x = suc (suc (a + b))} {y = suc a + suc b} (omega arith), pow-add 2 (suc a) (suc b))

-- ---- a number is zero where its units are
pub zero_of : (n : ℕ) (d : ℤ) (l : ℕ) → n * up d * 2 ^ l ≡ 0 * down d → n ≡ 0
zero_of n d l e = order n 0 (λ h. omega arith) (λ h. absurd (omega (arith, mul-pos (mul-pos h (up_pos d)) (pow_pos l))))

pub not_zero_of : (n : ℕ) (d : ℤ) (l u : ℕ) → n * up d * 2 ^ l ≡ suc u * down d → n ≡ 0 → ⊥
not_zero_of n d l u e z =
    let p : 0 < suc u = omega arith in
    omega (arith, multiplied (up d * 2 ^ l) z, mul-pos p (down_pos d))

infinity_times_lem : (l n : ℕ) (d : ℤ) (u : ℕ) (s : Bool) → n * up d * 2 ^ l ≡ u * down d → Same (l + l) (cond (eqb n 0) their-nan (their-inf s)) s (infinity_times u)
infinity_times_lem l n d zero s e = subst (λ b. Same (l + l) (cond b their-nan (their-inf s)) s nan) (sym (eq-eqb n 0 (zero_of n d l e))) (nans s)
infinity_times_lem l n d (suc u) s e = subst (λ b. Same (l + l) (cond b their-nan (their-inf s)) s infinite) (sym (ne_eqb n 0 (not_zero_of n d l u e))) (infinities s)

number_times : (l m n : ℕ) (e d : ℤ) (u v : ℕ) → m * up e * 2 ^ l ≡ u * down e → n * up d * 2 ^ l ≡ v * down d → m * n * up (e +ℤ d) * 2 ^ (l + l) ≡ u * v * down (e +ℤ d)
number_times l m n e d u v p q =
    let P : ℕ = 2 ^ l in
    let a : m * up e * P * (n * up d * P) ≡ u * down e * (v * down d) = λ i. p i * q i in
    mul_eq_cancel (m * n * up (e +ℤ d) * 2 ^ (l + l)) (u * v * down (e +ℤ d)) (down e * down d) (mul-pos (down_pos e) (down_pos d))
    (omega (arith, multiplied (down (e +ℤ d)) a, multiplied (m * n * (P * P)) (add_powers e d), multiplied (m * n * up (e +ℤ d) * (down e * down d)) (pow-add 2 l l)))

-- a product of units of 2 ^ -l is in units of 2 ^ -(l + l)
pub product_same : (l : ℕ) {v w : Float} {s t : Bool} {a b : Kind} → Same l v s a → Same l w t b → Same (l + l) (product v w) (unlike s t) (times a b)
product_same l {t = t} (nans s) g = nans (unlike s t)
product_same l (infinities s) (nans t) = nans (unlike s t)
product_same l (infinities s) (infinities t) = infinities (unlike s t)
product_same l (infinities s) (numbers t n d v q) = infinity_times_lem l n d v (unlike s t) q
product_same l (numbers s m e u p) (nans t) = nans (unlike s t)
product_same l (numbers s m e u p) (infinities t) = infinity_times_lem l m e u (unlike s t) p
product_same l (numbers s m e u p) (numbers t n d v q) = numbers (unlike s t) (m * n) (e +ℤ d) (u * v) (number_times l m n e d u v p q)

-- ---- adding -0 to a value rounds it, and changes nothing else
settle : (k : Theirs) (b t : Bool) → cond b their-nan (their-inf t) ≡ add k (cond b their-nan (their-inf t)) (fin true 0 (pos 0))
unfolding add
settle k true t = refl
settle k false t = refl

plus_minus_zero : (k : Theirs) (s : Bool) (a b c : ℕ) → b ≡ 0 → sum k s a true b c ≡ round k s a c
unfolding sum
plus_minus_zero k true a b c z = let e : a + b ≡ a = omega arith in ap (λ n. round k true n c) e
plus_minus_zero k false a b c z =
    let e : a - b ≡ a = omega arith in
    ap (λ t. cond t (round k true (b - a) c) (round k (false && ltb b a) (a - b) c)) (le-ltb a b (omega arith)) ∙ ap (λ n. round k false n c) e

pub product_rounds : (k : Theirs) (v w : Float) → mul k v w ≡ add k (product v w) (fin true 0 (pos 0))
unfolding mul add
product_rounds k their-nan w = refl
product_rounds k (their-inf s) their-nan = refl
product_rounds k (their-inf s) (their-inf t) = refl
product_rounds k (their-inf s) (fin t n d) = settle k (eqb n 0) (unlike s t)
product_rounds k (fin s m e) their-nan = refl
product_rounds k (fin s m e) (their-inf t) = settle k (eqb m 0) (unlike s t)
product_rounds k (fin s m e) (fin t n d) =
    let x = e +ℤ d in
    let a = m * n * up x * 1 in
    let c = down x * 1 in
    let p : 0 < c = omega (arith, down_pos x) in
    equal-fractions k (unlike s t) (m * up e * (n * up d)) (down e * down d) a c (mul-pos (down_pos e) (down_pos d)) p (omega (arith, multiplied (m * n) (add_powers e d)))
    ∙ sym (plus_minus_zero k (unlike s t) a (0 * 1 * down x) c (omega arith))
