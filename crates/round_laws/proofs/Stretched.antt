-- The location of u times 2 ^ n, where s is u shifted left by z bits. Assumes nothing.
use Prim.Native.Nat.{ℕ, suc, ◌+◌, ◌*◌, ◌^◌, ◌<◌}
use mathlib.Core.Path.{◌≡◌, refl, sym, ap, ◌∙◌}
use mathlib.Core.Bool.{Bool, false}
use native.Mathlib.Omega.{arith}
use lib.Pow.{pow-add, pow_pos}
use lib.IntN.{ℤ, pos, negsuc}
use Rattle.algebra.proofs.Products.{times}
use Rattle.algebra.proofs.Integers.{up, dn}
use Rattle.ieee.specs.Format.{Format, Fair, units}
use Rattle.ieee.specs.Exact.{Exact, ratio, magnified}
use Rattle.ieee.specs.Round.{Way, shorter, rounded, middle}
use Rattle.ieee.proofs.Decide.{alike}
use Rattle.ieee.proofs.Sides.{Sound, over_reads, under_reads}
use Rattle.ieee.proofs.Alike.{Beside, threshold, same_side}
use Rattle.ieee.proofs.Rises.{ratio_at_most}
use Rattle.round_laws.specs.Location.{below, stretched}
use Rattle.round_laws.proofs.Parts.{tells}
use Rattle.round_laws.proofs.Choices.{location_above_is, high_above_is, beyond_above_is}
use Rattle.round_laws.proofs.Locations.{Lies, lies, locate_zero}

-- ---- one value in two forms
pub same_ratio : (n d k e : ℕ) → 0 < d → 0 < e → n * e ≡ k * d → (s : ℕ) → Beside (ratio n d) (ratio k e) s
same_ratio n d k e p q h s =
    let a = ratio_at_most n d k e p q (omega arith) in
    let b = ratio_at_most k e n d q p (omega arith) in
    record { above = (a.ups s, b.ups s); below = (b.downs s, a.downs s) }

-- values that compare alike, and doubled too, lie alike
abbrev pub Same : Exact → Exact → Type 0
Same x y = (s : ℕ) → Beside x y s × Beside (magnified x 2) (magnified y 2) s

pub same_lies : (f : Format) (x y : Exact) → Same x y → {m p : ℕ} {h c : Bool} → Lies f y m p h c → Lies f x m p h c
unfolding below
same_lies f x y a {m} {p} l =
    let b : (s : ℕ) → Beside x y s = λ s. (a s).0 in
    let q = l.0 in
    let e : below f x ≡ m = same_side f shorter x y (λ j k. b (threshold f shorter j)) ∙ l.0 in
    let at_m = alike (under_reads x (2 * units f m)) (under_reads y (2 * units f m)) (b (2 * units f m)).below in
    let at_least_lem = alike (over_reads x (middle f m)) (over_reads y (middle f m)) (b (middle f m)).above in
    let at_most = alike (under_reads x (middle f m)) (under_reads y (middle f m)) (b (middle f m)).below in
    let high = alike (over_reads (magnified x 2) (units f m + 3 * units f (suc m))) (over_reads (magnified y 2) (units f m + 3 * units f (suc m))) (a (units f m + 3 * units f (suc m))).1.above in
    let next = alike (over_reads x (2 * units f (suc m))) (over_reads y (2 * units f (suc m))) (b (2 * units f (suc m))).above in
    lies f x m e (tells at_m at_least_lem at_most ∙ sym (location_above_is f y m q) ∙ l.1) (high ∙ sym (high_above_is f y m q) ∙ l.2) (next ∙ sym (beyond_above_is f y m q) ∙ l.3)

pub stretched_sound : (u : ℕ) (n : ℤ) → Sound (stretched u n)
stretched_sound u (pos n) = omega arith
stretched_sound u (negsuc n) = pow_pos (suc n)

pub stretched_ratio : (u : ℕ) (n : ℤ) → stretched u n ≡ ratio (u * 2 ^ up n) (2 ^ dn n)
stretched_ratio u (pos n) = refl
stretched_ratio u (negsuc n) = ap (λ k. ratio k (2 ^ suc n)) (omega arith)

pub stretched_same : (u z s : ℕ) (n : ℤ) → u * 2 ^ z ≡ s → (c X : ℕ) → up n + X ≡ dn n + z + c → Same (stretched u n) (ratio (s * 2 ^ c) (2 ^ X))
stretched_same u z s n e c X q t = rw stretched_ratio (
  same_ratio (u * 2 ^ up n) (2 ^ dn n) (s * 2 ^ c) (2 ^ X) (pow_pos (dn n)) (pow_pos X) h t,
  same_ratio (u * 2 ^ up n * 2) (2 ^ dn n) (s * 2 ^ c * 2) (2 ^ X) (pow_pos (dn n)) (pow_pos X) (omega (arith, h)) t,
)
  where
    level : 2 ^ up n * 2 ^ X ≡ 2 ^ dn n * 2 ^ z * 2 ^ c
    level = sym (pow-add 2 (up n) X) ∙ ap (λ k. 2 ^ k) q ∙ pow-add 2 (dn n + z) c ∙ times (2 ^ c) (pow-add 2 (dn n) z)

    h : u * 2 ^ up n * 2 ^ X ≡ s * 2 ^ c * 2 ^ dn n
    h = omega (arith, times u level, times (2 ^ c * 2 ^ dn n) e)

-- u * 2 ^ n is v * 2 ^ k
pub stretched_alike : (f : Format) (w : Way) (u v : ℕ) (n k : ℤ) → u * 2 ^ (up n + dn k) ≡ v * 2 ^ (up k + dn n) → rounded f w (stretched u n) ≡ rounded f w (stretched v k)
stretched_alike f w u v n k e = same_side f w (stretched u n) (stretched v k) (λ j l. rw (stretched_ratio u n, stretched_ratio v k) (beside (threshold f w j)))
  where
    beside : (t : ℕ) → Beside (ratio (u * 2 ^ up n) (2 ^ dn n)) (ratio (v * 2 ^ up k) (2 ^ dn k)) t
    beside =
        same_ratio (u * 2 ^ up n) (2 ^ dn n) (v * 2 ^ up k) (2 ^ dn k) (pow_pos (dn n)) (pow_pos (dn k))
        (omega (arith, e, times u (pow-add 2 (up n) (dn k)), times v (pow-add 2 (up k) (dn n))))

-- a step of 2 ^ a / 2 ^ b is one of 2 ^ n
pub ratio_stretched : (f : Format) (w : Way) (s a b : ℕ) (n : ℤ) → up n + b ≡ dn n + a → rounded f w (ratio (s * 2 ^ a) (2 ^ b)) ≡ rounded f w (stretched s n)
ratio_stretched f w s a b n e = same_side f w (ratio (s * 2 ^ a) (2 ^ b)) (stretched s n) (λ j l. rw (stretched_ratio s n) (beside (threshold f w j)))
  where
    level : 2 ^ a * 2 ^ dn n ≡ 2 ^ up n * 2 ^ b
    level = sym (pow-add 2 a (dn n)) ∙ ap (λ i. 2 ^ i) (omega arith) ∙ pow-add 2 (up n) b

    beside : (t : ℕ) → Beside (ratio (s * 2 ^ a) (2 ^ b)) (ratio (s * 2 ^ up n) (2 ^ dn n)) t
    beside = same_ratio (s * 2 ^ a) (2 ^ b) (s * 2 ^ up n) (2 ^ dn n) (pow_pos b) (pow_pos (dn n)) (omega (arith, times s level))

pub stretched_zero : (f : Format) → Fair f → (n : ℤ) → Lies f (stretched 0 n) 0 0 false false
stretched_zero f g n = same_lies f _ _ (stretched_same 0 0 0 n refl (up n) (dn n) (omega arith)) (locate_zero f g (up n) (dn n))
