-- A magnitude by its digits: the toolchain counts them, and our patterns hold them. Assumes nothing.
use Prim.Native.Nat.{ℕ, zero, suc, ◌+◌, ◌-◌, ◌*◌, ◌/◌, ◌%◌, ◌^◌, ◌≤◌, ◌<◌}
use mathlib.Core.Path.{◌≡◌, sym, ap, ◌∙◌, subst}
use native.Mathlib.Nat.{two-pow-succ, mod-lt, div-add-mod', mul-div_cancel, div-one, le-div_iff_mul-le}
use native.Mathlib.Omega.{arith, both_ways}
use lib.Pow.{pow-add, pow_pos}
use lib.Ieee.{size}
use lib.Ieee.Digits.{size-lt, size-le, size_reaches}
use Rattle.algebra.proofs.Products.{order, times, times_le}
use Rattle.algebra.proofs.Powers.{pow_inj_lt}
use Rattle.ieee.specs.Format.{Format, units, fields}
use Rattle.ieee.proofs.Units.{units_is, units_at_lem}

-- ---- a significand w with the exponent j is the magnitude j * 2 ^ frac + w; w may reach 2 ^ (frac + 1), which has one more digit
pub digits_units : (f : Format) (j w : ℕ) → (0 < j → 2 ^ f.frac ≤ w) → w ≤ 2 * 2 ^ f.frac → units f (j * 2 ^ f.frac + w) ≡ w * 2 ^ j
digits_units f j w b h = order (2 ^ f.frac) w (λ l. order (2 * 2 ^ f.frac) w (full l) (part l)) (λ l. low j b l)
  where
    full : 2 ^ f.frac ≤ w → 2 * 2 ^ f.frac ≤ w → units f (j * 2 ^ f.frac + w) ≡ w * 2 ^ j
    full l m =
        let e : w ≡ 2 * 2 ^ f.frac = omega arith in
        ap (units f) (omega arith) ∙ units_at_lem f (suc (suc j)) 0 (pow_pos f.frac) ∙ omega (arith, times (2 ^ j) e, times (2 ^ f.frac) (two-pow-succ j))

    part : 2 ^ f.frac ≤ w → w < 2 * 2 ^ f.frac → units f (j * 2 ^ f.frac + w) ≡ w * 2 ^ j
    part l m =
        let e : 2 ^ f.frac + (w - 2 ^ f.frac) ≡ w = omega arith in
        ap (units f) (omega arith) ∙ units_at_lem f (suc j) (w - 2 ^ f.frac) (omega arith) ∙ ap (λ t. t * 2 ^ j) e

    low : (j : ℕ) → (0 < j → 2 ^ f.frac ≤ w) → w < 2 ^ f.frac → units f (j * 2 ^ f.frac + w) ≡ w * 2 ^ j
    low zero b l = units_at_lem f 0 w l ∙ omega arith
    low (suc j) b l = absurd (omega (arith, b (omega arith)))

-- ---- the kept part of a number of more than p digits
pub kept_pos : (p w : ℕ) → 0 < size w - suc p → 2 ^ p ≤ w / 2 ^ (size w - suc p)
kept_pos p w h =
    (le-div_iff_mul-le (pow_pos (size w - suc p))).1
    (subst (λ (n : ℕ). n ≤ w) (pow-add 2 p (size w - suc p)) (size_reaches w (p + (size w - suc p)) (omega arith)))

-- ---- the number of digits of a magnitude, and the magnitude from its units
size_is : (a n : ℕ) → 2 ^ a ≤ n → n < 2 ^ suc a → size n ≡ suc a
size_is a n lo hi = both_ways (size n) (suc a) (size-le n (suc a) hi) (pow_inj_lt a (size n) (omega (arith, size-lt n)))

back_by : (p k H u m : ℕ) → size u - suc p ≡ k → k * H + u / 2 ^ k ≡ m → (size u - suc p) * H + u / 2 ^ (size u - suc p) ≡ m
back_by p k H u m e h = ap (λ (z : ℕ). z * H + u / 2 ^ z) e ∙ h

pub units_back : (f : Format) (m : ℕ) → (size (units f m) - suc f.frac) * 2 ^ f.frac + units f m / 2 ^ (size (units f m) - suc f.frac) ≡ m
units_back f m =
    subst (λ (u : ℕ). (size u - suc f.frac) * 2 ^ f.frac + u / 2 ^ (size u - suc f.frac) ≡ m) (sym (units_is f m))
    (go (m / 2 ^ f.frac) (m % 2 ^ f.frac) (mod-lt m (pow_pos f.frac)) ∙ div-add-mod' m (2 ^ f.frac))
  where
    go : (q t : ℕ) → t < 2 ^ f.frac
        → (size (fields (2 ^ f.frac) q t) - suc f.frac) * 2 ^ f.frac + fields (2 ^ f.frac) q t / 2 ^ (size (fields (2 ^ f.frac) q t) - suc f.frac) ≡ q * 2 ^ f.frac + t
    go zero t l = back_by f.frac 0 (2 ^ f.frac) t (0 * 2 ^ f.frac + t) (omega (arith, size-le t f.frac l)) (ap (λ (z : ℕ). 0 * 2 ^ f.frac + z) (div-one t))
    go (suc e) t l =
        let u = (2 ^ f.frac + t) * 2 ^ e in
        let lo : 2 ^ (f.frac + e) ≤ u = omega (arith, pow-add 2 f.frac e) in
        let hi : u < 2 ^ suc (f.frac + e) = omega (arith, two-pow-succ (f.frac + e), pow-add 2 f.frac e, times_le (2 ^ e) l, pow_pos e) in
        back_by f.frac e (2 ^ f.frac) u (suc e * 2 ^ f.frac + t) (omega (arith, size_is (f.frac + e) u lo hi))
        (ap (λ (z : ℕ). e * 2 ^ f.frac + z) (mul-div_cancel (2 ^ f.frac + t) (pow_pos e)) ∙ omega arith)
