-- Signed exponents by their tests: clamped, the field of one, and its depth. Assumes nothing.
use Prim.Native.Nat.{ℕ, ◌≤◌, ◌<◌, min}
use mathlib.Core.Path.{◌≡◌, refl, ap}
use mathlib.Core.Bool.{true, false}
use native.Mathlib.Omega.{arith}
use lib.IntN.{ℤ, pos, negsuc, nat_abs, ◌-ℤ◌}
use lib.Signed.{mag, lt_z}
use Rattle.algebra.proofs.Integers.{abs_z, sub_z, eq_z, lt_z_true, lt_z_false}
use Rattle.ieee.specs.Scalbn.{clamp}
use Rattle.fmt_exponents.specs.Field.{above, depth_of}

-- ---- clamped
pub clamp_mag : (b : ℕ) (n : ℤ) → mag (clamp b n) ≤ b
clamp_mag b (pos n) = omega arith
clamp_mag b (negsuc n) = omega arith

-- past either end it is the end, and between them itself
pub clamp_above : (b : ℕ) (n : ℤ) → lt_z (pos b) n ≡ true → pos b ≡ clamp b n
clamp_above b (pos n) t = let l = lt_z_true (pos b) (pos n) t in ap pos (omega arith)
clamp_above b (negsuc n) t = let l = lt_z_true (pos b) (negsuc n) t in absurd (omega arith)

pub clamp_beneath : (b : ℕ) (n : ℤ) → lt_z n (negsuc 0 -ℤ pos b) ≡ true → negsuc 0 -ℤ pos b ≡ clamp b n
clamp_beneath b (pos n) t = let l = lt_z_true (pos n) (negsuc 0 -ℤ pos b) t in absurd (omega (arith, sub_z (negsuc 0) (pos b)))
clamp_beneath b (negsuc n) t =
    let l = lt_z_true (negsuc n) (negsuc 0 -ℤ pos b) t in
    let s = sub_z (negsuc 0) (pos b) in
    eq_z (negsuc 0 -ℤ pos b) (negsuc (min n b)) (omega arith)

pub clamp_within : (b : ℕ) (n : ℤ) → lt_z (pos b) n ≡ false → lt_z n (negsuc 0 -ℤ pos b) ≡ false → n ≡ clamp b n
clamp_within b (pos n) t u = let l = lt_z_false (pos b) (pos n) t in ap pos (omega arith)
clamp_within b (negsuc n) t u = let l = lt_z_false (negsuc n) (negsuc 0 -ℤ pos b) u in ap negsuc (omega (arith, sub_z (negsuc 0) (pos b)))

-- ---- the positive part
pub above_negative : (n : ℤ) → lt_z n (pos 0) ≡ true → 0 ≡ above n
above_negative (pos n) t = let l = lt_z_true (pos n) (pos 0) t in absurd (omega arith)
above_negative (negsuc n) t = refl

pub above_not : (n : ℤ) → lt_z n (pos 0) ≡ false → nat_abs n ≡ above n
above_not (pos n) t = refl
above_not (negsuc n) t = let l = lt_z_false (negsuc n) (pos 0) t in absurd (omega arith)

-- a positive field is the exponent itself
pub above_is : (n : ℤ) → 0 < above n → n ≡ pos (above n)
above_is (pos n) l = refl
above_is (negsuc n) l = absurd (omega arith)

-- ---- the depth below the least normal number
-- it is 1 from 0 on, 64 below -62, and between them the distance from 1
pub depth_none : (n : ℤ) → lt_z (negsuc 0) n ≡ true → 1 ≡ depth_of n
depth_none (pos n) t = refl
depth_none (negsuc n) t = let l = lt_z_true (negsuc 0) (negsuc n) t in absurd (omega arith)

pub depth_all : (n : ℤ) → lt_z n (negsuc 61) ≡ true → 64 ≡ depth_of n
depth_all (pos n) t = let l = lt_z_true (pos n) (negsuc 61) t in absurd (omega arith)
depth_all (negsuc n) t = let l = lt_z_true (negsuc n) (negsuc 61) t in omega arith

pub depth_some : (n : ℤ) → lt_z (negsuc 0) n ≡ false → lt_z n (negsuc 61) ≡ false → nat_abs (pos 1 -ℤ n) ≡ depth_of n
depth_some (pos n) t u = let l = lt_z_false (negsuc 0) (pos n) t in absurd (omega arith)
depth_some (negsuc n) t u = let l = lt_z_false (negsuc n) (negsuc 61) u in omega (arith, abs_z (pos 1 -ℤ negsuc n), sub_z (pos 1) (negsuc n))

pub depth_least : (n : ℤ) → 1 ≤ depth_of n
depth_least (pos n) = omega arith
depth_least (negsuc n) = omega arith

pub depth_most : (n : ℤ) → depth_of n ≤ 64
depth_most (pos n) = omega arith
depth_most (negsuc n) = omega arith
