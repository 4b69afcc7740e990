-- Values that need no rounding: zero, and the values that the format holds. Assumes nothing.
use Prim.Native.Nat.{ℕ, zero, suc, ◌*◌, ◌^◌, ◌<◌}
use mathlib.Core.Path.{◌≡◌, refl, ap, ◌∙◌}
use mathlib.Core.Bool.{Bool, true, false}
use native.Mathlib.Omega.{arith}
use lib.Pow.{pow_pos}
use lib.IntN.{pos}
use Rattle.ieee.specs.Format.{Format, inf, units}
use Rattle.ieee.specs.Pattern.{signed, with_sign}
use Rattle.ieee.specs.Exact.{dyadic, surd, sign_of, Exact, ratio, root, Under}
use Rattle.ieee.specs.Round.{Way, even, away, shorter, longer, Attribute, way_of, rounded, answer}
use Rattle.ieee.proofs.Units.{units_rise}
use Rattle.ieee.proofs.Sides.{Sound, under_up, apart}
use Rattle.ieee.proofs.Past.{Passes, rounded_is}
use Rattle.ieee.proofs.Fixed.{below_reach, fixed}
use Rattle.ieee.proofs.Signs.{abs_signed}

-- zero is past no threshold
not_passes : (f : Format) (w : Way) (x : Exact) → Sound x → Under x 0 → Passes f w x 0 → ⊥
not_passes f even x s u p = apart x s (omega (arith, units_rise f 0)) u p.0
not_passes f away x s u p = apart x s (omega (arith, units_rise f 0)) u p
not_passes f shorter x s u p = apart x s (omega (arith, units_rise f 0)) u p.0
not_passes f longer x s u p = p (under_up x (omega arith) u)

pub rounded_zero : (f : Format) (w : Way) (x : Exact) → Sound x → Under x 0 → rounded f w x ≡ 0
rounded_zero f w x s u = rounded_is f w x s 0 tt (λ p. not_passes f w x s u p.1)

pub answer_zero : (f : Format) (a : Attribute) (s : Bool) (k : ℕ) → answer f a s (dyadic (pos 0) k) ≡ signed f s 0
unfolding answer
answer_zero f a s k = ap (signed f s) (rounded_zero f (way_of a s) (ratio 0 (2 ^ k)) (pow_pos k) (omega arith))

pub answer_root_zero : (f : Format) (a : Attribute) (s : Bool) → answer f a s (surd 0) ≡ signed f s 0
unfolding answer
answer_root_zero f a s = ap (signed f s) (rounded_zero f (way_of a s) (root 0) tt (omega arith))

-- ---- a whole number with a sign, over a power of two
pub sign_own : (s : Bool) (n k : ℕ) → sign_of s (dyadic (with_sign s n) k) ≡ s
sign_own false zero k = refl
sign_own false (suc n) k = refl
sign_own true zero k = refl
sign_own true (suc n) k = refl

pub sign_given : (s t : Bool) (n k : ℕ) → 0 < n → sign_of s (dyadic (with_sign t n) k) ≡ t
sign_given s t zero k l = absurd (omega arith)
sign_given s false (suc n) k l = refl
sign_given s true (suc n) k l = refl

pub answer_of : (f : Format) (a : Attribute) (s t : Bool) (n k : ℕ) → sign_of s (dyadic (with_sign t n) k) ≡ t
    → answer f a s (dyadic (with_sign t n) k) ≡ signed f t (rounded f (way_of a t) (ratio n (2 ^ k)))
unfolding answer
answer_of f a s t n k e = λ i. signed f (e i) (rounded f (way_of a (e i)) (ratio (abs_signed t n i) (2 ^ k)))

-- a value that the format holds is its own answer
pub answer_held : (f : Format) (a : Attribute) (s t : Bool) (m k : ℕ) → m < inf f → sign_of s (dyadic (with_sign t (units f m * 2 ^ k)) k) ≡ t
    → answer f a s (dyadic (with_sign t (units f m * 2 ^ k)) k) ≡ signed f t m
answer_held f a s t m k l e =
    answer_of f a s t (units f m * 2 ^ k) k e ∙ ap (signed f t) (fixed f (way_of a t) m (2 ^ k) (pow_pos k) (below_reach f (way_of a t) m l))
