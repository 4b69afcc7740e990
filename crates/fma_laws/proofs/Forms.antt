-- What one value gives in two forms: over a finer power of two, and as an exact count of steps. Assumes nothing.
use Prim.Native.Nat.{ℕ, ◌+◌, ◌*◌, ◌^◌, ◌<◌}
use mathlib.Core.Path.{◌≡◌, sym, ap, ◌∙◌}
use mathlib.Core.Bool.{Bool}
use native.Mathlib.Omega.{arith}
use lib.Pow.{pow-add, pow_pos}
use lib.IntN.{ℤ}
use Rattle.algebra.proofs.Products.{times, times_le}
use Rattle.algebra.proofs.Integers.{up, dn}
use Rattle.ieee.specs.Format.{Format, Fair}
use Rattle.ieee.specs.Pattern.{signed, with_sign}
use Rattle.ieee.specs.Exact.{dyadic, ratio}
use Rattle.ieee.specs.Round.{Attribute, way_of, rounded, answer}
use Rattle.ieee.specs.Flags.{raised, raised_by}
use Rattle.ieee.specs.Scalbn.{scaled}
use Rattle.ieee.proofs.Alike.{Beside, threshold, same_side}
use Rattle.ieee.proofs.Exacts.{answer_of, sign_given}
use Rattle.ieee.proofs.Raised.{raised_of}
use Rattle.round_laws.proofs.Stretched.{same_ratio, ratio_stretched}
use Rattle.round_step.specs.Outcome.{outcome}
use Rattle.round_step.proofs.Scaled.{answer_scaled}
use Rattle.round_step.proofs.MarkedFlags.{ratio_flags, raised_scaled, stretched_flags}

-- numerator and denominator times 2 ^ c
pub finer_outcome : (f : Format) → Fair f → (g : Attribute) (z t : Bool) (v b c : ℕ) → 0 < v
    → outcome f g z (dyadic (with_sign t v) b) ≡ outcome f g z (dyadic (with_sign t (v * 2 ^ c)) (b + c))
finer_outcome f i g z t v b c p = λ k. (values k, flags k)
  where
    level : v * 2 ^ (b + c) ≡ v * 2 ^ c * 2 ^ b
    level = omega (arith, times v (pow-add 2 b c))

    beside : (j : ℕ) → Beside (ratio v (2 ^ b)) (ratio (v * 2 ^ c) (2 ^ (b + c))) j
    beside = same_ratio v (2 ^ b) (v * 2 ^ c) (2 ^ (b + c)) (pow_pos b) (pow_pos (b + c)) level

    some : 0 < v * 2 ^ c
    some = omega (arith, times_le (2 ^ c) p, pow_pos c)

    values : answer f g z (dyadic (with_sign t v) b) ≡ answer f g z (dyadic (with_sign t (v * 2 ^ c)) (b + c))
    values =
        answer_of f g z t v b (sign_given z t v b p)
        ∙ ap (signed f t) (same_side f (way_of g t) (ratio v (2 ^ b)) (ratio (v * 2 ^ c) (2 ^ (b + c))) (λ j l. beside (threshold f (way_of g t) j)))
        ∙ sym (answer_of f g z t (v * 2 ^ c) (b + c) (sign_given z t (v * 2 ^ c) (b + c) some))

    flags : raised f g z (dyadic (with_sign t v) b) ≡ raised f g z (dyadic (with_sign t (v * 2 ^ c)) (b + c))
    flags =
        raised_of f g z t v b (sign_given z t v b p)
        ∙ ratio_flags f i (way_of g t) v (2 ^ b) (v * 2 ^ c) (2 ^ (b + c)) (pow_pos b) (pow_pos (b + c)) level
        ∙ sym (raised_of f g z t (v * 2 ^ c) (b + c) (sign_given z t (v * 2 ^ c) (b + c) some))

-- s steps of 2 ^ a / 2 ^ b, which is 2 ^ n
pub counted_outcome : (f : Format) → Fair f → (g : Attribute) (z t : Bool) (v s a b : ℕ) (n : ℤ) → 0 < v → up n + b ≡ dn n + a → v ≡ s * 2 ^ a
    → outcome f g z (dyadic (with_sign t v) b) ≡ outcome f g t (scaled t s n)
counted_outcome f i g z t v s a b n p e h = λ k. (values k, flags k)
  where
    values : answer f g z (dyadic (with_sign t v) b) ≡ answer f g t (scaled t s n)
    values =
        answer_of f g z t v b (sign_given z t v b p)
        ∙ ap (signed f t) (ap (λ k. rounded f (way_of g t) (ratio k (2 ^ b))) h ∙ ratio_stretched f (way_of g t) s a b n e)
        ∙ sym (answer_scaled f g t s n)

    flags : raised f g z (dyadic (with_sign t v) b) ≡ raised f g t (scaled t s n)
    flags =
        raised_of f g z t v b (sign_given z t v b p)
        ∙ ap (λ k. raised_by f (way_of g t) (ratio k (2 ^ b))) h
        ∙ stretched_flags f i (way_of g t) s a b n e
        ∙ sym (raised_scaled f g t s n)
