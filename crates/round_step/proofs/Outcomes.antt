-- The pattern and the flags together: of marked values, and of one value in two forms. Assumes nothing.
use Prim.Native.Nat.{ℕ, ◌+◌, ◌*◌, ◌^◌, ◌≤◌, ◌<◌}
use mathlib.Core.Path.{◌≡◌, sym, ap, ◌∙◌}
use mathlib.Core.Bool.{Bool}
use native.Mathlib.Omega.{arith}
use lib.Pow.{pow-add, pow_pos}
use lib.IntN.{ℤ, pos, ◌+ℤ◌}
use Rattle.algebra.proofs.Products.{times}
use Rattle.algebra.proofs.Integers.{up, dn, add_z}
use Rattle.ieee.specs.Format.{Format, Fair}
use Rattle.ieee.specs.Pattern.{with_sign}
use Rattle.ieee.specs.Exact.{dyadic}
use Rattle.ieee.specs.Round.{Attribute, way_of}
use Rattle.ieee.specs.Flags.{raised_by}
use Rattle.ieee.specs.Scalbn.{scaled}
use Rattle.round_laws.specs.Location.{stretched}
use Rattle.round_laws.proofs.Stretched.{stretched_ratio}
use Rattle.round_step.specs.Mark.{Marks}
use Rattle.round_step.specs.Outcome.{outcome}
use Rattle.round_step.proofs.Scaled.{scaled_alike}
use Rattle.round_step.proofs.MarkedAnswers.{sticky_answer}
use Rattle.round_step.proofs.MarkedFlags.{ratio_flags, raised_scaled, sticky_raised}

-- v / 2 ^ b gives what its mark gives; z is the sign of a zero, t that of the value
pub sticky_outcome : (f : Format) → Fair f → (a : Attribute) (z t : Bool) (v s i b : ℕ) (n : ℤ) → 0 < v → up n + b ≡ dn n + i
    → Marks v (2 ^ i) s → (b < i + 3 → 2 ^ (2 + f.frac) ≤ s) → outcome f a z (dyadic (with_sign t v) b) ≡ outcome f a t (scaled t s n)
sticky_outcome f g a z t v s i b n p e m h =
    let values = sticky_answer f a z t v s i b n p e m (λ l. h (omega arith)) in
    let flags = sticky_raised f g a z t v s i b n p e m h in
    λ k. (values k, flags k)

-- ---- one value in two forms
stretched_alike : (f : Format) → Fair f → (a : Attribute) (s : Bool) (u v : ℕ) (n k : ℤ) → u * 2 ^ (up n + dn k) ≡ v * 2 ^ (up k + dn n)
    → raised_by f (way_of a s) (stretched u n) ≡ raised_by f (way_of a s) (stretched v k)
stretched_alike f g a s u v n k e =
    ap (raised_by f (way_of a s)) (stretched_ratio u n)
    ∙ ratio_flags f g (way_of a s) (u * 2 ^ up n) (2 ^ dn n) (v * 2 ^ up k) (2 ^ dn k) (pow_pos (dn n)) (pow_pos (dn k)) (omega (arith, e, times u (pow-add 2 (up n) (dn k)), times v (pow-add 2 (up k) (dn n))))
    ∙ ap (raised_by f (way_of a s)) (sym (stretched_ratio v k))

pub scaled_outcome : (f : Format) → Fair f → (a : Attribute) (s : Bool) (u v : ℕ) (n k : ℤ) → u * 2 ^ (up n + dn k) ≡ v * 2 ^ (up k + dn n)
    → outcome f a s (scaled s u n) ≡ outcome f a s (scaled s v k)
scaled_outcome f g a s u v n k e =
    let values = scaled_alike f a s u v n k e in
    let flags = raised_scaled f a s u n ∙ stretched_alike f g a s u v n k e ∙ sym (raised_scaled f a s v k) in
    λ i. (values i, flags i)

pub moved_outcome : (f : Format) → Fair f → (a : Attribute) (s : Bool) (u c : ℕ) (n : ℤ) → outcome f a s (scaled s (u * 2 ^ c) n) ≡ outcome f a s (scaled s u (n +ℤ pos c))
moved_outcome f g a s u c n = scaled_outcome f g a s (u * 2 ^ c) u n m (omega (arith, times u sums))
  where
    m : ℤ
    m = n +ℤ pos c

    sums : 2 ^ c * 2 ^ (up n + dn m) ≡ 2 ^ (up m + dn n)
    sums = sym (pow-add 2 c (up n + dn m)) ∙ ap (λ k. 2 ^ k) (omega (arith, add_z n (pos c)))
