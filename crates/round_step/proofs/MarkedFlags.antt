-- The flags of marked values are those of their marks, as for `sticky_answer` and `sticky_root_answer`; two forms of one value raise the same flags. Assumes nothing.
use Prim.Native.Nat.{ℕ, zero, suc, ◌+◌, ◌-◌, ◌*◌, ◌^◌, ◌≤◌, ◌<◌}
use mathlib.Core.Path.{◌≡◌, sym, ap, ◌∙◌}
use mathlib.Core.Bool.{Bool, false}
use native.Mathlib.Omega.{arith}
use lib.Pow.{pow-add, pow_pos}
use lib.IntN.{ℤ, pos, negsuc}
use Rattle.algebra.proofs.Products.{times}
use Rattle.algebra.proofs.Integers.{up, dn}
use Rattle.ieee.specs.Format.{Format, Fair, units}
use Rattle.ieee.specs.Pattern.{with_sign}
use Rattle.ieee.specs.Exact.{dyadic, surd, ratio, root, magnified}
use Rattle.ieee.specs.Round.{Way, Attribute, way_of, middle}
use Rattle.ieee.specs.Flags.{raised_by, raised}
use Rattle.ieee.specs.Scalbn.{scaled}
use Rattle.ieee.proofs.Exacts.{sign_own, sign_given}
use Rattle.ieee.proofs.Raised.{raised_of}
use Rattle.ieee.proofs.Locations.{quarters}
use Rattle.ieee.proofs.FlagsAlike.{flags_alike}
use Rattle.round_laws.specs.Location.{stretched}
use Rattle.round_laws.proofs.Stretched.{same_ratio, stretched_ratio}
use Rattle.round_step.specs.Mark.{Marks, Marked}
use Rattle.round_step.proofs.MarkedAnswers.{ratio_marked}
use Rattle.round_step.proofs.StickyFlags.{sticky_flags}

-- one ratio in two forms
pub ratio_flags : (f : Format) → Fair f → (w : Way) (n d k e : ℕ) → 0 < d → 0 < e → n * e ≡ k * d → raised_by f w (ratio n d) ≡ raised_by f w (ratio k e)
ratio_flags f g w n d k e p q h =
    flags_alike f g w (ratio n d) (ratio k e) p q
    (record {
      at_number = λ j _. same_ratio n d k e p q h (2 * units f j);
      at_middle = λ j _. same_ratio n d k e p q h (middle f j);
      at_quarters = same_ratio (n * 2) d (k * 2) e p q (omega arith) (quarters f (2 ^ f.frac - 1));
    })

pub raised_scaled : (f : Format) (a : Attribute) (s : Bool) (u : ℕ) (n : ℤ) → raised f a s (scaled s u n) ≡ raised_by f (way_of a s) (stretched u n)
raised_scaled f a s u (pos n) = raised_of f a s s (u * 2 ^ n) 0 (sign_own s (u * 2 ^ n) 0)
raised_scaled f a s u (negsuc n) = raised_of f a s s u (suc n) (sign_own s u (suc n))

-- s steps of 2 ^ a / 2 ^ b, which is 2 ^ n
pub stretched_flags : (f : Format) → Fair f → (w : Way) (s a b : ℕ) (n : ℤ) → up n + b ≡ dn n + a → raised_by f w (ratio (s * 2 ^ a) (2 ^ b)) ≡ raised_by f w (stretched s n)
stretched_flags f g w s a b n e =
    let level : 2 ^ a * 2 ^ dn n ≡ 2 ^ up n * 2 ^ b = sym (pow-add 2 a (dn n)) ∙ ap (λ i. 2 ^ i) (omega arith) ∙ pow-add 2 (up n) b in
    ratio_flags f g w (s * 2 ^ a) (2 ^ b) (s * 2 ^ up n) (2 ^ dn n) (pow_pos b) (pow_pos (dn n)) (omega (arith, times s level)) ∙ ap (raised_by f w) (sym (stretched_ratio s n))

-- the flags of v / 2 ^ b are those of its mark; z is the sign of a zero, t that of the value
pub sticky_raised : (f : Format) → Fair f → (a : Attribute) (z t : Bool) (v s i b : ℕ) (n : ℤ) → 0 < v → up n + b ≡ dn n + i
    → Marks v (2 ^ i) s → (b < i + 3 → 2 ^ (2 + f.frac) ≤ s) → raised f a z (dyadic (with_sign t v) b) ≡ raised f a t (scaled t s n)
sticky_raised f g a z t v s i b n p e m h =
    raised_of f a z t v b (sign_given z t v b p)
    ∙ sticky_flags f g (way_of a t) (ratio v (2 ^ b)) (pow_pos b) s i b (ratio_marked v (2 ^ i) (2 ^ b) s (pow_pos b) m) h
    ∙ stretched_flags f g (way_of a t) s i b n e
    ∙ sym (raised_scaled f a t s n)

-- and those of a root
pub sticky_root_raised : (f : Format) → Fair f → (a : Attribute) (z : Bool) (v s i b : ℕ) (n : ℤ) → 0 < v → up n + b ≡ dn n + i
    → Marked (magnified (root v) (2 ^ b)) (2 ^ i) s → (b < i + 3 → 2 ^ (2 + f.frac) ≤ s) → raised f a z (surd v) ≡ raised f a false (scaled false s n)
unfolding raised
sticky_root_raised f g a z zero s i b n p e m h = absurd (omega arith)
sticky_root_raised f g a z (suc v) s i b n p e m h =
    sticky_flags f g (way_of a false) (root (suc v)) tt s i b m h ∙ stretched_flags f g (way_of a false) s i b n e ∙ sym (raised_scaled f a false s n)
