-- The answer for u times 2 ^ n: chosen by the location, and the same for every form of one value. Assumes nothing.
use Prim.Native.Nat.{ℕ, suc, ◌+◌, ◌*◌, ◌^◌}
use mathlib.Core.Path.{◌≡◌, sym, ap, ◌∙◌}
use mathlib.Core.Bool.{Bool}
use native.Mathlib.Omega.{arith}
use lib.Pow.{pow-add}
use lib.IntN.{ℤ, pos, negsuc, ◌+ℤ◌}
use Rattle.algebra.proofs.Products.{times}
use Rattle.algebra.proofs.Integers.{up, dn, add_z}
use Rattle.ieee.specs.Format.{Format, Fair}
use Rattle.ieee.specs.Pattern.{signed}
use Rattle.ieee.specs.Round.{Attribute, way_of, rounded, answer}
use Rattle.ieee.specs.Scalbn.{scaled}
use Rattle.ieee.proofs.Exacts.{answer_of, sign_own}
use Rattle.round_laws.specs.Location.{below, location, chosen, stretched}
use Rattle.round_laws.proofs.Choices.{choice_rounds}
use Rattle.round_laws.proofs.Stretched.{stretched_sound, stretched_alike}

pub answer_scaled : (f : Format) (a : Attribute) (s : Bool) (u : ℕ) (n : ℤ) → answer f a s (scaled s u n) ≡ signed f s (rounded f (way_of a s) (stretched u n))
answer_scaled f a s u (pos n) = answer_of f a s s (u * 2 ^ n) 0 (sign_own s (u * 2 ^ n) 0)
answer_scaled f a s u (negsuc n) = answer_of f a s s u (suc n) (sign_own s u (suc n))

pub answer_chosen : (f : Format) → Fair f → (a : Attribute) (s : Bool) (u : ℕ) (n : ℤ)
    → answer f a s (scaled s u n) ≡ signed f s (chosen (way_of a s) (below f (stretched u n)) (location f (stretched u n)))
answer_chosen f g a s u n = answer_scaled f a s u n ∙ ap (signed f s) (choice_rounds f g (way_of a s) (stretched u n) (stretched_sound u n))

-- one value in two forms
pub scaled_alike : (f : Format) (a : Attribute) (s : Bool) (u v : ℕ) (n k : ℤ) → u * 2 ^ (up n + dn k) ≡ v * 2 ^ (up k + dn n)
    → answer f a s (scaled s u n) ≡ answer f a s (scaled s v k)
scaled_alike f a s u v n k e = answer_scaled f a s u n ∙ ap (signed f s) (stretched_alike f (way_of a s) u v n k e) ∙ sym (answer_scaled f a s v k)

pub scaled_moves : (f : Format) (a : Attribute) (s : Bool) (u c : ℕ) (n : ℤ) → answer f a s (scaled s (u * 2 ^ c) n) ≡ answer f a s (scaled s u (n +ℤ pos c))
scaled_moves f a s u c n = scaled_alike f a s (u * 2 ^ c) u n m (omega (arith, times u sums))
  where
    m : ℤ
    m = n +ℤ pos c

    sums : 2 ^ c * 2 ^ (up n + dn m) ≡ 2 ^ (up m + dn n)
    sums = sym (pow-add 2 c (up n + dn m)) ∙ ap (λ k. 2 ^ k) (omega (arith, add_z n (pos c)))
