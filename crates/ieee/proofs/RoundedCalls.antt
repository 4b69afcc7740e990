-- The calls under an attribute by its number. Assumes nothing.
use Prim.Native.Nat.{ℕ, zero, suc, ◌≤◌, ◌<◌}
use mathlib.Core.Path.{◌≡◌, refl}
use mathlib.Core.Logic.{◌↔◌}
use native.Mathlib.Omega.{arith}
use lib.IntN.{ℤ}
use Rattle.ieee.specs.Format.{Format}
use Rattle.ieee.specs.Round.{Attribute, ties_to_even, ties_to_away, toward_zero, toward_positive, toward_negative}
use Rattle.ieee.specs.Flags.{Flags, none}
use Rattle.ieee.specs.Sqrt.{sqrt_in, sqrt_flags_in}
use Rattle.ieee.specs.Fma.{fma_in, fma_flags_in}
use Rattle.ieee.specs.Scalbn.{scalbn_in, scalbn_flags_in}
use Rattle.ieee.specs.Rounded.{Rounded, answered, attributes, attribute_number, numbered, Gives, sqrt_rounded, fma_rounded, scalbn_rounded, ByNumber}

by_number : (R : Attribute → ℕ) (F : Attribute → Flags) → ByNumber R F (λ n. numbered attributes n (λ a. answered (R a) (F a)))
by_number R F =
    record { nearest_even = (refl, refl, refl); to_zero = (refl, refl, refl); down = (refl, refl, refl); up = (refl, refl, refl); nearest_away = (refl, refl, refl); other = other }
  where
    other : (n : ℕ) → 5 ≤ n → Gives (numbered attributes n (λ a. answered (R a) (F a))) 10 0 none
    other (suc (suc (suc (suc (suc n))))) l = (refl, refl, refl)
    other zero l = absurd (omega arith)
    other (suc zero) l = absurd (omega arith)
    other (suc (suc zero)) l = absurd (omega arith)
    other (suc (suc (suc zero))) l = absurd (omega arith)
    other (suc (suc (suc (suc zero)))) l = absurd (omega arith)

-- ---- under an attribute, by its number
under : (a : Attribute) (call : Attribute → Rounded) → numbered attributes (attribute_number a) call ≡ call a
under ties_to_even call = refl
under ties_to_away call = refl
under toward_zero call = refl
under toward_positive call = refl
under toward_negative call = refl

pub sqrt_under : (f : Format) (a : Attribute) (x : ℕ) → sqrt_rounded f (attribute_number a) x ≡ answered (sqrt_in f a x) (sqrt_flags_in f a x)
unfolding sqrt_rounded
sqrt_under f a x = under a (λ b. answered (sqrt_in f b x) (sqrt_flags_in f b x))

pub fma_under : (f : Format) (a : Attribute) (x y z : ℕ) → fma_rounded f (attribute_number a) x y z ≡ answered (fma_in f a x y z) (fma_flags_in f a x y z)
unfolding fma_rounded
fma_under f a x y z = under a (λ b. answered (fma_in f b x y z) (fma_flags_in f b x y z))

pub scalbn_under : (f : Format) (a : Attribute) (x : ℕ) (k : ℤ) → scalbn_rounded f (attribute_number a) x k ≡ answered (scalbn_in f a x k) (scalbn_flags_in f a x k)
unfolding scalbn_rounded
scalbn_under f a x k = under a (λ b. answered (scalbn_in f b x k) (scalbn_flags_in f b x k))

-- ---- refused exactly where no attribute has the number; else done
done : {k : ℕ} (n : ℕ) → k ≡ 0 → n < 5 → ((k ≡ 10) ↔ (5 ≤ n)) × ((k ≡ 0) ↔ (n < 5))
done n e l = ((λ h. absurd (omega (arith, e, h)), λ g. absurd (omega arith)), (λ h. l, λ g. e))

pub ten : {R : Attribute → ℕ} {F : Attribute → Flags} {r : ℕ → Rounded} → ByNumber R F r → (n : ℕ) → (((r n).number ≡ 10) ↔ (5 ≤ n)) × (((r n).number ≡ 0) ↔ (n < 5))
ten b zero = done zero b.nearest_even.0 (omega arith)
ten b (suc zero) = done 1 b.to_zero.0 (omega arith)
ten b (suc (suc zero)) = done 2 b.down.0 (omega arith)
ten b (suc (suc (suc zero))) = done 3 b.up.0 (omega arith)
ten b (suc (suc (suc (suc zero)))) = done 4 b.nearest_away.0 (omega arith)
ten b (suc (suc (suc (suc (suc n))))) =
    let e = (b.other (suc (suc (suc (suc (suc n))))) (omega arith)).0 in
    ((λ h. omega arith, λ l. e), (λ h. absurd (omega (arith, e, h)), λ l. absurd (omega arith)))

pub sqrt_by_number : (f : Format) (x : ℕ) → ByNumber (λ a. sqrt_in f a x) (λ a. sqrt_flags_in f a x) (λ n. sqrt_rounded f n x)
unfolding sqrt_rounded
sqrt_by_number f x = by_number (λ a. sqrt_in f a x) (λ a. sqrt_flags_in f a x)

pub fma_by_number : (f : Format) (x y z : ℕ) → ByNumber (λ a. fma_in f a x y z) (λ a. fma_flags_in f a x y z) (λ n. fma_rounded f n x y z)
unfolding fma_rounded
fma_by_number f x y z = by_number (λ a. fma_in f a x y z) (λ a. fma_flags_in f a x y z)

pub scalbn_by_number : (f : Format) (x : ℕ) (k : ℤ) → ByNumber (λ a. scalbn_in f a x k) (λ a. scalbn_flags_in f a x k) (λ n. scalbn_rounded f n x k)
unfolding scalbn_rounded
scalbn_by_number f x k = by_number (λ a. scalbn_in f a x k) (λ a. scalbn_flags_in f a x k)
