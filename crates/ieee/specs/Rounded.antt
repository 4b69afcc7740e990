-- sqrt, fma and scalbn under an attribute by its number: the value and the flags, or refusal 10. Assumes nothing.
use Rattle.std.specs.Prelude.{ℕ, zero, suc, ◌≤◌, ◌≡◌, List, [], ◌∷◌, ℤ}
use Rattle.ieee.specs.Format.{Format}
use Rattle.ieee.specs.Round.{Attribute, ties_to_even, ties_to_away, toward_zero, toward_positive, toward_negative}
use Rattle.ieee.specs.Flags.{Flags, none}
use Rattle.ieee.specs.Sqrt.{sqrt_in, sqrt_flags_in}
use Rattle.ieee.specs.Fma.{fma_in, fma_flags_in}
use Rattle.ieee.specs.Scalbn.{scalbn_in, scalbn_flags_in}

-- the refusal's number, 0 where the call is done; the value, and the flags
pub record Rounded : Type 0 where
  pub number : ℕ
  pub value : ℕ
  pub flags : Flags

abbrev pub answered : ℕ → Flags → Rounded
answered r F = record { number = 0; value = r; flags = F }

-- no such attribute
abbrev pub no_attribute : Rounded
no_attribute = record { number = 10; value = 0; flags = none }

-- the attributes in the order of their numbers, from 0 on
abbrev pub attributes : List Attribute
attributes = ties_to_even ∷ toward_zero ∷ toward_negative ∷ toward_positive ∷ ties_to_away ∷ []

-- the number of each
abbrev pub attribute_number : Attribute → ℕ
attribute_number ties_to_even = 0
attribute_number toward_zero = 1
attribute_number toward_negative = 2
attribute_number toward_positive = 3
attribute_number ties_to_away = 4

-- what a call gives under the nth of them
abbrev pub numbered : List Attribute → ℕ → (Attribute → Rounded) → Rounded
numbered [] n call = no_attribute
numbered (a ∷ rest) zero call = call a
numbered (a ∷ rest) (suc n) call = numbered rest n call

unfoldable pub sqrt_rounded : Format → ℕ → ℕ → Rounded
unfolding sqrt_in sqrt_flags_in
sqrt_rounded f n x = numbered attributes n (λ a. answered (sqrt_in f a x) (sqrt_flags_in f a x))

unfoldable pub fma_rounded : Format → ℕ → ℕ → ℕ → ℕ → Rounded
unfolding fma_in fma_flags_in
fma_rounded f n x y z = numbered attributes n (λ a. answered (fma_in f a x y z) (fma_flags_in f a x y z))

unfoldable pub scalbn_rounded : Format → ℕ → ℕ → ℤ → Rounded
unfolding scalbn_in scalbn_flags_in
scalbn_rounded f n x k = numbered attributes n (λ a. answered (scalbn_in f a x k) (scalbn_flags_in f a x k))

-- ---- what a call is held to
abbrev pub Gives : Rounded → ℕ → ℕ → Flags → Type 0
Gives r n v F = (r.number ≡ n) × (r.value ≡ v) × (r.flags ≡ F)

-- the call r by number, R and F being the value and the flags by the attribute
pub record ByNumber (R : Attribute → ℕ) (F : Attribute → Flags) (r : ℕ → Rounded) : Type 0 where
  pub nearest_even : Gives (r 0) 0 (R ties_to_even) (F ties_to_even)
  pub to_zero : Gives (r 1) 0 (R toward_zero) (F toward_zero)
  pub down : Gives (r 2) 0 (R toward_negative) (F toward_negative)
  pub up : Gives (r 3) 0 (R toward_positive) (F toward_positive)
  pub nearest_away : Gives (r 4) 0 (R ties_to_away) (F ties_to_away)
  pub other : (n : ℕ) → 5 ≤ n → Gives (r n) 10 0 none
