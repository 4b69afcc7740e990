-- The flags of each operation for NaNs, infinities and zeros, row by row (IEEE 754-2019, clauses 6.2 and 7.2), and those of trunc and floor. Assumes nothing.
use Rattle.std.specs.Prelude.{ℕ, suc, ◌≡◌, ◌↔◌, true, false}
use Rattle.ieee.specs.Format.{Format}
use Rattle.ieee.specs.Pattern.{Pattern, minus, value, nan, infinite, finite, kind}
use Rattle.ieee.specs.Flags.{Flags, none, only_invalid, only_inexact, signals}
use Rattle.ieee.specs.Fma.{InfiniteProduct, against}

-- sqrt: the flags F, under any attribute; all other numbers are held to the rule of flags
pub record SqrtFlagRows (f : Format) (F : ℕ → Flags) : Type 0 where
  pub of_signalling : (x : ℕ) → kind f x ≡ nan → signals f x ≡ true → F x ≡ only_invalid
  pub of_quiet : (x : ℕ) → kind f x ≡ nan → signals f x ≡ false → F x ≡ none
  pub of_infinity : (x : ℕ) → kind f x ≡ infinite → minus f x ≡ false → F x ≡ none
  pub of_minus_infinity : (x : ℕ) → kind f x ≡ infinite → minus f x ≡ true → F x ≡ only_invalid
  pub of_zero : (x : ℕ) → kind f x ≡ finite 0 → F x ≡ none
  pub of_minus : (x u : ℕ) → kind f x ≡ finite (suc u) → minus f x ≡ true → F x ≡ only_invalid

-- no operand signals
abbrev pub Silent : Format → ℕ → ℕ → ℕ → Type 0
Silent f x y z = (signals f x ≡ false) × (signals f y ≡ false) × (signals f z ≡ false)

-- fma: the flags F of x, y and z, under any attribute; those of three numbers are held to the rule of flags
pub record FmaFlagRows (f : Format) (x y z : ℕ) (F : Flags) : Type 0 where
  pub signalling_first : signals f x ≡ true → F ≡ only_invalid
  pub signalling_second : signals f y ≡ true → F ≡ only_invalid
  pub signalling_third : signals f z ≡ true → F ≡ only_invalid
  -- also where z is a quiet NaN
  pub zero_by_infinity : kind f x ≡ finite 0 → kind f y ≡ infinite → F ≡ only_invalid
  pub infinity_by_zero : kind f x ≡ infinite → kind f y ≡ finite 0 → F ≡ only_invalid
  pub opposite_infinities : InfiniteProduct f x y → kind f z ≡ infinite → against f x y z ≡ true → F ≡ only_invalid
  -- and in every other row with a NaN or an infinity, nothing
  pub quiet_first : kind f x ≡ nan → Silent f x y z → F ≡ none
  pub quiet_second : kind f y ≡ nan → Silent f x y z → F ≡ none
  pub quiet_third : kind f z ≡ nan → Silent f x y z → (kind f x ≡ finite 0 → kind f y ≡ infinite → ⊥) → (kind f x ≡ infinite → kind f y ≡ finite 0 → ⊥) → F ≡ none
  pub like_infinities : InfiniteProduct f x y → kind f z ≡ infinite → against f x y z ≡ false → F ≡ none
  pub infinite_product : (w : ℕ) → InfiniteProduct f x y → kind f z ≡ finite w → F ≡ none
  pub infinite_third : (u v : ℕ) → kind f x ≡ finite u → kind f y ≡ finite v → kind f z ≡ infinite → F ≡ none

-- scalbn: the flags F of x with any n, under any attribute; those of a number are held to the rule of flags
pub record ScalbnFlagRows (f : Format) (x : ℕ) (F : Flags) : Type 0 where
  pub of_signalling : kind f x ≡ nan → signals f x ≡ true → F ≡ only_invalid
  pub of_quiet : kind f x ≡ nan → signals f x ≡ false → F ≡ none
  pub of_infinity : kind f x ≡ infinite → F ≡ none

-- trunc or floor: the operation o with its flags F
pub record WholeFlagRows (f : Format) (o : ℕ → ℕ) (F : ℕ → Flags) : Type 0 where
  pub of_signalling : (x : ℕ) → kind f x ≡ nan → signals f x ≡ true → F x ≡ only_invalid
  pub of_quiet : (x : ℕ) → kind f x ≡ nan → signals f x ≡ false → F x ≡ none
  pub of_infinity : (x : ℕ) → kind f x ≡ infinite → F x ≡ none
  -- a finite operand: inexact alone, exactly where the answer is another pattern, and so another number
  pub of_finite : (x u : ℕ) → kind f x ≡ finite u → F x ≡ only_inexact (F x).inexact
  pub changed : (x u : ℕ) → kind f x ≡ finite u → ((F x).inexact ≡ true) ↔ (o x ≡ x → ⊥)
  pub another : (x u : ℕ) → Pattern f x → kind f x ≡ finite u → ((F x).inexact ≡ true) ↔ (value f (o x) ≡ value f x → ⊥)
