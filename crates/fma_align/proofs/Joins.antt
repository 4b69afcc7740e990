-- The signed sum of two magnitudes, by the signs and the order. Assumes nothing.
use Prim.Native.Nat.{ℕ, ◌+◌, ◌-◌, ◌≤◌, ◌<◌}
use mathlib.Core.Path.{◌≡◌, refl, sym, ap, ◌∙◌}
use mathlib.Core.Bool.{Bool, true, false, not, cond, beq}
use native.Mathlib.Omega.{arith}
use borrow.Author.Tests.{lt-ltb, le-ltb}
use lib.Dec.{ltb}
use Rattle.ieee.specs.Pattern.{unlike}
use Rattle.fma_laws.specs.Aligned.{joined, joined_sign}

-- r with the sign u is the sum of a with the sign s and b with the sign t
abbrev pub Joins : Bool → Bool → ℕ → ℕ → ℕ → Bool → Type 0
Joins s t a b r u = (r ≡ joined (unlike s t) a b) × (u ≡ joined_sign s t a b)

same_chosen : (o s : Bool) → cond o s s ≡ s
same_chosen true s = refl
same_chosen false s = refl

same_signs : (s t : Bool) → beq s t ≡ true → s ≡ t
same_signs true true e = refl
same_signs true false e = sym e
same_signs false true e = e
same_signs false false e = refl

module _ (s t : Bool) (a b r : ℕ) where
  pub joins_alike : beq s t ≡ true → r ≡ a + b → Joins s t a b r s
  joins_alike e f =
      (f ∙ sym (ap (λ o. joined (not o) a b) e), sym (ap (λ u. cond (ltb a b) u s) (sym (same_signs s t e)) ∙ same_chosen (ltb a b) s))

  pub joins_less : beq s t ≡ false → a < b → r ≡ b - a → Joins s t a b r t
  joins_less e l f = (omega arith ∙ sym (ap (λ o. joined (not o) a b) e), sym (ap (λ o. cond o t s) (lt-ltb a b l)))

  pub joins_no_less : beq s t ≡ false → b ≤ a → r ≡ a - b → Joins s t a b r s
  joins_no_less e l f = (omega arith ∙ sym (ap (λ o. joined (not o) a b) e), sym (ap (λ o. cond o t s) (le-ltb a b l)))
