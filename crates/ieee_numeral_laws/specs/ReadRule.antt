-- What the reader is held to: when it is refused, and by which number, and what its value is. Assumes nothing.
use Rattle.std.specs.Prelude.{ℕ, suc, ◌*◌, ◌^◌, ◌≤◌, ◌<◌, ◌≡◌, ◌↔◌, ◌⊎◌, Bool, List, length, ℤ, pos, negsuc, ◌*ℤ◌}
use Rattle.ieee.specs.Format.{Format, low, inf, canonical}
use Rattle.ieee.specs.Pattern.{with_sign, signed}
use Rattle.ieee.specs.Exact.{Value, dyadic, surd}
use Rattle.ieee.specs.Round.{Attribute}
use Rattle.ieee.specs.Rounded.{attribute_number}
use Rattle.ieee.specs.Rule.{RuleIn}
use Rattle.ieee.specs.Refusal.{Answer, number_of, value_of}
use Rattle.ieee_numeral_laws.specs.Numeral.{Numeral, number, infinity, not_a_number, Says}
use Rattle.ieee_numeral_laws.specs.Read.{exact_numeral}

-- ---- the refusals
-- the text is in the grammar
pub record InGrammar (s : List ℕ) : Type 0 where
  pub numeral : Numeral
  pub says : Says s numeral

-- when each number k is given, n being the attribute's
pub record ReadRefusals (n : ℕ) (s : List ℕ) (k : ℕ) : Type 0 where
  pub ten : (k ≡ 10) ↔ (5 ≤ n)
  pub six : (k ≡ 6) ↔ ((n < 5) × (64 < length s))
  pub seven : (k ≡ 7) ↔ ((n < 5) × ((length s ≤ 64) × (InGrammar s → ⊥)))
  pub none : (k ≡ 0) ↔ ((n < 5) × ((length s ≤ 64) × InGrammar s))
  pub only : (k ≡ 0) ⊎ (k ≡ 6) ⊎ (k ≡ 7) ⊎ (k ≡ 10)

-- ---- the value
-- v smallest units are d times 2 ^ e over 16 ^ k with the sign s; each smallest unit is 2 ^ -low
abbrev pub Worth : Format → Bool → ℕ → ℕ → ℤ → Value → Type 0
Worth f s d k (pos e) (dyadic z j) = (z *ℤ pos (16 ^ k)) ≡ with_sign s (d * 2 ^ e * 2 ^ low f * 2 ^ j)
Worth f s d k (negsuc e) (dyadic z j) = (z *ℤ pos (16 ^ k * 2 ^ suc e)) ≡ with_sign s (d * 2 ^ low f * 2 ^ j)
Worth f s d k e (surd n) = ⊥

-- what a numeral stands for, rounded once under the attribute a
abbrev pub ReadValue : Format → Attribute → Numeral → ℕ → Type 0
ReadValue f a (number s d k e) r = RuleIn f a s (exact_numeral f s d k e) r
ReadValue f a (infinity s) r = r ≡ signed f s (inf f)
ReadValue f a not_a_number r = r ≡ canonical f

-- ---- the whole answer: its number, and its value, 0 where it is refused
pub record ReadAs (f : Format) (n : ℕ) (s : List ℕ) (r : Answer) : Type 0 where
  pub refusals : ReadRefusals n s (number_of r)
  pub no_value : (number_of r ≡ 0 → ⊥) → value_of r ≡ 0
  pub value : number_of r ≡ 0 → (a : Attribute) → attribute_number a ≡ n → (m : Numeral) → Says s m → ReadValue f a m (value_of r)
