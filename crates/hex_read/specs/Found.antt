-- What the reader has found: an exponent, a number or a pattern, against what the definition says of the text. Assumes nothing.
use Rattle.std.specs.Prelude.{ℕ, ◌+◌, ◌*◌, ◌%◌, ◌^◌, ◌≤◌, ◌<◌, ◌≡◌, Bool, cond, List, ℤ, pos, ◌+ℤ◌, ◌-ℤ◌, Option, Some, None, option_map}
use Rattle.std.specs.Int.Signed.{mag}
use Rattle.ieee.specs.Format.{Format}
use Rattle.ieee.specs.Round.{Attribute}
use Rattle.ieee_numeral_laws.specs.Numeral.{Numeral, number, infinity, not_a_number, inf_text, nan_text}
use Rattle.ieee_numeral_laws.specs.Reading.{same}
use Rattle.ieee_numeral_laws.specs.Read.{value_in}
use Rattle.round_step.specs.Mark.{Marks}
use Rattle.hex_read.specs.declared.number.Number.{Number}

-- ---- a number
-- a significand with the sticky mark as its last bit
abbrev pub marked : ℕ → Bool → ℕ
marked m sticky = cond sticky (2 * m + 1) (2 * m)

-- r has the number d times 2 ^ e over 16 ^ k: twice d, without its last `dropped` bits and with a mark for them, times the rest of the power
pub record Reduces (d k : ℕ) (e : ℤ) (r : Number) : Type 0 where
  pub dropped : ℕ
  pub marks : Marks (2 * d) (2 ^ dropped) r.sig
  -- a marked significand has enough bits for every format of at most 55 fraction bits
  pub enough : r.sig % 2 ≡ 1 → 2 ^ 57 ≤ r.sig
  pub power : r.exp ≡ e +ℤ pos dropped -ℤ pos (4 * k + 1)
  pub small : mag r.exp < 2 ^ 17

abbrev pub NumberAs : Bool → Option Numeral → Option Number → Type 0
NumberAs neg (Some (number s d k e)) (Some r) = (s ≡ neg) × Reduces d k e r
NumberAs neg (Some (infinity s)) (Some r) = ⊥
NumberAs neg (Some not_a_number) (Some r) = ⊥
NumberAs neg (Some m) None = ⊥
NumberAs neg None r = r ≡ None

-- ---- a pattern
abbrev pub FoundAs : Format → Attribute → Option Numeral → Option ℕ → Type 0
FoundAs f a p r = r ≡ option_map (value_in f a) p

-- what s says after a sign or none, if it is no number
unfoldable pub word_of : Bool → Bool → List ℕ → Option Numeral
unfolding same
word_of plus neg s =
    cond plus None (cond (same s inf_text) (Some (infinity neg)) (cond neg None (cond (same s nan_text) (Some not_a_number) None)))
