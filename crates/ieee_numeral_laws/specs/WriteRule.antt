-- What the writer is held to: when it is refused, what it writes, and what every byte of the output holds after. Assumes nothing.
use Rattle.std.specs.Prelude.{ℕ, ◌≤◌, ◌<◌, ◌≡◌, ◌↔◌, ◌⊎◌, List, length, get_or}
use Rattle.ieee.specs.Refusal.{number_of, value_of}
use Rattle.ieee_numeral_laws.specs.Write.{Written}

-- when each number k is given
pub record WriteRefusals (t out : List ℕ) (k : ℕ) : Type 0 where
  pub eight : (k ≡ 8) ↔ (length out < length t)
  pub none : (k ≡ 0) ↔ (length t ≤ length out)
  pub only : (k ≡ 0) ⊎ (k ≡ 8)

-- the whole result, t being the text and out what the output held before: the number, the text's length, 0 where it is refused, and every byte
pub record WrittenAs (t out : List ℕ) (w : Written) : Type 0 where
  pub refusals : WriteRefusals t out (number_of w.answer)
  pub no_value : (number_of w.answer ≡ 0 → ⊥) → value_of w.answer ≡ 0
  pub value : number_of w.answer ≡ 0 → value_of w.answer ≡ length t
  pub untouched : (number_of w.answer ≡ 0 → ⊥) → w.output ≡ out
  pub size : length w.output ≡ length out
  pub text : number_of w.answer ≡ 0 → (i : ℕ) → i < length t → get_or w.output i 0 ≡ get_or t i 0
  pub rest : number_of w.answer ≡ 0 → (i : ℕ) → length t ≤ i → get_or w.output i 0 ≡ get_or out i 0
