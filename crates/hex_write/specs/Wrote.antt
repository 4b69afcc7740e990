-- What a call of the writer did, by what it is to have done. Assumes nothing.
use Rattle.std.specs.Prelude.{ℕ, ◌≡◌, List, Result}
use Rattle.ieee.specs.Refusal.{given}
use Rattle.ieee_numeral_laws.specs.Write.{Written, write_refusals, write_by}
use Rattle.fmt_fields.specs.Refused.{answer_of}
use Rattle.fmt_fields.specs.declared.refusal.Refusal.{Refusal}

-- a text put into a room, or refused
unfoldable pub putting : List ℕ → List ℕ → Written
unfolding write_by
putting t out = write_by t out (given (write_refusals t out))

-- the length or the refusal, and what the room holds after
abbrev pub Wrote : Written → List ℕ → Result ℕ Refusal → Type 0
Wrote w out r = (answer_of (λ (n : ℕ). n) r ≡ w.answer) × (out ≡ w.output)
