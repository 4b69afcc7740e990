-- The operations of the code by their numbers. Assumes nothing.
use Rattle.std.specs.Prelude.{◌≡◌, ℕ, ◌<◌, ◌⊎◌, Result, MatchResult}
use Rattle.fmt_fields.specs.declared.refusal.Refusal.{Refusal}
use Rattle.fmt_fields.specs.declared.refusal.Refusal.TheVariants.{NoOperation}
use Rattle.lists.specs.declared.operation.Operation.{Operation}
use Rattle.lists.specs.declared.operation.Operation.TheVariants.{Sqrt, Floor, Trunc}

abbrev pub operation_number : Operation → ℕ
operation_number Sqrt = 1
operation_number Floor = 2
operation_number Trunc = 3

-- the operation of a number, or the refusal of one that no operation has
abbrev pub Decodes : ℕ → Result Operation Refusal → Type 0
Decodes n r = MatchResult r (λ o. operation_number o ≡ n) (λ e. (e ≡ NoOperation) × ((n < 1) ⊎ (3 < n)))
