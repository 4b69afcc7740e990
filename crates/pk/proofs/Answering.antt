-- The table's definition of an operation is the result of its call. Assumes nothing.
use Rattle.std.proofs.Common.{◌≡◌, ℕ, ◌≤◌, length, get_or, sym, ap}
use lib.ListN.{get_or-eq_default}
use Rattle.cmd_operations.specs.declared.answers.Answers.{Answers}
use Rattle.cmd_operations.specs.declared.request.Operands.{Operands}
use Rattle.cmd_operations.specs.Table.{Operation, operations, unnamed, two, answers_of}

pub under : {number : ℕ} (k : ℕ) (a : Operands) {r : Answers} → number ≡ k → r ≡ (get_or operations k unnamed).answers a → r ≡ answers_of number a
unfolding answers_of
under k a e h = rw e h

pub no_row : {number : ℕ} (a : Operands) {r : Answers} → length operations ≤ number → r ≡ two 0 0 → r ≡ answers_of number a
unfolding answers_of
no_row {number} a h e = rw e (sym (ap (λ (o : Operation). o.answers a) (get_or-eq_default operations unnamed {n = number} h)))

-- both parts of an answer are known
pub both : {A B : Type 0} (m : A → B → Answers) {r : Answers} {v w : A} {s t : B} → r ≡ m v s → v ≡ w → s ≡ t → r ≡ m w t
both m e h k = rw (← h, ← k) e
