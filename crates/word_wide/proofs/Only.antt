-- A contract that says the value of two words leaves one answer. Assumes nothing.
use Rattle.std.proofs.Common.{◌≡◌, ◌^◌, ◌<◌}
use Rattle.algebra.proofs.Quotients.{quot_unique}
use Rattle.word_wide.specs.Value.{value}
use Rattle.word_wide.specs.declared.Wide.{Wide}

pub wide_unique : (a b : Wide) → a.lo < 2 ^ 64 → b.lo < 2 ^ 64 → value a ≡ value b → (a.hi ≡ b.hi) × (a.lo ≡ b.lo)
wide_unique a b l h e = quot_unique (2 ^ 64) a.hi a.lo b.hi b.lo l h e
