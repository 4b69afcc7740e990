-- `word_wide::product::mul_hi` meets its contract: its carries are those of the middle column (Columns). Assumes nothing.
use Rattle.std.proofs.Common.{ℕ, ◌+◌, ◌*◌, ◌/◌, ◌%◌, arith}
use Rattle.word_wide.proofs.Columns.{middle_column_settles_both}
use Rattle.word_wide.proofs.product.mul_hi.Goals as goal

pub returns : goal.returns
returns c =
    let B : ℕ = 4294967296 in
    let a : ℕ = c.args.a in
    let b : ℕ = c.args.b in
    let mid : ℕ = a / B * (b % B) + a % B * (b % B) / B in
    let cross : ℕ = a % B * (b / B) + mid % B in
    omega (arith, (middle_column_settles_both B a b (mid / B + cross / B) (cross % B) (omega arith) (omega arith)).0)
