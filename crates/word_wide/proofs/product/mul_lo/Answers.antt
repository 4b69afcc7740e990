-- `word_wide::product::mul_lo` meets its contract: its digit is that of the middle column (Columns). Assumes nothing.
use Rattle.std.proofs.Common.{ℕ, ◌+◌, ◌*◌, ◌/◌, ◌%◌, arith}
use Rattle.word_wide.proofs.Columns.{middle_column_settles_both}
use Rattle.word_wide.proofs.product.mul_lo.Goals as goal

pub returns : goal.returns
returns c =
    let B : ℕ = 4294967296 in
    let a : ℕ = c.args.a in
    let b : ℕ = c.args.b in
    let left : ℕ = a / B * (b % B) in
    let right : ℕ = a % B * (b / B) in
    let mid : ℕ = left % B + right % B + a % B * (b % B) / B in
    omega (arith, (middle_column_settles_both B a b (left / B + right / B + mid / B) (mid % B) (omega arith) (omega arith)).1)
