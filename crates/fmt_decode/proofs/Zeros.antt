-- The leading zeros of a fraction, in a word and in the format. Assumes nothing.
use Rattle.std.proofs.Common.{◌≡◌, ℕ, suc, ◌+◌, ◌-◌, ◌^◌, ◌<◌, ◌≤◌, arith, pow_mono, pow-add}
use native.Mathlib.Nat.{two-pow-succ}
use lib.Count.{count_leading_zeros, leading_top}
use Rattle.algebra.proofs.Powers.{top_unique}

pub zeros_less : (p t : ℕ) → p ≤ 63 → 0 < t → t < 2 ^ p → count_leading_zeros 64 t ≡ count_leading_zeros (suc p) t + (63 - p)
zeros_less p t r l h =
    let m : 2 ^ p ≤ 2 ^ 63 = pow_mono r in
    let (i, a, b, c) = leading_top 64 t l (omega arith) in
    let (j, d, g, k) = leading_top (suc p) t l (omega (arith, two-pow-succ p)) in
    let e : i ≡ j = top_unique t i j b (omega (arith, pow-add 2 i 1, two-pow-succ i)) g (omega (arith, pow-add 2 j 1, two-pow-succ j)) in
    omega arith
