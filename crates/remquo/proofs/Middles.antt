-- The middle between two multiples, by the tests of the code. Assumes nothing.
use Rattle.std.proofs.Common.{◌≡◌, ℕ, suc, ◌+◌, ◌-◌, ◌*◌, ◌%◌, ◌<◌, ◌≤◌, true, false, cond, ap, arith, le-ltb, lt-ltb, eq-eqb, ne_eqb}
use Rattle.algebra.proofs.Products.{order}
use Rattle.remquo.specs.Nearest.{goes_up, left_over}

-- the quotient's last bit takes a tie past the middle, and nothing else does
module _ (r d q : ℕ) where
  pub goes_up_lem : d < 2 * r + q % 2 → goes_up r d q ≡ true
  goes_up_lem l =
      order (2 * r) d
      (λ h. rw (le-ltb d (2 * r) h, eq-eqb (2 * r) d (omega arith), eq-eqb (q % 2) 1 (omega arith)))
      (λ h. rw (lt-ltb d (2 * r) h))

  pub stays : 2 * r + q % 2 ≤ d → goes_up r d q ≡ false
  stays h =
      order (suc (2 * r)) d
      (λ l. rw (le-ltb d (2 * r) (omega arith), ne_eqb (2 * r) d (omega arith)))
      (λ l. rw (le-ltb d (2 * r) (omega arith), eq-eqb (2 * r) d (omega arith), ne_eqb (q % 2) 1 (omega arith)))

-- the distance is at most half of the divisor
pub left_at_most_half : (r d q : ℕ) → r < d → 2 * left_over r d q ≤ d
left_at_most_half r d q l =
    order (suc d) (2 * r + q % 2)
    (λ h. let e : left_over r d q ≡ d - r = ap (λ b. cond b (d - r) r) (goes_up_lem r d q h) in omega arith)
    (λ h. let e : left_over r d q ≡ r = ap (λ b. cond b (d - r) r) (stays r d q (omega arith)) in omega arith)

-- and at most the remainder
pub left_at_most_rest : (r d q : ℕ) → left_over r d q ≤ r
left_at_most_rest r d q =
    order (suc d) (2 * r + q % 2)
    (λ h. let e : left_over r d q ≡ d - r = ap (λ b. cond b (d - r) r) (goes_up_lem r d q h) in omega arith)
    (λ h. let e : left_over r d q ≡ r = ap (λ b. cond b (d - r) r) (stays r d q (omega arith)) in omega arith)
