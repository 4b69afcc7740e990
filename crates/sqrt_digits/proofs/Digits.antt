-- The next pair of bits: the number is four times the one before, plus the pair, and the rest of the word moves up. Assumes nothing.
use Prim.Native.Nat.{ℕ, ◌+◌, ◌*◌, ◌/◌, ◌%◌, ◌^◌, ◌≤◌, ◌<◌}
use mathlib.Core.Path.{◌≡◌, sym, ap, ◌∙◌}
use native.Mathlib.Omega.{arith}
use lib.Dec.{eqb}
use lib.Pow.{pow-add, pow_pos, shr_lt}
use borrow.Author.Tests.{eq-eqb, ne_eqb}
use Rattle.algebra.proofs.Products.{order, times, times_le}
use Rattle.algebra.proofs.Roots.{sq_lt, Root, root_unique}
use Rattle.sqrt_digits.specs.Floor.{FloorRoot, pairs}

-- the definition agrees with the record in algebra, which is unique for each number
pub root_of_lem : {n r : ℕ} → FloorRoot n r → Root n r
root_of_lem p = record { low = p.low; high = p.high }

pub floor_unique : (n r s : ℕ) → FloorRoot n r → FloorRoot n s → r ≡ s
floor_unique n r s p q = root_unique n r s (root_of_lem p) (root_of_lem q)

module _ (m k : ℕ) where
  -- the word shifted left by the pairs already read
  abbrev moved : ℕ
  moved = m * 2 ^ (2 * k)

  one_pair_more : m * 2 ^ (2 * (k + 1)) ≡ moved * 4
  one_pair_more = ap (λ i. m * 2 ^ i) (let e : 2 * (k + 1) ≡ 2 * k + 2 = omega arith in e) ∙ omega (arith, times m (pow-add 2 (2 * k) 2))

  pub next_pair : (rest : ℕ) → rest ≡ moved % 2 ^ 64 → pairs m (k + 1) ≡ 4 * pairs m k + rest / 2 ^ 62
  next_pair rest e = ap (λ n. n / 2 ^ 64) one_pair_more ∙ omega arith

  pub next_rest : (rest : ℕ) → rest ≡ moved % 2 ^ 64 → rest * 4 % 2 ^ 64 ≡ m * 2 ^ (2 * (k + 1)) % 2 ^ 64
  next_rest rest e = omega arith ∙ sym (ap (λ n. n % 2 ^ 64) one_pair_more)

  -- a root has a digit for each pair
  pub root_small : (r : ℕ) → m < 2 ^ 64 → FloorRoot (pairs m k) r → r < 2 ^ k
  root_small r l p = sq_lt r (2 ^ k) (omega (arith, p.low, few, square))
    where
      square : 2 ^ (2 * k) ≡ 2 ^ k * 2 ^ k
      square = ap (λ i. 2 ^ i) (let e : 2 * k ≡ k + k = omega arith in e) ∙ pow-add 2 k k

      few : pairs m k < 2 ^ (2 * k)
      few = shr_lt (2 * k) 64 (omega (arith, times_le (2 ^ (2 * k)) l, pow-add 2 (2 * k) 64, pow_pos (2 * k)))

-- the residual and the root, with the next pair
module _ (n root rem : ℕ) (is : FloorRoot n root) (left : rem + root * root ≡ n) where
  pub rem_small : rem ≤ 2 * root
  rem_small = omega (arith, is.high)

  pub none_left : eqb rem 0 ≡ eqb (root * root) n
  none_left =
      order rem 0
      (λ l. eq-eqb rem 0 (omega arith) ∙ sym (eq-eqb (root * root) n (omega arith)))
      (λ l. ne_eqb rem 0 (omega arith) ∙ sym (ne_eqb (root * root) n (omega arith)))
