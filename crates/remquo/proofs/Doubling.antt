-- A division with the dividend doubled: the remainder is doubled and reduced, and the quotient gains one bit. Assumes nothing.
use Rattle.std.proofs.Common.{◌≡◌, ℕ, ◌+◌, ◌*◌, ◌/◌, ◌%◌, ◌^◌, ◌<◌, ◌≤◌, sym, arith}
use native.Mathlib.Omega.{by_contra}
use Rattle.algebra.proofs.Products.{times_le}
use Rattle.algebra.proofs.Quotients.{div_mod, div_is}

module _ (r d : ℕ) where
  pub one_at_most : r < 2 * d → r / d ≤ 1
  one_at_most l = by_contra (r / d) 1 (λ h. omega (arith, times_le d h, div_mod r d (omega arith)))

module _ (a d r q : ℕ) (some : 0 < d) (e : r ≡ a % d) (i : q ≡ a / d % 2 ^ 32) where
  pub remainder_below : r < d
  remainder_below = omega (arith, div_mod a d some)

  parts : (a * 2 / d ≡ 2 * (a / d) + r * 2 / d) × (a * 2 % d ≡ r * 2 % d)
  parts =
      let (b, l) = div_mod (r * 2) d some in
      div_is (a * 2) d (2 * (a / d) + r * 2 / d) (r * 2 % d) l (omega (arith, b, div_mod a d some))

  pub doubled_remainder : r * 2 % d ≡ a * 2 % d
  doubled_remainder = sym parts.1

  pub doubled_quotient : q % 2 ^ 31 * 2 + r * 2 / d ≡ a * 2 / d % 2 ^ 32
  doubled_quotient = omega (arith, parts.0, one_at_most (r * 2) d (omega (arith, remainder_below)))
