-- Quotients and remainders by a divisor that is not a numeral. Assumes nothing.
use mathlib.Core.Path.{◌≡◌, sym, ap, ◌∙◌}
use Prim.Native.Nat.{ℕ, ◌+◌, ◌*◌, ◌/◌, ◌%◌, ◌≤◌, ◌<◌}
use native.Mathlib.Nat.{mod-lt, div-add-mod', mul-add-mod_self_right}
use native.Mathlib.Omega.{arith, by_contra, both_ways}
use Rattle.algebra.proofs.Products.{times, times_le}

pub quot_le : (d q r q' r' : ℕ) → r < d → q * d + r ≡ q' * d + r' → q' ≤ q
quot_le d q r q' r' h e = by_contra q' q (λ l. omega (arith, times_le d l))

pub quot_unique : (d q r q' r' : ℕ) → r < d → r' < d → q * d + r ≡ q' * d + r' → (q ≡ q') × (r ≡ r')
quot_unique d q r q' r' h h' e =
    let p : q ≡ q' = both_ways q q' (quot_le d q' r' q r h' (sym e)) (quot_le d q r q' r' h e) in
    (p, omega (arith, times d p))

-- what `/` and `%` mean, in both directions
pub div_mod : (n d : ℕ) → 0 < d → (n / d * d + n % d ≡ n) × (n % d < d)
div_mod n d p = (div-add-mod' n d, mod-lt n p)

pub div_is : (n d q r : ℕ) → r < d → q * d + r ≡ n → (n / d ≡ q) × (n % d ≡ r)
div_is n d q r h e =
    let (m, l) = div_mod n d (omega arith) in
    quot_unique d (n / d) (n % d) q r l h (m ∙ sym e)

pub mod_is : (n d q r : ℕ) → r < d → q * d + r ≡ n → n % d ≡ r
mod_is n d q r h e = (div_is n d q r h e).1

-- a factor moves into a remainder
pub mod_scale : (k x d : ℕ) → k * (x % d) % d ≡ k * x % d
mod_scale k x d = sym (ap (λ y. y % d) e ∙ mul-add-mod_self_right (k * (x / d)) d (k * (x % d)))
  where
    e : k * x ≡ k * (x / d) * d + k * (x % d)
    e = omega (arith, times k (div-add-mod' x d))
