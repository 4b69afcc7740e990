-- A doubling of the remainder. Assumes nothing.
use mathlib.Core.Path.{◌≡◌, ap, ◌∙◌}
use Prim.Native.Nat.{ℕ, ◌+◌, ◌*◌, ◌%◌, ◌^◌}
use native.Mathlib.Omega.{arith}
use lib.Pow.{pow-add}
use Rattle.algebra.proofs.Quotients.{mod_scale}

-- s is the remainder of r, and twice s is that of one power of two more
pub doubled_again : (x i y r s : ℕ) → r % y ≡ x * 2 ^ i % y → s ≡ r % y → s * 2 % y ≡ x * 2 ^ (i + 1) % y
doubled_again x i y r s p q = ap (λ t. t % y) (omega arith) ∙ ap (λ t. 2 * t % y) (q ∙ p) ∙ mod_scale 2 (x * 2 ^ i) y ∙ ap (λ t. t % y) (simp pow-add (omega arith))
