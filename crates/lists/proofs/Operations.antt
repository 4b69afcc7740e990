-- The operations by their numbers, over the format. Assumes nothing.
use Rattle.std.proofs.Common.{ℕ, zero, suc, ◌<◌, ◌≡◌, refl, sym, ap, ◌∙◌, ◌⊎◌, inl, inr, arith}
use Rattle.ieee.specs.Format.{Format}
use Rattle.ieee.specs.Lists.{operation}
use Rattle.ieee.specs.Sqrt.{sqrt_of}
use Rattle.ieee.specs.Whole.{floor_of, trunc_of}
use Rattle.ieee.proofs.ListCalls.{operation_sqrt, operation_floor, operation_trunc}

module _ (f : Format) (op x : ℕ) where
  by_number : {k : ℕ} → op ≡ k → operation f k x ≡ operation f op x
  by_number e = ap (λ (k : ℕ). operation f k x) (sym e)

  pub one_is_sqrt : op ≡ 1 → sqrt_of f x ≡ operation f op x
  one_is_sqrt e = sym (operation_sqrt f x) ∙ by_number e

  pub two_is_floor : op ≡ 2 → floor_of f x ≡ operation f op x
  two_is_floor e = sym (operation_floor f x) ∙ by_number e

  pub three_is_trunc : op ≡ 3 → trunc_of f x ≡ operation f op x
  three_is_trunc e = sym (operation_trunc f x) ∙ by_number e

-- an unknown one leaves a pattern unchanged
pub others_leave : (f : Format) (op x : ℕ) → (op ≡ 1 → ⊥) → (op ≡ 2 → ⊥) → (op ≡ 3 → ⊥) → x ≡ operation f op x
unfolding operation
others_leave f zero x a b c = refl
others_leave f (suc zero) x a b c = absurd (a refl)
others_leave f (suc (suc zero)) x a b c = absurd (b refl)
others_leave f (suc (suc (suc zero))) x a b c = absurd (c refl)
others_leave f (suc (suc (suc (suc k)))) x a b c = refl

pub unknown_leave : (f : Format) (op x : ℕ) → (op < 1) ⊎ (3 < op) → x ≡ operation f op x
unknown_leave f op x (inl h) = others_leave f op x (omega arith) (omega arith) (omega arith)
unknown_leave f op x (inr h) = others_leave f op x (omega arith) (omega arith) (omega arith)
