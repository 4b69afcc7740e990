-- Two shifts of a word in place of one that would be too long. Assumes nothing.
use mathlib.Core.Path.{◌≡◌, sym, ap, ◌∙◌}
use Prim.Native.Nat.{ℕ, ◌+◌, ◌*◌, ◌/◌, ◌%◌, ◌^◌}
use native.Mathlib.Nat.{mul-div-mul_right}
use native.Mathlib.Omega.{arith}
use lib.Pow.{pow-add, pow_pos, shr-shr}
use Rattle.algebra.proofs.Products.{times}
use Rattle.algebra.proofs.Quotients.{mod_scale}

-- the bits above the word, by two shifts the other way
pub above_by_shifts : (w a i j k : ℕ) → i + j + k ≡ w → a / 2 ^ i / 2 ^ j ≡ a * 2 ^ k / 2 ^ w
above_by_shifts w a i j k e =
    shr-shr a i j ∙ sym (ap (λ x. a * 2 ^ k / 2 ^ x) (sym e) ∙ ap (λ x. a * 2 ^ k / x) (pow-add 2 (i + j) k) ∙ mul-div-mul_right {m = 2 ^ k} a (2 ^ (i + j)) (pow_pos k))

-- the bits below the word, by two shifts that wrap
pub below_by_shifts : (B a i j : ℕ) → i + 1 ≡ j → (a * 2 ^ i % B * 2) % B ≡ a * 2 ^ j % B
below_by_shifts B a i j e =
    ap (λ x. x % B) (omega arith) ∙ mod_scale 2 (a * 2 ^ i) B ∙ ap (λ x. x % B) (omega (arith, times a p))
  where
    p : 2 ^ j ≡ 2 ^ i * 2
    p = ap (λ x. 2 ^ x) (sym e) ∙ pow-add 2 i 1
