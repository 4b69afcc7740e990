-- A quotient, and whether anything was lost, make up the number without its last bits. Assumes nothing.
use Prim.Native.Nat.{ℕ, ◌+◌, ◌*◌, ◌/◌, ◌%◌, ◌^◌}
use mathlib.Core.Path.{◌≡◌, sym, ap, ap₂, ◌∙◌}
use mathlib.Core.Bool.{Bool, true, false, cond}
use native.Mathlib.Omega.{arith}
use borrow.Author.Tests.{lt-ltb, le-ltb}
use lib.Dec.{ltb}
use Rattle.algebra.proofs.Products.{order}
use Rattle.round_wide.specs.Stuck.{stuck}
use Rattle.round_wide.proofs.Stuck.{stuck_exact, stuck_lost}

-- a number with its last bit set where something was lost
abbrev pub told : Bool → ℕ → ℕ
told lost w = cond lost (w / 2 * 2 + 1) w

pub stuck_told : (v k w : ℕ) (lost : Bool) → w ≡ v / 2 ^ k → lost ≡ ltb 0 (v % 2 ^ k) → told lost w ≡ stuck v k
stuck_told v k w lost e f =
    ap₂ told f e
    ∙ order 1 (v % 2 ^ k)
    (λ l. ap (λ t. told t (v / 2 ^ k)) (lt-ltb 0 (v % 2 ^ k) l) ∙ sym (stuck_lost v k l))
    (λ l. ap (λ t. told t (v / 2 ^ k)) (le-ltb 0 (v % 2 ^ k) (omega arith)) ∙ sym (stuck_exact v k (omega arith)))

-- of two words in an even base, the lower one takes the mark
told_lower : (b h l : ℕ) (lost : Bool) → h * (2 * b) + told lost l ≡ told lost (h * (2 * b) + l)
told_lower b h l true = omega arith
told_lower b h l false = omega arith

pub stuck_told_wide : (b v k h l m : ℕ) (lost : Bool) → h * (2 * b) + l ≡ v / 2 ^ k → lost ≡ ltb 0 (v % 2 ^ k) → m ≡ told lost l → h * (2 * b) + m ≡ stuck v k
stuck_told_wide b v k h l m lost e f g = ap (λ x. h * (2 * b) + x) g ∙ told_lower b h l lost ∙ stuck_told v k (h * (2 * b) + l) lost e f
