-- The quotient and the mark of the dropped bits make up the number (Told), by at most 63 of them (Stuck). Assumes nothing.
use Prim.Native.Nat.{ℕ, ◌^◌, ◌<◌, min}
use mathlib.Core.Path.{◌≡◌, sym, ap, ◌∙◌}
use native.Mathlib.Omega.{arith}
use Rattle.algebra.proofs.Products.{order}
use Rattle.round_wide.specs.Stuck.{stuck}
use Rattle.round_wide.proofs.Stuck.{stuck_far}
use Rattle.round_wide.proofs.Told.{stuck_told}
use Rattle.round_wide.proofs.sticky.shr_sticky.Goals as goal

-- a word that is shifted by more leaves only the mark, as by 63
bounded : (v k n : ℕ) → v < 2 ^ 64 → n ≡ min k 63 → stuck v n ≡ stuck v k
bounded v k n l e = order 63 k (λ h. ap (stuck v) (omega arith) ∙ sym (stuck_far v k l h)) (λ h. ap (stuck v) (omega arith))

pub returns : goal.returns
returns c =
    let k = c.shr_lost-kept in
    c.set_sticky.ensures ∙ stuck_told c.args.v _ _ _ k.ensures.0 k.ensures.1 ∙ bounded c.args.v c.args.k c.min.result c.ranges.v.fits (omega arith)
