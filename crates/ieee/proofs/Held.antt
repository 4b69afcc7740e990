-- A number of at most frac + 1 digits followed by zeros is held by the format, so it is its own rounding. Assumes nothing.
use Prim.Native.Nat.{ℕ, zero, suc, ◌+◌, ◌-◌, ◌*◌, ◌^◌, ◌<◌}
use mathlib.Core.Path.{◌≡◌, sym, ap, ◌∙◌}
use native.Mathlib.Nat.{two-pow-succ}
use native.Mathlib.Omega.{arith}
use Rattle.algebra.proofs.Products.{order, times}
use Rattle.ieee.specs.Format.{Format, inf, units}
use Rattle.ieee.specs.Exact.{ratio}
use Rattle.ieee.specs.Round.{Way, rounded}
use Rattle.ieee.proofs.Units.{units_at_lem, units_lt_inv}
use Rattle.ieee.proofs.Fixed.{below_reach, fixed_whole}

pub held : (f : Format) (c a : ℕ) → a < 2 * 2 ^ f.frac → (m : ℕ) × (units f m ≡ a * 2 ^ c)
held f zero a h =
    order (2 ^ f.frac) a
    (λ l. let r : a - 2 ^ f.frac < 2 ^ f.frac = omega arith in (1 * 2 ^ f.frac + (a - 2 ^ f.frac), units_at_lem f 1 (a - 2 ^ f.frac) r ∙ omega arith))
    (λ l. (0 * 2 ^ f.frac + a, units_at_lem f 0 a l ∙ omega arith))
held f (suc c) a h =
    order (2 ^ f.frac) a
    (λ l.
    let r : a - 2 ^ f.frac < 2 ^ f.frac = omega arith in
    let e : 2 ^ f.frac + (a - 2 ^ f.frac) ≡ a = omega arith in
    (suc (suc c) * 2 ^ f.frac + (a - 2 ^ f.frac), units_at_lem f (suc (suc c)) (a - 2 ^ f.frac) r ∙ ap (λ t. t * 2 ^ suc c) e))
    (λ l. let (m, e) = held f c (2 * a) (omega arith) in (m, e ∙ omega (arith, times a (two-pow-succ c))))

pub exact : (f : Format) (w : Way) (c a : ℕ) → a < 2 * 2 ^ f.frac → a * 2 ^ c < units f (inf f) → units f (rounded f w (ratio (a * 2 ^ c) 1)) ≡ a * 2 ^ c
exact f w c a h l =
    let (m, e) = held f c a h in
    let b : m < inf f = units_lt_inv f m (inf f) (omega arith) in
    ap (λ n. units f (rounded f w (ratio n 1))) (sym e) ∙ ap (units f) (fixed_whole f w m (below_reach f w m b)) ∙ e
