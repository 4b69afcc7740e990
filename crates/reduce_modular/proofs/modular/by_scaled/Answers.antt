-- A divisor with two leading zeros, scaled back (reduce_laws: Scales). Assumes nothing.
use Prim.Native.Nat.{ℕ, ◌*◌, ◌/◌, ◌%◌, ◌^◌, ◌<◌}
use mathlib.Core.Path.{◌≡◌, ap, ap₂, ◌∙◌}
use native.Mathlib.Nat.{mod-eq_of_lt}
use native.Mathlib.Omega.{arith}
use lib.Pow.{pow_pos}
use Rattle.algebra.proofs.Products.{times_le}
use Rattle.reduce_laws.proofs.Scales.{left_scaled_back}
use Rattle.reduce_modular.proofs.modular.by_scaled.Goals as goal

-- no bit of the scaled divisor passes the word, nor of x, scaled as it is
kept : (y s : ℕ) → y * 2 ^ s < 2 ^ 62 → y * 2 ^ s % 2 ^ 64 ≡ y * 2 ^ s
kept y s l = mod-eq_of_lt (omega arith)

x_kept : (x y s : ℕ) → x < 2 * y → y * 2 ^ s < 2 ^ 62 → (x * 2 ^ s < 2 * (y * 2 ^ s)) × (x * 2 ^ s % 2 ^ 64 ≡ x * 2 ^ s)
x_kept x y s h l = let m = times_le (2 ^ s) h in (omega (arith, m, pow_pos s), mod-eq_of_lt (omega (arith, m, l)))

pub by_words-requires : goal.by_words-requires
by_words-requires c =
    let n = c.args.n in
    let k = x_kept c.args.x n.y n.s c.requires.0 n.below in
    rw (kept n.y n.s n.below, k.1) (n.above, n.below, k.0, c.requires.1)

pub returns : goal.returns
returns c =
    let n = c.args.n in
    let k = x_kept c.args.x n.y n.s c.requires.0 n.below in
    ap (λ r. r / 2 ^ n.s) (c.by_words.ensures ∙ ap₂ (λ v d. v * 2 ^ c.args.e % d) k.1 (kept n.y n.s n.below))
    ∙ left_scaled_back c.args.x c.args.e n.y n.s (omega (arith, c.requires.0))
