-- `reduce_modular::reducer::Reducer::new` meets its contract: one division gives what the reducer needs (reduce_laws: Widths, Rounds). Assumes nothing.
use mathlib.Core.Path.{◌≡◌, sym, ap₂, subst}
use Prim.Native.Nat.{ℕ, ◌+◌, ◌*◌, ◌/◌, ◌%◌, ◌^◌, ◌<◌}
use native.Mathlib.Omega.{arith}
use Rattle.word_division.specs.declared.digit.Divided.{Divided}
use Rattle.reduce_laws.specs.Reducer.{Holds}
use Rattle.reduce_laws.proofs.Rounds.{state_of}
use Rattle.reduce_laws.proofs.Widths.{start_upper, start_holds_words}
use Rattle.reduce_modular.specs.Held.{Starts}
use Rattle.reduce_modular.proofs.reducer.Reducer.new.Goals as goal

holds : (x n : ℕ) (d : Divided) → (2 ^ 61 < n) × (n < 2 ^ 62) × (x < 2 * n) × Starts n d → {h l : ℕ} → h ≡ 2 * x * d.quotient / 2 ^ 64 → l ≡ 2 * x * d.quotient % 2 ^ 64
    → Holds 64 n x (2 * n) d.remainder ((2 * x + h) * 2 ^ 64 + l)
holds x n d (a, b, l, e) h t =
    subst (λ t. Holds 64 n x (2 * n) d.remainder t) (ap₂ (λ h t. (2 * x + h) * 2 ^ 64 + t) (sym h) (sym t))
    (start_holds_words (omega arith) n x d.quotient d.remainder a b l e.0 e.1)

pub returns : goal.returns
returns c = holds c.args.x c.args.n c.args.d c.requires c.mul_hi.ensures c.mul_lo.ensures

pub invariant_of-result : goal.invariant_of-result
invariant_of-result c = record { reduces = (state_of (omega arith) (holds c.args.x c.args.n c.args.d c.requires c.mul_hi.ensures c.mul_lo.ensures)).reduces }

pub overflow_add-result : goal.overflow_add-result
overflow_add-result c =
    let (a, b, l, e) = c.requires in
    let x = c.args.x in
    let d = c.args.d in
    record { fits = subst (λ h. 2 * x + h < 2 ^ 64) (sym c.mul_hi.ensures) (start_upper {w = 64} (omega arith) c.args.n x d.quotient d.remainder a b l e.0 e.1) }
