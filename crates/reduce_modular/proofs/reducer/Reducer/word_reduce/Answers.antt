-- `reduce_modular::reducer::Reducer::word_reduce` meets its contract (reduce_laws: Widths). Assumes nothing.
use mathlib.Core.Path.{◌≡◌, refl, sym, ap₂, subst}
use Prim.Native.Nat.{ℕ, ◌+◌, ◌*◌, ◌/◌, ◌%◌, ◌^◌, ◌<◌}
use native.Mathlib.Omega.{arith}
use Rattle.word_wide.specs.Value.{value}
use Rattle.reduce_laws.specs.Reducer.{Stepped}
use Rattle.reduce_laws.proofs.Widths.{word_holds_words}
use Rattle.reduce_modular.specs.declared.reducer.Reducer.{Reducer}
use Rattle.reduce_modular.proofs.reducer.Reducer.word_reduce.Goals as goal

stepped : (z : Reducer) → z.product.lo < 2 ^ 64 → {h l : ℕ} → h ≡ z.product.hi * z.r / 2 ^ 64 → l ≡ z.product.hi * z.r % 2 ^ 64
    → Stepped 64 63 z.m z.r (value z.product) z.product.hi z.m z.r ((h + z.product.lo / 2) * 2 ^ 64 + l)
stepped z f h l =
    let p = z.product in
    subst (Stepped 64 63 z.m z.r (value p) p.hi z.m z.r) (ap₂ (λ h t. (h + p.lo / 2) * 2 ^ 64 + t) (sym h) (sym l))
    (word_holds_words (omega arith) z.reduces p.hi p.lo refl f)

pub returns : goal.returns
returns c = stepped c.args.self (omega arith) c.mul_hi.ensures c.mul_lo.ensures

pub invariant_of-result : goal.invariant_of-result
invariant_of-result c = record { reduces = (stepped c.args.self (omega arith) c.mul_hi.ensures c.mul_lo.ensures).holds }
