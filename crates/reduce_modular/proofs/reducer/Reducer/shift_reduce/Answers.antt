-- `reduce_modular::reducer::Reducer::shift_reduce` meets its contract: the number is split within its upper word (reduce_laws: Widths). Assumes nothing.
use mathlib.Core.Path.{◌≡◌, refl, sym, ap, ◌∙◌, subst}
use Prim.Native.Nat.{ℕ, ◌+◌, ◌-◌, ◌*◌, ◌/◌, ◌%◌, ◌^◌, ◌<◌}
use native.Mathlib.Omega.{arith}
use Rattle.word_wide.specs.Value.{value}
use Rattle.reduce_laws.specs.Reducer.{Stepped}
use Rattle.reduce_laws.proofs.Widths.{cut_in_upper, shift_fits, shift_room, shift_holds}
use Rattle.reduce_modular.specs.declared.reducer.Reducer.{Reducer}
use Rattle.reduce_modular.proofs.reducer.Reducer.shift_reduce.Goals as goal

module _ (z : Reducer) (k : ℕ) (short : k < 64) (f : z.product.lo < 2 ^ 64) where
  -- the upper part and the lower
  cut : (value z.product / 2 ^ (127 - k) ≡ z.product.hi / 2 ^ (63 - k)) × (value z.product % 2 ^ (127 - k) ≡ z.product.hi % 2 ^ (63 - k) * 2 ^ 64 + z.product.lo)
  cut = cut_in_upper {w = 64} (omega arith) k z.product.hi z.product.lo short f

  -- the lower part, times 2 ^ k, as the code has it
  stays : {h b : ℕ} → h ≡ z.product.hi % 2 ^ (63 - k) → b ≡ (h * 2 ^ 64 + z.product.lo) * 2 ^ k → b ≡ value z.product % 2 ^ (127 - k) * 2 ^ k
  stays i j = j ∙ ap (λ h. (h * 2 ^ 64 + z.product.lo) * 2 ^ k) i ∙ ap (λ t. t * 2 ^ k) (sym cut.1)

  stepped : {b p t : ℕ} → b ≡ value z.product % 2 ^ (127 - k) * 2 ^ k → p ≡ z.product.hi / 2 ^ (63 - k) * z.r → t ≡ p + b
      → Stepped 64 k z.m z.r (value z.product) (z.product.hi / 2 ^ (63 - k)) z.m z.r t
  stepped {b} i j e =
      subst (Stepped 64 k z.m z.r (value z.product) (z.product.hi / 2 ^ (63 - k)) z.m z.r) (sym (e ∙ ap (λ h. h + b) j))
      (subst (λ a. Stepped 64 k z.m z.r (value z.product) a z.m z.r (a * z.r + b)) cut.0 (shift_holds (omega arith) z.reduces k b short i))

pub shl-b-requires : goal.shl-b-requires
shl-b-requires c =
    let z = c.args.self in
    let k = c.args.k in (
      omega arith,
      subst (λ h. h * 2 ^ k < 2 ^ 128) ((cut z k c.requires (omega arith)).1 ∙ ap (λ h. h * 2 ^ 64 + z.product.lo) (sym c.low_bits.ensures))
          (shift_fits {w = 64} (omega arith) z.reduces k _ c.requires refl),
    )

pub add-requires : goal.add-requires
add-requires c =
    let z = c.args.self in
    let k = c.args.k in
    let f : z.product.lo < 2 ^ 64 = omega arith in
    subst (λ h. h + value c.shl-b.result < 2 ^ 128) (ap (λ a. a * z.r) (cut z k c.requires f).0 ∙ sym c.mul.ensures)
    (shift_room {w = 64} (omega arith) z.reduces k (value c.shl-b.result) c.requires (stays z k c.requires f c.low_bits.ensures c.shl-b.ensures))

pub returns : goal.returns
returns c =
    let z = c.args.self in
    let k = c.args.k in
    let f : z.product.lo < 2 ^ 64 = omega arith in
    stepped z k c.requires f (stays z k c.requires f c.low_bits.ensures c.shl-b.ensures) c.mul.ensures c.add.ensures

pub invariant_of-result : goal.invariant_of-result
invariant_of-result c =
    let z = c.args.self in
    let k = c.args.k in
    let f : z.product.lo < 2 ^ 64 = omega arith in
    record { reduces = (stepped z k c.requires f (stays z k c.requires f c.low_bits.ensures c.shl-b.ensures) c.mul.ensures c.add.ensures).holds }
