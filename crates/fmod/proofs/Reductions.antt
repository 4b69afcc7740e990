-- x times 2 ^ e modulo y by x modulo y, and the quotient where x is below twice y. Assumes nothing.
use Prim.Native.Nat.{ℕ, suc, ◌+◌, ◌*◌, ◌/◌, ◌%◌, ◌^◌, ◌≤◌, ◌<◌}
use mathlib.Core.Path.{◌≡◌, sym, ap, ◌∙◌}
use mathlib.Core.Bool.{cond}
use native.Mathlib.Nat.{two-pow-succ, mod-lt, div-add-mod'}
use native.Mathlib.Omega.{arith}
use lib.Dec.{leb}
use lib.Pow.{pow-add, pow_pos, pow_mono}
use borrow.Author.Tests.{le-leb, lt-leb}
use Rattle.algebra.proofs.Products.{order, times, times_le, mul_lt_cancel}
use Rattle.algebra.proofs.Quotients.{mod_is, mod_scale}

-- x, or x modulo y, is below twice y and has the same remainders
pub near_is : (x y : ℕ) → 0 < y → (r : ℕ) → r ≡ cond (leb (2 * y) x) (x % y) x → (r < 2 * y) × ((e : ℕ) → r * 2 ^ e % y ≡ x * 2 ^ e % y)
near_is x y p r h =
    order (2 * y) x
    (λ l.
    let k : r ≡ x % y = h ∙ ap (λ b. cond b (x % y) x) (le-leb (2 * y) x l) in
    (omega (arith, mod-lt x p), λ e. ap (λ t. t * 2 ^ e % y) k ∙ ap (λ t. t % y) (omega arith) ∙ mod_scale (2 ^ e) x y ∙ ap (λ t. t % y) (omega arith)))
    (λ l.
    let k : r ≡ x = h ∙ ap (λ b. cond b (x % y) x) (lt-leb (2 * y) x l) in
    (omega arith, λ e. ap (λ t. t * 2 ^ e % y) k))

-- no bit of x times 2 ^ e passes a word of w bits, where x has b of them
pub shifted_fits : (w b x e : ℕ) → x < 2 ^ b → e + b ≤ w → x * 2 ^ e < 2 ^ w
shifted_fits w b x e l h = omega (arith, times_le (2 ^ e) l, pow_pos e, pow-add 2 b e, pow_mono {i = b + e} {j = w} (omega arith))

-- the quotient is below 2 ^ w for e below w
quotient_fits : (w x e y : ℕ) → x < 2 * y → e < w → x * 2 ^ e < y * 2 ^ w
quotient_fits w x e y l h =
    let t : 2 ^ e * 2 ≤ 2 ^ w = omega (arith, two-pow-succ e, pow_mono {i = suc e} {j = w} h) in
    omega (arith, times_le (2 ^ e) l, pow_pos e, times_le y t)

-- so the upper word of two is below y
pub upper_below : (w x e y : ℕ) → x < 2 * y → e < w → x * 2 ^ e / 2 ^ w < y
upper_below w x e y l h = mul_lt_cancel (x * 2 ^ e / 2 ^ w) y (2 ^ w) (omega (arith, quotient_fits w x e y l h, div-add-mod' (x * 2 ^ e) (2 ^ w)))

-- two words in base B that make up a number N are divided as N is
pub words_leave : (B N y h l q r : ℕ) → h ≡ N / B → l ≡ N % B → q * y + r ≡ h * B + l → r < y → r ≡ N % y
words_leave B N y h l q r a b e g = sym (mod_is N y q r g (omega (arith, times B a, div-add-mod' N B)))
