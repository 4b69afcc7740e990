-- Sums of signed numbers by their magnitudes; x = n y + r over the integers, as a sum without signs. Assumes nothing.
use Prim.Native.Nat.{ℕ, ◌+◌, ◌-◌, ◌*◌, ◌≤◌, ◌<◌}
use mathlib.Core.Path.{◌≡◌, refl, sym, ap, ◌∙◌, subst}
use mathlib.Core.Logic.{◌↔◌}
use mathlib.Core.Bool.{Bool, true, false, not}
use native.Mathlib.Omega.{arith}
use lib.IntN.{ℤ, pos, neg_ℤ, ◌+ℤ◌, ◌*ℤ◌, +ℤ_comm}
use Rattle.algebra.proofs.Integers.{up, dn, add_z, neg_z, eq_z, eq_z_fact}
use Rattle.ieee.specs.Format.{Format, units}
use Rattle.ieee.specs.Pattern.{minus, magnitude, unlike, with_sign, value}
use Rattle.ieee.specs.Rule.{distance}
use Rattle.ieee.proofs.Patterns.{value_is}
use Rattle.ieee.proofs.Signs.{signed_product}

pub unlike_self : (s : Bool) → unlike s s ≡ false
unlike_self false = refl
unlike_self true = refl

pub unlike_not : (s : Bool) → unlike s (not s) ≡ true
unlike_not false = refl
unlike_not true = refl

unlike_twice : (s t : Bool) → unlike (unlike s t) t ≡ s
unlike_twice false false = refl
unlike_twice false true = refl
unlike_twice true false = refl
unlike_twice true true = refl

times_sign : (s t : Bool) (n v : ℕ) → with_sign (unlike s t) n *ℤ with_sign t v ≡ with_sign s (n * v)
times_sign s t n v = signed_product (unlike s t) t n v ∙ ap (λ b. with_sign b (n * v)) (unlike_twice s t)

sum_reads : (a b c : ℤ) → (a ≡ b +ℤ c) ↔ (up a + dn b + dn c ≡ dn a + up b + up c)
sum_reads a b c = (λ e. omega (arith, eq_z_fact e, add_z b c), λ e. eq_z a (b +ℤ c) (omega (arith, add_z b c)))

-- u = w + r, of numbers with the signs s, s and p: by whether p is s
abbrev pub Splits : Bool → ℕ → ℕ → ℕ → Type 0
Splits false u w r = u ≡ w + r
Splits true u w r = w ≡ u + r

sum_splits : (s p : Bool) (u w r : ℕ) → (with_sign s u ≡ with_sign s w +ℤ with_sign p r) ↔ Splits (unlike s p) u w r
sum_splits s p u w r =
    let (a, b) = sum_reads (with_sign s u) (with_sign s w) (with_sign p r) in
    let (c, d) = go s p in
    (λ e. c (a e), λ e. b (d e))
  where
    go : (s p : Bool)
        → (up (with_sign s u) + dn (with_sign s w) + dn (with_sign p r) ≡ dn (with_sign s u) + up (with_sign s w) + up (with_sign p r)) ↔ Splits (unlike s p) u w r
    go false false = omega arith
    go false true = omega (arith, neg_z (pos r))
    go true false = omega (arith, neg_z (pos u), neg_z (pos w))
    go true true = omega (arith, neg_z (pos u), neg_z (pos w), neg_z (pos r))

-- ---- the sum of two signed numbers, by their magnitudes
pub plus_like : (s : Bool) (a b : ℕ) → with_sign s a +ℤ with_sign s b ≡ with_sign s (a + b)
plus_like s a b = sym ((sum_splits s s (a + b) a b).1 (subst (λ c. Splits c (a + b) a b) (sym (unlike_self s)) refl))

pub plus_more : (s : Bool) (a b : ℕ) → b ≤ a → with_sign s a +ℤ with_sign (not s) b ≡ with_sign s (a - b)
plus_more s a b l = sym ((sum_splits s (not s) (a - b) a b).1 (subst (λ c. Splits c (a - b) a b) (sym (unlike_not s)) (omega arith)))

pub plus_less : (s : Bool) (a b : ℕ) → a ≤ b → with_sign s a +ℤ with_sign (not s) b ≡ with_sign (not s) (b - a)
plus_less false a b l = +ℤ_comm (pos a) (neg_ℤ (pos b)) ∙ plus_more true b a l
plus_less true a b l = +ℤ_comm (neg_ℤ (pos a)) (pos b) ∙ plus_more false b a l

-- ---- x = n y + r
-- n is negative where the signs of x and y differ
abbrev pub Remains : Format → ℕ → ℕ → ℕ → ℕ → Type 0
Remains f x y r n = value f x ≡ with_sign (unlike (minus f x) (minus f y)) n *ℤ value f y +ℤ value f r

pub remains_splits : (f : Format) (x y r n : ℕ)
    → Remains f x y r n ↔ Splits (unlike (minus f x) (minus f r)) (units f (magnitude f x)) (n * units f (magnitude f y)) (units f (magnitude f r))
remains_splits f x y r n =
    rw (value_is f x, value_is f y, value_is f r, times_sign (minus f x) (minus f y) n (units f (magnitude f y)))
    (sum_splits (minus f x) (minus f r) (units f (magnitude f x)) (n * units f (magnitude f y)) (units f (magnitude f r)))

pub remains_distance : (f : Format) (x y r n : ℕ) → Remains f x y r n → distance (units f (magnitude f x)) (n * units f (magnitude f y)) ≡ units f (magnitude f r)
remains_distance f x y r n e =
    go (unlike (minus f x) (minus f r)) (units f (magnitude f x)) (n * units f (magnitude f y)) (units f (magnitude f r)) ((remains_splits f x y r n).0 e)
  where
    go : (b : Bool) (u w r : ℕ) → Splits b u w r → distance u w ≡ r
    go false u w r h = omega arith
    go true u w r h = omega arith

-- a sum with a nonzero rest determines the sign of the rest
pub same_sign : (s p q : Bool) (u w r : ℕ) → 0 < r → Splits (unlike s p) u w r → Splits (unlike s q) u w r → p ≡ q
same_sign s false false u w r l h k = refl
same_sign false false true u w r l h k = absurd (omega arith)
same_sign true false true u w r l h k = absurd (omega arith)
same_sign false true false u w r l h k = absurd (omega arith)
same_sign true true false u w r l h k = absurd (omega arith)
same_sign s true true u w r l h k = refl
