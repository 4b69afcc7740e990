-- fma: for finite operands the exact x y + z, rounded once; and every other row. Assumes nothing.
use Prim.Native.Nat.{ℕ, suc, ◌*◌, ◌^◌, ◌<◌}
use mathlib.Core.Path.{◌≡◌, refl, sym, ap, ◌∙◌, subst}
use mathlib.Core.Bool.{Bool, true, false, cond}
use native.Mathlib.Omega.{arith}
use lib.Pow.{pow_pos}
use lib.IntN.{pos, neg_ℤ, ◌+ℤ◌, ◌*ℤ◌, +ℤ_idl}
use Rattle.algebra.proofs.Products.{times as multiplied}
use Rattle.algebra.proofs.Integers.{add_z, neg_z, eq_z_fact}
use Rattle.ieee.specs.Format.{Format, Fair, low, inf, units, canonical}
use Rattle.ieee.specs.Pattern.{Pattern, minus, magnitude, signed, unlike, with_sign, value, Kind, nan, infinite, finite, kind}
use Rattle.ieee.specs.Exact.{dyadic}
use Rattle.ieee.specs.Round.{Attribute, ties_to_even, ties_to_away, toward_zero, toward_positive, toward_negative, answer}
use Rattle.ieee.specs.Rule.{to_even, Once, RuleIn}
use Rattle.ieee.specs.Fma.{times, sum_of, zero_sum, plus_by, fma_in, fma_of, exact_fma, zero_sign, InfiniteProduct, of_both, of_first, of_second, product_sign, against}
use Rattle.ieee.specs.FmaRows.{Down, FmaRows}
use Rattle.ieee.proofs.Patterns.{value_finite, finite_is, infinity_is, signed_is}
use Rattle.ieee.proofs.Signs.{signed_times, signed_product, signed_zero}
use Rattle.ieee.proofs.Exacts.{answer_zero, sign_given, answer_held}
use Rattle.ieee.proofs.Attributes.{answer_met}

module _ (f : Format) where
  fma_by : (a : Attribute) (x y z : ℕ) {k l h : Kind} → kind f x ≡ k → kind f y ≡ l → kind f z ≡ h
      → fma_in f a x y z ≡ plus_by f a (unlike (minus f x) (minus f y)) (times k l) (minus f z) h
  unfolding fma_in
  fma_by a x y z p q r = λ i. plus_by f a (unlike (minus f x) (minus f y)) (times (p i) (q i)) (minus f z) (r i)

  numerator : (x y z u v w : ℕ) → kind f x ≡ finite u → kind f y ≡ finite v → kind f z ≡ finite w
      → with_sign (unlike (minus f x) (minus f y)) (u * v) +ℤ with_sign (minus f z) (w * 2 ^ low f) ≡ value f x *ℤ value f y +ℤ value f z *ℤ pos (2 ^ low f)
  numerator x y z u v w p q r =
      let e = signed_product (minus f x) (minus f y) u v in
      let g = signed_times (minus f z) w (2 ^ low f) in
      sym ((λ i. value_finite f x u p i *ℤ value_finite f y v q i +ℤ value_finite f z w r i *ℤ pos (2 ^ low f)) ∙ (λ i. e i +ℤ g i))

  pub sum_exact : (x y z u v w : ℕ) → kind f x ≡ finite u → kind f y ≡ finite v → kind f z ≡ finite w
      → sum_of f (unlike (minus f x) (minus f y)) (u * v) (minus f z) w ≡ exact_fma f x y z
  sum_exact x y z u v w p q r = ap (λ n. dyadic n (low f)) (numerator x y z u v w p q r)

  -- the answer is the exact value, rounded
  pub fma_answer : (a : Attribute) (x y z u v w : ℕ) → kind f x ≡ finite u → kind f y ≡ finite v → kind f z ≡ finite w
      → fma_in f a x y z ≡ answer f a (zero_sign f a x y z) (exact_fma f x y z)
  unfolding plus_by
  fma_answer a x y z u v w p q r = fma_by a x y z p q r ∙ ap (answer f a (zero_sign f a x y z)) (sum_exact x y z u v w p q r)

  -- so it meets the rule for answers, under every attribute
  pub fma_met : Fair f → (a : Attribute) (x y z u v w : ℕ) → kind f x ≡ finite u → kind f y ≡ finite v → kind f z ≡ finite w
      → RuleIn f a (zero_sign f a x y z) (exact_fma f x y z) (fma_in f a x y z)
  fma_met g a x y z u v w p q r =
      subst (RuleIn f a (zero_sign f a x y z) (exact_fma f x y z)) (sym (fma_answer a x y z u v w p q r)) (answer_met f g a (zero_sign f a x y z) (exact_fma f x y z))

  -- and to the nearest even
  pub fma_once : Fair f → (x y z u v w : ℕ) → kind f x ≡ finite u → kind f y ≡ finite v → kind f z ≡ finite w
      → Once f to_even (zero_sign f ties_to_even x y z) (exact_fma f x y z) (fma_of f x y z)
  unfolding fma_of
  fma_once g x y z u v w p q r = fma_met g ties_to_even x y z u v w p q r

  -- ---- zeros
  -- an exact zero has the sign that is fixed for it
  fma_zero : (a : Attribute) (x y z u v w : ℕ) → kind f x ≡ finite u → kind f y ≡ finite v → kind f z ≡ finite w
      → value f x *ℤ value f y +ℤ value f z *ℤ pos (2 ^ low f) ≡ pos 0 → fma_in f a x y z ≡ signed f (zero_sign f a x y z) 0
  fma_zero a x y z u v w p q r e =
      fma_answer a x y z u v w p q r ∙ ap (λ n. answer f a (zero_sign f a x y z) (dyadic n (low f))) e ∙ answer_zero f a (zero_sign f a x y z) (low f)

  -- a zero sum of terms that are not zero is one of unlike signs
  cancels : (s t : Bool) (p w : ℕ) → 0 < p → with_sign s p +ℤ with_sign t w ≡ pos 0 → unlike s t ≡ true
  cancels false false p w l e = absurd (omega (arith, add_z (pos p) (pos w), eq_z_fact e))
  cancels false true p w l e = refl
  cancels true false p w l e = refl
  cancels true true p w l e = absurd (omega (arith, add_z (neg_ℤ (pos p)) (neg_ℤ (pos w)), neg_z (pos p), neg_z (pos w), eq_z_fact e))

  -- z alone
  z_alone : (a : Attribute) (x y z u v w : ℕ) → Pattern f z → kind f x ≡ finite u → kind f y ≡ finite v → u * v ≡ 0 → kind f z ≡ finite (suc w) → fma_in f a x y z ≡ z
  z_alone a x y z u v w b p q n r =
      let s = unlike (minus f x) (minus f y) in
      let m = finite_is f z (suc w) r in
      let e : with_sign s (u * v) +ℤ with_sign (minus f z) (suc w * 2 ^ low f) ≡ with_sign (minus f z) (units f (magnitude f z) * 2 ^ low f) =
      (λ i. (ap (with_sign s) n ∙ signed_zero s) i +ℤ with_sign (minus f z) (sym m.counts i * 2 ^ low f)) ∙ +ℤ_idl (with_sign (minus f z) (units f (magnitude f z) * 2 ^ low f)) in
      fma_answer a x y z u v (suc w) p q r
      ∙ ap (answer f a (zero_sign f a x y z)) (sym (sum_exact x y z u v (suc w) p q r) ∙ ap (λ c. dyadic c (low f)) e)
      ∙ answer_held f a (zero_sign f a x y z) (minus f z) (magnitude f z) (low f) m.below
      (sign_given (zero_sign f a x y z) (minus f z) (units f (magnitude f z) * 2 ^ low f) (low f) (omega (arith, multiplied (2 ^ low f) m.counts, pow_pos (low f))))
      ∙ signed_is f z b

  zeros_add : (x y z u v : ℕ) → kind f x ≡ finite u → kind f y ≡ finite v → u * v ≡ 0 → kind f z ≡ finite 0
      → value f x *ℤ value f y +ℤ value f z *ℤ pos (2 ^ low f) ≡ pos 0
  zeros_add x y z u v p q n r =
      let z0 : 0 * 2 ^ low f ≡ 0 = omega arith in
      sym (numerator x y z u v 0 p q r)
      ∙ (λ i. with_sign (unlike (minus f x) (minus f y)) (n i) +ℤ with_sign (minus f z) (z0 i))
      ∙ (λ i. signed_zero (unlike (minus f x) (minus f y)) i +ℤ signed_zero (minus f z) i)

  fma_zeros : (a : Attribute) (x y z u v : ℕ) → kind f x ≡ finite u → kind f y ≡ finite v → u * v ≡ 0 → kind f z ≡ finite 0 → fma_in f a x y z ≡ signed f (zero_sign f a x y z) 0
  fma_zeros a x y z u v p q n r = fma_zero a x y z u v 0 p q r (zeros_add x y z u v p q n r)

  cancelled : (x y z u v w : ℕ) → kind f x ≡ finite u → kind f y ≡ finite v → kind f z ≡ finite w → 0 < u * v
      → value f x *ℤ value f y +ℤ value f z *ℤ pos (2 ^ low f) ≡ pos 0 → unlike (unlike (minus f x) (minus f y)) (minus f z) ≡ true
  cancelled x y z u v w p q r l e = cancels (unlike (minus f x) (minus f y)) (minus f z) (u * v) (w * 2 ^ low f) l (numerator x y z u v w p q r ∙ e)

  nan_y : (k : Kind) → times k nan ≡ nan
  nan_y nan = refl
  nan_y infinite = refl
  nan_y (finite u) = refl

  nan_z : (a : Attribute) (s t : Bool) (k : Kind) → plus_by f a s k t nan ≡ canonical f
  unfolding plus_by
  nan_z a s t nan = refl
  nan_z a s t infinite = refl
  nan_z a s t (finite p) = refl

  nan_product : (a : Attribute) (x y z : ℕ) → times (kind f x) (kind f y) ≡ nan → fma_in f a x y z ≡ canonical f
  unfolding fma_in plus_by
  nan_product a x y z e = λ i. plus_by f a (unlike (minus f x) (minus f y)) (e i) (minus f z) (kind f z)

  by_product : (a : Attribute) (x y z : ℕ) {k l : Kind} → times (kind f x) (kind f y) ≡ k → kind f z ≡ l
      → fma_in f a x y z ≡ plus_by f a (unlike (minus f x) (minus f y)) k (minus f z) l
  unfolding fma_in
  by_product a x y z e h = λ i. plus_by f a (unlike (minus f x) (minus f y)) (e i) (minus f z) (h i)

pub times_infinite : (f : Format) (x y : ℕ) → InfiniteProduct f x y → times (kind f x) (kind f y) ≡ infinite
times_infinite f x y (of_both h l) = λ i. times (h i) (l i)
times_infinite f x y (of_first h l) = λ i. times (h i) (l i)
times_infinite f x y (of_second h l) = λ i. times (h i) (l i)

not_down : (a : Attribute) → (Down a → ⊥) → zero_sum a ≡ false
not_down ties_to_even n = refl
not_down ties_to_away n = refl
not_down toward_zero n = refl
not_down toward_positive n = refl
not_down toward_negative n = absurd (n tt)

is_down : (a : Attribute) → Down a → zero_sum a ≡ true
is_down ties_to_even d = absurd d
is_down ties_to_away d = absurd d
is_down toward_zero d = absurd d
is_down toward_positive d = absurd d
is_down toward_negative d = refl

-- the sign of a zero, where the product and z have like signs, and where they do not
like_sign : (f : Format) (a : Attribute) (x y z : ℕ) → against f x y z ≡ false → signed f (zero_sign f a x y z) 0 ≡ signed f (product_sign f x y) 0
like_sign f a x y z e = ap (λ b. signed f (cond b (zero_sum a) (product_sign f x y)) 0) e

unlike_sign : (f : Format) (a : Attribute) (x y z : ℕ) {s : Bool} → against f x y z ≡ true → zero_sum a ≡ s → signed f (zero_sign f a x y z) 0 ≡ signed f s 0
unlike_sign f a x y z e h = λ i. signed f (cond (e i) (h i) (product_sign f x y)) 0

pub fma_rows : (f : Format) (a : Attribute) (x y z : ℕ) → FmaRows f a x y z (fma_in f a x y z)
unfolding plus_by
fma_rows f a x y z =
    let infinities : Bool → ℕ = λ b. cond b (canonical f) (signed f (product_sign f x y) (inf f)) in
    record {
      nan_first = λ h. nan_product f a x y z (ap (λ k. times k (kind f y)) h);
      nan_second = λ h. nan_product f a x y z (ap (times (kind f x)) h ∙ nan_y f (kind f x));
      nan_third = λ h. by_product f a x y z refl h ∙ nan_z f a (product_sign f x y) (minus f z) (times (kind f x) (kind f y));
      zero_by_infinity = λ h l. nan_product f a x y z (λ i. times (h i) (l i));
      infinity_by_zero = λ h l. nan_product f a x y z (λ i. times (h i) (l i));
      opposite_infinities = λ h l u. by_product f a x y z (times_infinite f x y h) l ∙ ap infinities u;
      like_infinities = λ h l u. by_product f a x y z (times_infinite f x y h) l ∙ ap infinities u;
      infinite_product = λ w h l. by_product f a x y z (times_infinite f x y h) l;
      infinite_third = λ u v b p q l. fma_by f a x y z p q l ∙ infinity_is f z b l;
      zero_product = λ u v w b p q n r. z_alone f a x y z u v w b p q n r;
      like_zeros = λ u v p q n r e. fma_zeros f a x y z u v p q n r ∙ like_sign f a x y z e;
      unlike_zeros = λ u v p q n r e d. fma_zeros f a x y z u v p q n r ∙ unlike_sign f a x y z e (not_down a d);
      unlike_zeros_down = λ u v p q n r e d. fma_zeros f a x y z u v p q n r ∙ unlike_sign f a x y z e (is_down a d);
      zero_sum = λ u v w p q r l e d. fma_zero f a x y z u v w p q r e ∙ unlike_sign f a x y z (cancelled f x y z u v w p q r l e) (not_down a d);
      zero_sum_down = λ u v w p q r l e d. fma_zero f a x y z u v w p q r e ∙ unlike_sign f a x y z (cancelled f x y z u v w p q r l e) (is_down a d);
    }
