-- The flags of the rows of fma, by magnitude. Assumes nothing.
use Prim.Native.Nat.{ℕ, zero, suc, ◌*◌, ◌^◌, ◌<◌, max}
use mathlib.Core.Path.{◌≡◌, refl, sym, ap, ap₂, ◌∙◌, subst}
use mathlib.Core.Logic.{◌⊎◌, inl, inr, ⊎_elim}
use mathlib.Core.Bool.{Bool, true, false, true≢false, ◌||◌, cond}
use native.Mathlib.Omega.{arith}
use borrow.Author.Tests.{eqb-false, eq-eqb, ne_eqb}
use lib.Dec.{eqb}
use lib.IntN.{pos, ◌+ℤ◌, ◌*ℤ◌}
use Rattle.algebra.proofs.Products.{order, times}
use Rattle.algebra.proofs.Integers.{add_z, eq_z}
use Rattle.ieee.specs.Format.{Format, Fair, low, inf, units}
use Rattle.ieee.specs.Pattern.{Pattern, magnitude, minus, signed, unlike, with_sign, value, Kind, nan, infinite, finite, kind}
use Rattle.ieee.specs.Round.{Attribute}
use Rattle.ieee.specs.Flags.{none, only_invalid, nan_flags}
use Rattle.ieee.specs.FlagsRule.{Exactly}
use Rattle.ieee.specs.Fma.{times as times-kinds, clashes, signalled, plus_flags_by, fma_in, fma_flags_in, zero_sum, exact_fma, against, product_sign}
use Rattle.ieee.proofs.Units.{units_zero, units_lt}
use Rattle.ieee.proofs.Patterns.{magnitude_signed, signed_is, value_is, kind_nan, kind_infinite, kind_finite, finite_is}
use Rattle.ieee.proofs.Signs.{signed_product, signed_zero}
use Rattle.ieee.proofs.Fmas.{times_infinite}
use Rattle.ieee.proofs.FmaFlags.{fma_flags_rule}
use Rattle.fma_laws.proofs.Fused.{room, zero_times}
use Rattle.fma.specs.Special.{special, opposes, opposed}
use Rattle.fma.proofs.Rows.{unlike_zeros, leaves_z, then_zero, infinite_product}

-- ---- a zero product is exact
module _ (f : Format) (g : Fair f) (a : Attribute) (x y z : ℕ) (b : Pattern f z) (l : magnitude f x < inf f) (h : magnitude f y < inf f) (k : magnitude f z < inf f) (n : (magnitude f x ≡ 0) ⊎ (magnitude f y ≡ 0)) where
  abbrev u : ℕ
  u = units f (magnitude f x)

  abbrev v : ℕ
  v = units f (magnitude f y)

  no_product : u * v ≡ 0
  no_product =
      ⊎_elim
      (λ e. let c : u ≡ 0 = ap (units f) e ∙ units_zero f in omega (arith, times v c))
      (λ e. let c : v ≡ 0 = ap (units f) e ∙ units_zero f in omega (arith, times u c)) n

  no_value : value f x *ℤ value f y ≡ pos 0
  no_value = (λ i. value_is f x i *ℤ value_is f y i) ∙ signed_product (minus f x) (minus f y) u v ∙ ap (with_sign (unlike (minus f x) (minus f y))) no_product ∙ signed_zero (unlike (minus f x) (minus f y))

  third_alone : value f x *ℤ value f y +ℤ value f z *ℤ pos (2 ^ low f) ≡ value f z *ℤ pos (2 ^ low f)
  third_alone =
      let c = value f z *ℤ pos (2 ^ low f) in
      ap (λ d. d +ℤ c) no_value ∙ eq_z (pos 0 +ℤ c) c (omega (arith, add_z (pos 0) c))

  -- z is a zero
  third_none : magnitude f z ≡ 0 → value f z *ℤ pos (2 ^ low f) ≡ pos 0
  third_none e = (λ i. value f (sym (signed_is f z b) i) *ℤ pos (2 ^ low f)) ∙ ap (λ m. value f (signed f (minus f z) m) *ℤ pos (2 ^ low f)) e ∙ zero_times f (minus f z)

  exact_row : Exactly f (exact_fma f x y z) (fma_in f a x y z)
  exact_row =
      order 1 (magnitude f z)
      (λ q. leaves (leaves_z f a x y z b l h k n (λ e. absurd (omega arith))))
      (λ q. by_sign (against f x y z) refl (omega arith))
    where
      leaves : z ≡ fma_in f a x y z → Exactly f (exact_fma f x y z) (fma_in f a x y z)
      leaves e = subst (Exactly f (exact_fma f x y z)) e (k, third_alone)

      by_sign : (o : Bool) → against f x y z ≡ o → magnitude f z ≡ 0 → Exactly f (exact_fma f x y z) (fma_in f a x y z)
      by_sign false o e = leaves (leaves_z f a x y z b l h k n (λ _. o))
      by_sign true o e =
          subst (Exactly f (exact_fma f x y z)) (unlike_zeros f a x y z b l h k n e o)
          (omega (arith, magnitude_signed f (zero_sum a) 0 (room f true), k), third_alone ∙ third_none e ∙ sym (zero_times f (zero_sum a)))

  zero_silent : fma_flags_in f a x y z ≡ none
  zero_silent = (fma_flags_rule f g a x y z u v (units f (magnitude f z)) (kind_finite f x l) (kind_finite f y h) (kind_finite f z k)).exact_none exact_row

-- ---- the rows by kind
abbrev is_number : Kind → Bool
is_number nan = false
is_number infinite = false
is_number (finite m) = true

no_number : {A : Type 0} {k : Kind} {p : ℕ} → is_number k ≡ false → k ≡ finite p → A
no_number h e = absurd (true≢false (sym (ap is_number e) ∙ h))

factors_finite : (k l : Kind) {p : ℕ} → times-kinds k l ≡ finite p → (u v : ℕ) × (k ≡ finite u) × (l ≡ finite v)
factors_finite nan l e = no_number refl e
factors_finite infinite nan e = no_number refl e
factors_finite infinite infinite e = no_number refl e
factors_finite infinite (finite zero) e = no_number refl e
factors_finite infinite (finite (suc v)) e = no_number refl e
factors_finite (finite u) nan e = no_number refl e
factors_finite (finite zero) infinite e = no_number refl e
factors_finite (finite (suc u)) infinite e = no_number refl e
factors_finite (finite u) (finite v) e = (u, v, refl, refl)

-- only opposite infinities are invalid
plus_flags : (f : Format) (a : Attribute) (s t : Bool) (p l : Kind) → ((u w : ℕ) → p ≡ finite u → l ≡ finite w → plus_flags_by f a s p t l ≡ none)
    → plus_flags_by f a s p t l ≡ nan_flags (opposes (unlike s t) p l)
unfolding plus_flags_by
plus_flags f a s t nan l h = refl
plus_flags f a s t infinite nan h = refl
plus_flags f a s t infinite infinite h = refl
plus_flags f a s t infinite (finite w) h = refl
plus_flags f a s t (finite p) nan h = refl
plus_flags f a s t (finite p) infinite h = refl
plus_flags f a s t (finite p) (finite w) h = h p w refl refl

-- ---- no operand signals, and no zero meets an infinity
module _ (f : Format) (g : Fair f) (a : Attribute) (x y z : ℕ) (b : Pattern f z) (s : special f x y z ≡ true) (d : signalled f x y z ≡ false) (c : clashes (kind f x) (kind f y) ≡ false) where
  by_product : fma_flags_in f a x y z ≡ plus_flags_by f a (product_sign f x y) (times-kinds (kind f x) (kind f y)) (minus f z) (kind f z)
  unfolding fma_flags_in
  by_product = λ i. cond (d i || c i) only_invalid (plus_flags_by f a (product_sign f x y) (times-kinds (kind f x) (kind f y)) (minus f z) (kind f z))

  number : (p l : Kind) → times-kinds (kind f x) (kind f y) ≡ p → kind f z ≡ l → (u w : ℕ) → p ≡ finite u → l ≡ finite w → plus_flags_by f a (product_sign f x y) p (minus f z) l ≡ none
  number p l i j u w q r =
      let (m, n, e, h) = factors_finite (kind f x) (kind f y) (i ∙ q) in
      let c = (finite_is f x m e).below in
      let k = (finite_is f y n h).below in
      let o = (finite_is f z w (j ∙ r)).below in
      (λ t. plus_flags_by f a (product_sign f x y) (sym i t) (minus f z) (sym j t)) ∙ sym by_product ∙ zero_silent f g a x y z b c k o (then_zero f x y z s c k o)

  pub silent_row : fma_flags_in f a x y z ≡ nan_flags (opposed f x y z)
  silent_row = by_product ∙ plus_flags f a (product_sign f x y) (minus f z) (times-kinds (kind f x) (kind f y)) (kind f z) (number (times-kinds (kind f x) (kind f y)) (kind f z) refl refl)

-- ---- invalid in the others
module _ (f : Format) (a : Attribute) (x y z : ℕ) where
  pub signalled_row : signalled f x y z ≡ true → nan_flags true ≡ fma_flags_in f a x y z
  unfolding fma_flags_in
  signalled_row d = sym (ap (λ t. cond (t || clashes (kind f x) (kind f y)) only_invalid (plus_flags_by f a (product_sign f x y) (times-kinds (kind f x) (kind f y)) (minus f z) (kind f z))) d)

  pub clash_row : signalled f x y z ≡ false → clashes (kind f x) (kind f y) ≡ true → nan_flags true ≡ fma_flags_in f a x y z
  unfolding fma_flags_in
  clash_row d c = λ i. cond (sym d i || sym c i) only_invalid (plus_flags_by f a (product_sign f x y) (times-kinds (kind f x) (kind f y)) (minus f z) (kind f z))

-- ---- the tests, by magnitude
units_none : (f : Format) (m : ℕ) → eqb (units f m) 0 ≡ eqb m 0
units_none f m =
    order 1 m
    (λ l. ne_eqb (units f m) 0 (omega (arith, units_lt f l, units_zero f)) ∙ sym (ne_eqb m 0 (omega arith)))
    (λ l. let e : m ≡ 0 = omega arith in eq-eqb (units f m) 0 (ap (units f) e ∙ units_zero f) ∙ sym (eq-eqb m 0 e))

module _ (f : Format) (some : 0 < inf f) (x y : ℕ) where
  pub clash_first : magnitude f x ≡ inf f → eqb (magnitude f y) 0 ≡ clashes (kind f x) (kind f y)
  clash_first e =
      order (suc (magnitude f y)) (inf f)
      (λ l. sym (units_none f (magnitude f y)) ∙ sym (λ i. clashes (kind_infinite f x e i) (kind_finite f y l i)))
      (λ l. ne_eqb (magnitude f y) 0 (omega arith)
      ∙ order (magnitude f y) (inf f)
      (λ h. sym (λ i. clashes (kind_infinite f x e i) (kind_infinite f y (omega arith) i)))
      (λ h. sym (λ i. clashes (kind_infinite f x e i) (kind_nan f y h i))))

  pub clash_second : (magnitude f x ≡ inf f → ⊥) → magnitude f y ≡ inf f → eqb (magnitude f x) 0 ≡ clashes (kind f x) (kind f y)
  clash_second n e =
      order (suc (magnitude f x)) (inf f)
      (λ l. sym (units_none f (magnitude f x)) ∙ sym (λ i. clashes (kind_finite f x l i) (kind_infinite f y e i)))
      (λ l. ne_eqb (magnitude f x) 0 (omega arith) ∙ sym (λ i. clashes (kind_nan f x (omega (arith, n)) i) (kind_infinite f y e i)))

  pub clash_none : (magnitude f x ≡ inf f → ⊥) → (magnitude f y ≡ inf f → ⊥) → false ≡ clashes (kind f x) (kind f y)
  clash_none n k =
      order (suc (magnitude f x)) (inf f)
      (λ l. order (suc (magnitude f y)) (inf f)
      (λ h. sym (λ i. clashes (kind_finite f x l i) (kind_finite f y h i)))
      (λ h. sym (λ i. clashes (kind_finite f x l i) (kind_nan f y (omega (arith, k)) i))))
      (λ l. sym (λ i. clashes (kind_nan f x (omega (arith, n)) i) (kind f y)))

  -- opposite infinities: z is one, and the larger factor
  pub opposed_none : (z : ℕ) → (magnitude f z ≡ inf f → ⊥) → false ≡ opposed f x y z
  opposed_none z n =
      order (suc (magnitude f z)) (inf f)
      (λ l. by_third (against f x y z) (times-kinds (kind f x) (kind f y)) (kind_finite f z l))
      (λ l. by_nan (against f x y z) (times-kinds (kind f x) (kind f y)) (kind_nan f z (omega (arith, n))))
    where
      by_third : (b : Bool) {l : Kind} {w : ℕ} (k : Kind) → l ≡ finite w → false ≡ opposes b k l
      by_third b nan e = refl
      by_third b infinite e = sym (ap (opposes b infinite) e)
      by_third b (finite m) e = refl

      by_nan : (b : Bool) {l : Kind} (k : Kind) → l ≡ nan → false ≡ opposes b k l
      by_nan b nan e = refl
      by_nan b infinite e = sym (ap (opposes b infinite) e)
      by_nan b (finite m) e = refl

  pub opposed_finite : (z : ℕ) → (max (magnitude f x) (magnitude f y) ≡ inf f → ⊥) → false ≡ opposed f x y z
  opposed_finite z n =
      order (max (magnitude f x) (magnitude f y)) (inf f)
      (λ l. let (a, b) : (magnitude f x < inf f) × (magnitude f y < inf f) = (omega (arith, n), omega (arith, n)) in
      sym (ap (λ k. opposes (against f x y z) k (kind f z)) (ap₂ times-kinds (kind_finite f x a) (kind_finite f y b))))
      (λ l. order (suc (inf f)) (magnitude f x)
      (λ h. sym (ap (λ k. opposes (against f x y z) (times-kinds k (kind f y)) (kind f z)) (kind_nan f x h)))
      (λ h. sym (ap (λ k. opposes (against f x y z) k (kind f z)) (ap (times-kinds (kind f x)) (kind_nan f y (omega arith)) ∙ by_nan (kind f x)))))
    where
      by_nan : (k : Kind) → times-kinds k nan ≡ nan
      by_nan nan = refl
      by_nan infinite = refl
      by_nan (finite m) = refl

  pub opposed_both : (z : ℕ) → clashes (kind f x) (kind f y) ≡ false → max (magnitude f x) (magnitude f y) ≡ inf f → magnitude f z ≡ inf f → against f x y z ≡ opposed f x y z
  opposed_both z c e k =
      sym (λ i. opposes (against f x y z) (product i) (kind_infinite f z k i))
    where
      product : times-kinds (kind f x) (kind f y) ≡ infinite
      product =
          order (inf f) (magnitude f x)
          (λ h.
          let a : magnitude f x ≡ inf f = omega arith in
          let q = eqb-false (magnitude f y) 0 (clash_first a ∙ c) in
          times_infinite f x y (infinite_product f x y z (inl a) (omega arith) (omega (arith, q)) (omega arith) (omega arith)))
          (λ h.
          let a : magnitude f y ≡ inf f = omega arith in
          let q = eqb-false (magnitude f x) 0 (clash_second (λ i. omega arith) a ∙ c) in
          times_infinite f x y (infinite_product f x y z (inr a) (omega (arith, q)) (omega arith) (omega arith) (omega arith)))
