-- The rows of fma, by magnitude. Assumes nothing.
use Prim.Native.Nat.{ℕ, zero, suc, ◌-◌, ◌*◌, ◌^◌, ◌≤◌, ◌<◌}
use mathlib.Core.Path.{◌≡◌, refl, sym, ap, ◌∙◌}
use mathlib.Core.Logic.{◌⊎◌, inl, inr, ⊎_elim}
use mathlib.Core.Bool.{Bool, true, false, true≢false, cond}
use native.Mathlib.Omega.{arith}
use borrow.Author.Tests.{leb-true, leb-false, le-leb, lt-leb, eq-eqb, ne_eqb}
use lib.Dec.{leb, eqb}
use Rattle.algebra.proofs.Products.{order, times}
use Rattle.ieee.specs.Format.{Format, inf, units, canonical}
use Rattle.ieee.specs.Pattern.{Pattern, magnitude, field, minus, signed, unlike, Kind, nan, infinite, finite, kind}
use Rattle.ieee.specs.Round.{Attribute}
use Rattle.ieee.specs.Fma.{times as times-kinds, sum_of, zero_sum, plus_by, fma_in, InfiniteProduct, of_both, of_first, of_second, product_sign, against}
use Rattle.ieee.specs.FmaRows.{FmaRows}
use Rattle.ieee.proofs.Units.{units_zero, units_lt}
use Rattle.ieee.proofs.Patterns.{inf_below_top, canonical_pattern, pattern_signed, kind_nan, kind_infinite, kind_finite, signed_is}
use Rattle.ieee.proofs.Fields.{field_small, field_finite}
use Rattle.ieee.proofs.Attributes.{answer_pattern}
use Rattle.ieee.proofs.Fmas.{fma_rows}
use Rattle.fmt_fields.specs.Width.{format, Fits}
use Rattle.fmt_decode.specs.Aside.{aside}
use Rattle.fmt_decode.proofs.Asides.{set_aside_lem, field_last}
use Rattle.fma_laws.specs.Fused.{zero_in}
use Rattle.fma_laws.proofs.Fused.{zero_by_row}
use Rattle.fma.specs.Special.{special}

-- ---- kinds, by magnitude
zero_kind : (f : Format) (x : ℕ) → 0 < inf f → magnitude f x ≡ 0 → kind f x ≡ finite 0
zero_kind f x l e = kind_finite f x (omega arith) ∙ ap finite (ap (units f) e ∙ units_zero f)

some_kind : (f : Format) (x : ℕ) → 0 < magnitude f x → magnitude f x < inf f → (u : ℕ) × (kind f x ≡ finite (suc u))
some_kind f x p l = let (u, e) = go (units f (magnitude f x)) (omega (arith, units_lt f p, units_zero f)) in (u, kind_finite f x l ∙ ap finite e)
  where
    go : (n : ℕ) → 0 < n → (u : ℕ) × (n ≡ suc u)
    go zero l = absurd (omega arith)
    go (suc n) l = (n, refl)

-- ---- an infinite factor
abbrev Infinite : Format → ℕ → ℕ → Type 0
Infinite f x y = (magnitude f x ≡ inf f) ⊎ (magnitude f y ≡ inf f)

module _ (f : Format) (x y z : ℕ) where
  infinite_first : magnitude f x ≡ inf f → 0 < magnitude f y → magnitude f y ≤ inf f → InfiniteProduct f x y
  infinite_first e p l =
      order (inf f) (magnitude f y)
      (λ h. of_both (kind_infinite f x e) (kind_infinite f y (omega arith)))
      (λ h. let (v, k) = some_kind f y p h in of_first (kind_infinite f x e) k)

  infinite_second : magnitude f y ≡ inf f → 0 < magnitude f x → magnitude f x ≤ inf f → InfiniteProduct f x y
  infinite_second e p l =
      order (inf f) (magnitude f x)
      (λ h. of_both (kind_infinite f x (omega arith)) (kind_infinite f y e))
      (λ h. let (u, k) = some_kind f x p h in of_second k (kind_infinite f y e))

  pub infinite_product : Infinite f x y → 0 < magnitude f x → 0 < magnitude f y → magnitude f x ≤ inf f → magnitude f y ≤ inf f → InfiniteProduct f x y
  infinite_product i p q l h = ⊎_elim (λ e. infinite_first e q h) (λ e. infinite_second e p l) i

  -- the last exponent field is that of infinities and NaNs
  pub last_is_high : eqb (field f z) (2 ^ f.expo - 1) ≡ leb (inf f) (magnitude f z)
  last_is_high =
      order (2 ^ f.expo - 1) (field f z)
      (λ l. let e : field f z ≡ 2 ^ f.expo - 1 = omega (arith, field_small f z) in eq-eqb (field f z) (2 ^ f.expo - 1) e ∙ sym (le-leb (inf f) (magnitude f z) (field_last f z l)))
      (λ l. ne_eqb (field f z) (2 ^ f.expo - 1) (omega arith) ∙ sym (lt-leb (inf f) (magnitude f z) (field_finite f z l)))

  -- operands that are special, with neither an infinity nor a NaN, have a zero product
  pub then_zero : special f x y z ≡ true → magnitude f x < inf f → magnitude f y < inf f → magnitude f z < inf f → (magnitude f x ≡ 0) ⊎ (magnitude f y ≡ 0)
  then_zero s l h k = by (aside f x) (aside f y) refl refl s
    where
      by : (a b : Bool) → aside f x ≡ a → aside f y ≡ b → cond a true (cond b true (leb (inf f) (magnitude f z))) ≡ true → (magnitude f x ≡ 0) ⊎ (magnitude f y ≡ 0)
      by true b i j e = set_aside_lem f x i (λ q. inl q) (λ q. absurd (omega arith))
      by false true i j e = set_aside_lem f y j (λ q. inr q) (λ q. absurd (omega arith))
      by false false i j e = absurd (omega (arith, leb-true (inf f) (magnitude f z) e))

  -- the others are a product of nonzero numbers, and a number
  pub not_special : special f x y z ≡ false → (aside f x ≡ false) × (aside f y ≡ false) × (magnitude f z < inf f)
  not_special s = by (aside f x) (aside f y) refl refl s
    where
      by : (a b : Bool) → aside f x ≡ a → aside f y ≡ b → cond a true (cond b true (leb (inf f) (magnitude f z))) ≡ false → (aside f x ≡ false) × (aside f y ≡ false) × (magnitude f z < inf f)
      by true b i j e = absurd (true≢false e)
      by false true i j e = absurd (true≢false e)
      by false false i j e = (i, j, omega (arith, leb-false (inf f) (magnitude f z) e))

-- ---- the rows, under every attribute
module _ (f : Format) (a : Attribute) (x y z : ℕ) where
  rows : FmaRows f a x y z (fma_in f a x y z)
  rows = fma_rows f a x y z

  -- a NaN anywhere
  pub nan_x : inf f < magnitude f x → canonical f ≡ fma_in f a x y z
  nan_x l = sym (rows.nan_first (kind_nan f x l))

  pub nan_y : inf f < magnitude f y → canonical f ≡ fma_in f a x y z
  nan_y l = sym (rows.nan_second (kind_nan f y l))

  pub nan_z : inf f < magnitude f z → canonical f ≡ fma_in f a x y z
  nan_z l = sym (rows.nan_third (kind_nan f z l))

  -- an infinite factor
  pub zero_x : 0 < inf f → Infinite f x y → magnitude f x ≡ 0 → canonical f ≡ fma_in f a x y z
  zero_x some i e =
      ⊎_elim (λ h. absurd (omega arith)) (λ h. sym (rows.zero_by_infinity (zero_kind f x some e) (kind_infinite f y h))) i

  pub zero_y : 0 < inf f → Infinite f x y → magnitude f y ≡ 0 → canonical f ≡ fma_in f a x y z
  zero_y some i e =
      ⊎_elim (λ h. sym (rows.infinity_by_zero (kind_infinite f x h) (zero_kind f y some e))) (λ h. absurd (omega arith)) i

  pub opposite : InfiniteProduct f x y → magnitude f z ≡ inf f → against f x y z ≡ true → canonical f ≡ fma_in f a x y z
  opposite i e u = sym (rows.opposite_infinities i (kind_infinite f z e) u)

  -- the product decides where z is finite or has its sign
  pub decides : InfiniteProduct f x y → magnitude f z ≤ inf f → (magnitude f z ≡ inf f → against f x y z ≡ false) → signed f (product_sign f x y) (inf f) ≡ fma_in f a x y z
  decides i l u =
      order (inf f) (magnitude f z)
      (λ h. let e : magnitude f z ≡ inf f = omega arith in sym (rows.like_infinities i (kind_infinite f z e) (u e)))
      (λ h. sym (rows.infinite_product (units f (magnitude f z)) i (kind_finite f z h)))

  -- an infinite z
  pub infinite_z : Pattern f z → magnitude f x < inf f → magnitude f y < inf f → magnitude f z ≡ inf f → z ≡ fma_in f a x y z
  infinite_z b l h e = sym (rows.infinite_third (units f (magnitude f x)) (units f (magnitude f y)) b (kind_finite f x l) (kind_finite f y h) (kind_infinite f z e))

  -- a zero product
  module _ (b : Pattern f z) (l : magnitude f x < inf f) (h : magnitude f y < inf f) (k : magnitude f z < inf f) (n : (magnitude f x ≡ 0) ⊎ (magnitude f y ≡ 0)) where
    abbrev u : ℕ
    u = units f (magnitude f x)

    abbrev v : ℕ
    v = units f (magnitude f y)

    no_product : u * v ≡ 0
    no_product =
        ⊎_elim
        (λ e. let c : u ≡ 0 = ap (units f) e ∙ units_zero f in omega (arith, times v c))
        (λ e. let c : v ≡ 0 = ap (units f) e ∙ units_zero f in omega (arith, times u c)) n

    -- two zeros of unlike signs
    pub unlike_zeros : magnitude f z ≡ 0 → against f x y z ≡ true → zero_in f a ≡ fma_in f a x y z
    unlike_zeros e o =
        let c = zero_kind f z (omega arith) e in
        sym (zero_by_row f a
        (rows.unlike_zeros u v (kind_finite f x l) (kind_finite f y h) no_product c o)
        (rows.unlike_zeros_down u v (kind_finite f x l) (kind_finite f y h) no_product c o))

    -- z itself: it is not a zero, or is a zero of the product's sign
    same_zeros : magnitude f z ≡ 0 → against f x y z ≡ false → z ≡ fma_in f a x y z
    same_zeros e o =
        let s : product_sign f x y ≡ minus f z = like_is (product_sign f x y) (minus f z) o in
        sym (signed_is f z b) ∙ (λ i. signed f (sym s i) (e i)) ∙ sym (rows.like_zeros u v (kind_finite f x l) (kind_finite f y h) no_product (zero_kind f z (omega arith) e) o)
      where
        like_is : (s t : Bool) → unlike s t ≡ false → s ≡ t
        like_is false false e = refl
        like_is false true e = absurd (true≢false e)
        like_is true false e = absurd (true≢false e)
        like_is true true e = refl

    pub leaves_z : (magnitude f z ≡ 0 → against f x y z ≡ false) → z ≡ fma_in f a x y z
    leaves_z o =
        order (magnitude f z) 0
        (λ q. let e : magnitude f z ≡ 0 = omega arith in same_zeros e (o e))
        (λ q. let (w, e) = some_kind f z q k in sym (rows.zero_product u v w b (kind_finite f x l) (kind_finite f y h) no_product e))

-- ---- every answer is a pattern
module _ {p e : ℕ} (w : Fits p e) (a : Attribute) where
  plain_infinity : (s : Bool) → Pattern (format p e) (signed (format p e) s (inf (format p e)))
  plain_infinity s = pattern_signed (format p e) s (inf (format p e)) (inf_below_top (format p e))

  plus_pattern : (s : Bool) (k : Kind) (t : Bool) (l : Kind) → Pattern (format p e) (plus_by (format p e) a s k t l)
  unfolding plus_by
  plus_pattern s nan t l = canonical_pattern (format p e)
  plus_pattern s infinite t nan = canonical_pattern (format p e)
  plus_pattern false infinite false infinite = plain_infinity false
  plus_pattern false infinite true infinite = canonical_pattern (format p e)
  plus_pattern true infinite false infinite = canonical_pattern (format p e)
  plus_pattern true infinite true infinite = plain_infinity true
  plus_pattern s infinite t (finite v) = plain_infinity s
  plus_pattern s (finite u) t nan = canonical_pattern (format p e)
  plus_pattern s (finite u) t infinite = plain_infinity t
  plus_pattern s (finite u) t (finite v) = answer_pattern (format p e) w.fair a (cond (unlike s t) (zero_sum a) s) (sum_of (format p e) s u t v)

  pub fma_pattern : (x y z : ℕ) → Pattern (format p e) (fma_in (format p e) a x y z)
  unfolding fma_in
  fma_pattern x y z = plus_pattern (product_sign (format p e) x y) (times-kinds (kind (format p e) x) (kind (format p e) y)) (minus (format p e) z) (kind (format p e) z)
