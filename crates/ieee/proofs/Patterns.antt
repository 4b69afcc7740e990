-- Patterns unpacked and packed: sign, magnitude, kind and value. Assumes nothing.
use Prim.Native.Nat.{ℕ, suc, ◌+◌, ◌-◌, ◌%◌, ◌^◌, ◌≤◌, ◌<◌}
use mathlib.Core.Path.{◌≡◌, refl, sym, ap, ◌∙◌}
use mathlib.Core.Bool.{Bool, true, false}
use native.Mathlib.Nat.{mod-eq_of_lt}
use native.Mathlib.Omega.{arith, both_ways}
use borrow.Author.Tests.{lt-ltb, le-ltb, lt-leb, le-leb, eq-eqb, ne_eqb}
use lib.Pow.{pow-add, pow_pos, pow_mono}
use Rattle.algebra.proofs.Products.{order, diff}
use Rattle.algebra.proofs.Powers.{pow_diff}
use Rattle.algebra.proofs.Quotients.{mod_is}
use Rattle.ieee.specs.Format.{Format, top, inf, canonical, units}
use Rattle.ieee.specs.Pattern.{Pattern, minus, magnitude, signed, Kind, nan, infinite, finite, kind, with_sign, value}
use Rattle.ieee.proofs.Units.{units_zero, units_inj}
use Rattle.ieee.proofs.Past.{inf_lt}

-- ---- sign and magnitude
module _ (f : Format) where
  pub inf_below_top : inf f < top f
  inf_below_top = inf_lt f

  -- the pattern of infinity plus one unit of the exponent field is the sign bit
  pub infinity_top : inf f + 2 ^ f.frac ≡ top f
  infinity_top = omega (arith, diff (2 ^ f.frac) (pow_pos f.expo), pow-add 2 f.frac f.expo)

  pub canonical_pattern : Pattern f (canonical f)
  canonical_pattern = omega (arith, infinity_top, pow_mono {i = f.frac - 1} {j = f.frac} (omega arith), pow_pos f.frac)

  pub magnitude_signed : (s : Bool) (m : ℕ) → m < top f → magnitude f (signed f s m) ≡ m
  magnitude_signed false m l = ap (λ n. n % top f) (omega arith) ∙ mod-eq_of_lt l
  magnitude_signed true m l = mod_is (top f + m) (top f) 1 m l (omega arith)

  pub minus_signed : (s : Bool) (m : ℕ) → m < top f → minus f (signed f s m) ≡ s
  minus_signed false m l = lt-leb (top f) (0 + m) (omega arith)
  minus_signed true m l = le-leb (top f) (top f + m) (omega arith)

  pub pattern_signed : (s : Bool) (m : ℕ) → m < top f → Pattern f (signed f s m)
  pattern_signed false m l = omega arith
  pattern_signed true m l = omega arith

  -- a pattern is its sign and its magnitude
  pub signed_is : (x : ℕ) → Pattern f x → signed f (minus f x) (magnitude f x) ≡ x
  signed_is x p = order (top f) x high low
    where
      high : top f ≤ x → signed f (minus f x) (magnitude f x) ≡ x
      high l =
          ap (λ b. signed f b (magnitude f x)) (le-leb (top f) x l)
          ∙ omega (arith, mod_is x (top f) 1 (x - top f) (omega arith) (omega arith))

      low : x < top f → signed f (minus f x) (magnitude f x) ≡ x
      low l = ap (λ b. signed f b (magnitude f x)) (lt-leb (top f) x l) ∙ omega (arith, mod-eq_of_lt l)

  pub same_pattern : (x y : ℕ) → Pattern f x → Pattern f y → minus f x ≡ minus f y → magnitude f x ≡ magnitude f y → x ≡ y
  same_pattern x y p q s m = sym (signed_is x p) ∙ (λ i. signed f (s i) (m i)) ∙ signed_is y q

  -- ---- kinds
  pub kind_nan : (x : ℕ) → inf f < magnitude f x → kind f x ≡ nan
  unfolding kind
  kind_nan x l = rw (lt-ltb (inf f) (magnitude f x) l)

  pub kind_infinite : (x : ℕ) → magnitude f x ≡ inf f → kind f x ≡ infinite
  unfolding kind
  kind_infinite x e = rw (le-ltb (inf f) (magnitude f x) (omega arith), eq-eqb (magnitude f x) (inf f) e)

  pub kind_finite : (x : ℕ) → magnitude f x < inf f → kind f x ≡ finite (units f (magnitude f x))
  unfolding kind
  kind_finite x l = rw (le-ltb (inf f) (magnitude f x) (omega arith), ne_eqb (magnitude f x) (inf f) (omega arith))

  pub kind_canonical : 1 ≤ f.frac → kind f (canonical f) ≡ nan
  kind_canonical l =
      let h = pow_diff {a = f.frac} {b = 1} l in
      let m : magnitude f (canonical f) ≡ canonical f = mod-eq_of_lt (omega (arith, infinity_top, pow_pos (f.frac - 1))) in
      kind_nan (canonical f) (omega (arith, m, pow_pos (f.frac - 1)))

  -- the converse: the kind by the magnitude
  pub record Finite (x u : ℕ) : Type 0 where
    pub below : magnitude f x < inf f
    pub counts : units f (magnitude f x) ≡ u

  units_of : Kind → ℕ
  units_of nan = 0
  units_of infinite = 0
  units_of (finite u) = u

  pub finite_is : (x u : ℕ) → kind f x ≡ finite u → Finite x u
  unfolding units_of
  finite_is x u e =
      order (suc (magnitude f x)) (inf f)
      (λ l. record { below = l; counts = ap units_of (sym (kind_finite x l) ∙ e) })
      (λ l. order (magnitude f x) (inf f)
      (λ h. absurd (let z : ◌≡◌ {A = ℕ} 0 1 = cc (kind_infinite x (both_ways (magnitude f x) (inf f) h (omega arith))) in omega arith))
      (λ h. absurd (let z : ◌≡◌ {A = ℕ} 0 1 = cc (kind_nan x h) in omega arith)))

  pub nan_is : (x : ℕ) → kind f x ≡ nan → inf f < magnitude f x
  nan_is x e =
      order (suc (magnitude f x)) (inf f)
      (λ l. absurd (let z : ◌≡◌ {A = ℕ} 0 1 = cc (kind_finite x l) in omega arith))
      (λ l. order (magnitude f x) (inf f)
      (λ h. absurd (let z : ◌≡◌ {A = ℕ} 0 1 = cc (kind_infinite x (both_ways (magnitude f x) (inf f) h (omega arith))) in omega arith))
      (λ h. h))

  pub infinite_is : (x : ℕ) → kind f x ≡ infinite → magnitude f x ≡ inf f
  infinite_is x e =
      order (suc (magnitude f x)) (inf f)
      (λ l. absurd (let z : ◌≡◌ {A = ℕ} 0 1 = cc (kind_finite x l) in omega arith))
      (λ l. order (magnitude f x) (inf f)
      (λ h. both_ways (magnitude f x) (inf f) h (omega arith))
      (λ h. absurd (let z : ◌≡◌ {A = ℕ} 0 1 = cc (kind_nan x h) in omega arith)))

  -- zero units are the magnitude 0, and a zero is its sign alone
  pub zero_is : (x : ℕ) → Pattern f x → kind f x ≡ finite 0 → signed f (minus f x) 0 ≡ x
  zero_is x p e = ap (signed f (minus f x)) (units_inj f 0 (magnitude f x) (units_zero f ∙ sym (finite_is x 0 e).counts)) ∙ signed_is x p

  pub infinity_is : (x : ℕ) → Pattern f x → kind f x ≡ infinite → signed f (minus f x) (inf f) ≡ x
  infinity_is x p e = ap (signed f (minus f x)) (sym (infinite_is x e)) ∙ signed_is x p

  -- ---- values
  pub value_is : (x : ℕ) → value f x ≡ with_sign (minus f x) (units f (magnitude f x))
  unfolding value
  value_is x = refl

  -- where its sign or its units are known
  pub value_with : (x : ℕ) (b : Bool) → minus f x ≡ b → value f x ≡ with_sign b (units f (magnitude f x))
  value_with x b e = value_is x ∙ ap (λ c. with_sign c (units f (magnitude f x))) e

  pub value_finite : (x u : ℕ) → kind f x ≡ finite u → value f x ≡ with_sign (minus f x) u
  value_finite x u h = value_is x ∙ ap (with_sign (minus f x)) (finite_is x u h).counts

  pub value_signed : (s : Bool) (m : ℕ) → m < top f → value f (signed f s m) ≡ with_sign s (units f m)
  value_signed s m l = value_is (signed f s m) ∙ (λ i. with_sign (minus_signed s m l i) (units f (magnitude_signed s m l i)))
