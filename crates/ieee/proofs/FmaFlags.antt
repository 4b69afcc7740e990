-- The flags of fma: of the exact x y + z rounded once, and every other row. Assumes nothing.
use Prim.Native.Nat.{ℕ, zero, suc}
use mathlib.Core.Path.{◌≡◌, refl, sym, ap, ◌∙◌, subst₂}
use mathlib.Core.Bool.{Bool, true, false, ◌||◌, cond}
use native.Mathlib.Omega.{arith}
use borrow.Author.Tests.{eq-eqb, ne_eqb}
use Rattle.ieee.specs.Format.{Format, Fair}
use Rattle.ieee.specs.Pattern.{minus, unlike, Kind, nan, infinite, finite, kind}
use Rattle.ieee.specs.Round.{Attribute, toward_positive, toward_negative}
use Rattle.ieee.specs.Flags.{none, only_invalid, signals, raised}
use Rattle.ieee.specs.FlagsRule.{FlagsRule, Clean}
use Rattle.ieee.specs.FlagRows.{FmaFlagRows}
use Rattle.ieee.specs.Band.{Band}
use Rattle.ieee.specs.Fma.{times, clashes, signalled, InfiniteProduct, of_both, of_first, of_second, sum_of, sum_sign, plus_flags_by, fma_in, fma_flags_in, exact_fma, zero_sign}
use Rattle.ieee.proofs.Fmas.{sum_exact, fma_answer, times_infinite}
use Rattle.ieee.proofs.Bands.{band}
use Rattle.ieee.proofs.Raised.{raised_rule}
use Rattle.ieee.proofs.Cleans.{none_clean, either_clean, raised_clean}
use Rattle.ieee.proofs.Signals.{finite_silent, infinite_silent}

module _ (f : Format) where
  flags_by_lem : (a : Attribute) (x y z : ℕ) {b : Bool} {k l h : Kind} → signalled f x y z ≡ b → kind f x ≡ k → kind f y ≡ l → kind f z ≡ h
      → fma_flags_in f a x y z ≡ cond (b || clashes k l) only_invalid (plus_flags_by f a (unlike (minus f x) (minus f y)) (times k l) (minus f z) h)
  unfolding fma_flags_in
  flags_by_lem a x y z e p q r = λ i. cond (e i || clashes (p i) (q i)) only_invalid (plus_flags_by f a (unlike (minus f x) (minus f y)) (times (p i) (q i)) (minus f z) (r i))

  silent : (x y z : ℕ) → signals f x ≡ false → signals f y ≡ false → signals f z ≡ false → signalled f x y z ≡ false
  silent x y z p q r = λ i. p i || q i || r i

  -- the flags are those of the exact value
  pub fma_flags_lem : (a : Attribute) (x y z u v w : ℕ) → kind f x ≡ finite u → kind f y ≡ finite v → kind f z ≡ finite w
      → fma_flags_in f a x y z ≡ raised f a (zero_sign f a x y z) (exact_fma f x y z)
  unfolding plus_flags_by
  fma_flags_lem a x y z u v w p q r =
      flags_by_lem a x y z (silent x y z (finite_silent f x u p) (finite_silent f y v q) (finite_silent f z w r)) p q r
      ∙ ap (raised f a (zero_sign f a x y z)) (sum_exact f x y z u v w p q r)

  -- so they are the flags of the answer
  pub fma_flags_rule : Fair f → (a : Attribute) (x y z u v w : ℕ) → kind f x ≡ finite u → kind f y ≡ finite v → kind f z ≡ finite w
      → FlagsRule f a (zero_sign f a x y z) (exact_fma f x y z) (fma_in f a x y z) (fma_flags_in f a x y z)
  fma_flags_rule g a x y z u v w p q r =
      subst₂ (FlagsRule f a (zero_sign f a x y z) (exact_fma f x y z)) (sym (fma_answer f a x y z u v w p q r)) (sym (fma_flags_lem a x y z u v w p q r)) (raised_rule f g a (zero_sign f a x y z) (exact_fma f x y z))

-- ---- zero by infinity
-- kinds, told apart by numbers
abbrev number : Kind → ℕ
number nan = 0
number infinite = 1
number (finite u) = suc (suc u)

module _ (f : Format) (x y : ℕ) where
  -- neither zero by infinity nor infinity by zero
  abbrev pub Apart : Type 0
  Apart = (kind f x ≡ finite 0 → kind f y ≡ infinite → ⊥) × (kind f x ≡ infinite → kind f y ≡ finite 0 → ⊥)

  pub infinite_apart : InfiniteProduct f x y → Apart
  infinite_apart (of_both p q) = (λ e h. let n = ap number (sym p ∙ e) in omega (arith, n), λ e h. let n = ap number (sym q ∙ h) in omega (arith, n))
  infinite_apart (of_first p q) = (λ e h. let n = ap number (sym p ∙ e) in omega (arith, n), λ e h. let n = ap number (sym q ∙ h) in omega (arith, n))
  infinite_apart (of_second p q) = (λ e h. let n = ap number (sym p ∙ e) in omega (arith, n), λ e h. let n = ap number (sym q ∙ h) in omega (arith, n))

  pub finite_apart : {u v : ℕ} → kind f x ≡ finite u → kind f y ≡ finite v → Apart
  finite_apart p q = (λ e h. let n = ap number (sym q ∙ h) in omega (arith, n), λ e h. let n = ap number (sym p ∙ e) in omega (arith, n))

-- ---- every other row
module _ (f : Format) (a : Attribute) (x y z : ℕ) where
  abbrev s : Bool
  s = unlike (minus f x) (minus f y)

  by_product : {p h : Kind} → signalled f x y z ≡ false → clashes (kind f x) (kind f y) ≡ false → times (kind f x) (kind f y) ≡ p → kind f z ≡ h
      → fma_flags_in f a x y z ≡ plus_flags_by f a s p (minus f z) h
  unfolding fma_flags_in
  by_product d c p r = λ i. cond (d i || c i) only_invalid (plus_flags_by f a s (p i) (minus f z) (r i))

  clash : {k l : Kind} → kind f x ≡ k → kind f y ≡ l → clashes k l ≡ true → fma_flags_in f a x y z ≡ only_invalid
  clash {k} {l} p q c =
      flags_by_lem f a x y z refl p q refl
      ∙ ap (λ b. cond (signalled f x y z || b) only_invalid (plus_flags_by f a s (times k l) (minus f z) (kind f z))) c
      ∙ either (signalled f x y z)
    where
      either : (b : Bool) → cond (b || true) only_invalid (plus_flags_by f a s (times k l) (minus f z) (kind f z)) ≡ only_invalid
      either true = refl
      either false = refl

  signals_so : signalled f x y z ≡ true → fma_flags_in f a x y z ≡ only_invalid
  unfolding fma_flags_in
  signals_so h = ap (λ b. cond (b || clashes (kind f x) (kind f y)) only_invalid (plus_flags_by f a s (times (kind f x) (kind f y)) (minus f z) (kind f z))) h

  -- a NaN has no clash, nor does any product but that of zero and infinity
  nan_second : (k : Kind) → (clashes k nan ≡ false) × (times k nan ≡ nan)
  nan_second nan = (refl, refl)
  nan_second infinite = (refl, refl)
  nan_second (finite u) = (refl, refl)

  no_clash : (k l : Kind) → kind f x ≡ k → kind f y ≡ l → (k ≡ finite 0 → l ≡ infinite → ⊥) → (k ≡ infinite → l ≡ finite 0 → ⊥) → clashes k l ≡ false
  no_clash nan l p q i j = refl
  no_clash infinite nan p q i j = refl
  no_clash infinite infinite p q i j = refl
  no_clash infinite (finite zero) p q i j = absurd (j refl refl)
  no_clash infinite (finite (suc v)) p q i j = ne_eqb (suc v) 0 (λ h. omega arith)
  no_clash (finite u) nan p q i j = refl
  no_clash (finite zero) infinite p q i j = absurd (i refl refl)
  no_clash (finite (suc u)) infinite p q i j = ne_eqb (suc u) 0 (λ h. omega arith)
  no_clash (finite u) (finite v) p q i j = refl

  nan_z : (t : Bool) (k : Kind) → plus_flags_by f a s k t nan ≡ none
  unfolding plus_flags_by
  nan_z t nan = refl
  nan_z t infinite = refl
  nan_z t (finite p) = refl

  -- an infinite product has neither a NaN nor a clash
  of_infinite : {h : Kind} → InfiniteProduct f x y → signals f z ≡ false → kind f z ≡ h → fma_flags_in f a x y z ≡ plus_flags_by f a s infinite (minus f z) h
  of_infinite {h} i n r = go i
    where
      go : InfiniteProduct f x y → fma_flags_in f a x y z ≡ plus_flags_by f a s infinite (minus f z) h
      go (of_both p q) = by_product (silent f x y z (infinite_silent f x p) (infinite_silent f y q) n) (λ i. clashes (p i) (q i)) (times_infinite f x y i) r
      go (of_first {v} p q) =
          by_product (silent f x y z (infinite_silent f x p) (finite_silent f y (suc v) q) n) ((λ i. clashes (p i) (q i)) ∙ ne_eqb (suc v) 0 (λ e. omega arith)) (times_infinite f x y i) r
      go (of_second {u} p q) =
          by_product (silent f x y z (finite_silent f x (suc u) p) (infinite_silent f y q) n) ((λ i. clashes (p i) (q i)) ∙ ne_eqb (suc u) 0 (λ e. omega arith)) (times_infinite f x y i) r

  pub fma_flag_rows : FmaFlagRows f x y z (fma_flags_in f a x y z)
  unfolding plus_flags_by
  fma_flag_rows =
      record {
        signalling_first = λ h. signals_so (λ i. h i || signals f y || signals f z);
        signalling_second = λ h. signals_so ((λ i. signals f x || h i || signals f z) ∙ second (signals f x));
        signalling_third = λ h. signals_so ((λ i. signals f x || signals f y || h i) ∙ third (signals f x) (signals f y));
        zero_by_infinity = λ p q. clash p q (eq-eqb 0 0 refl);
        infinity_by_zero = λ p q. clash p q (eq-eqb 0 0 refl);
        opposite_infinities = λ i r u. of_infinite i (infinite_silent f z r) r ∙ ap (λ b. cond b only_invalid none) u;
        quiet_first = λ h d. by_product (silent f x y z d.0 d.1 d.2) (ap (λ k. clashes k (kind f y)) h) (ap (λ k. times k (kind f y)) h) refl;
        quiet_second = λ h d. by_product (silent f x y z d.0 d.1 d.2) (ap (clashes (kind f x)) h ∙ (nan_second (kind f x)).0) (ap (times (kind f x)) h ∙ (nan_second (kind f x)).1) refl;
        quiet_third = λ h d i j. by_product (silent f x y z d.0 d.1 d.2) (no_clash (kind f x) (kind f y) refl refl i j) refl h ∙ nan_z (minus f z) (times (kind f x) (kind f y));
        like_infinities = λ i r u. of_infinite i (infinite_silent f z r) r ∙ ap (λ b. cond b only_invalid none) u;
        infinite_product = λ w i r. of_infinite i (finite_silent f z w r) r;
        infinite_third = λ u v p q r. flags_by_lem f a x y z (silent f x y z (finite_silent f x u p) (finite_silent f y v q) (infinite_silent f z r)) p q r;
      }
    where
      second : (b : Bool) → (b || true || signals f z) ≡ true
      second true = refl
      second false = refl

      third : (b c : Bool) → (b || c || true) ≡ true
      third true c = refl
      third false true = refl
      third false false = refl

pub fma_clean : (f : Format) → Fair f → (a : Attribute) (x y z : ℕ) → Clean (fma_flags_in f a x y z)
unfolding fma_flags_in plus_flags_by
fma_clean f g a x y z =
    either_clean (signalled f x y z || clashes (kind f x) (kind f y)) (plus_flags_by f a s (times (kind f x) (kind f y)) (minus f z) (kind f z))
    (go (times (kind f x) (kind f y)) (minus f z) (kind f z))
  where
    s : Bool
    s = unlike (minus f x) (minus f y)

    go : (k : Kind) (t : Bool) (h : Kind) → Clean (plus_flags_by f a s k t h)
    go nan t h = none_clean
    go infinite t nan = none_clean
    go infinite t infinite = either_clean (unlike s t) none none_clean
    go infinite t (finite w) = none_clean
    go (finite p) t nan = none_clean
    go (finite p) t infinite = none_clean
    go (finite p) t (finite w) =
        raised_clean f g a (sum_sign a s t) (sum_of f s p t w)

module _ (f : Format) (g : Fair f) (x y z u v w : ℕ) (p : kind f x ≡ finite u) (q : kind f y ≡ finite v) (r : kind f z ≡ finite w) where
  -- down and up, the exact value lies between
  pub fma_band : Band f (exact_fma f x y z) (fma_in f toward_negative x y z) (fma_in f toward_positive x y z) (fma_flags_in f toward_negative x y z) (fma_flags_in f toward_positive x y z)
  fma_band =
      rw (fma_answer f toward_negative x y z u v w p q r, fma_answer f toward_positive x y z u v w p q r, fma_flags_lem f toward_negative x y z u v w p q r, fma_flags_lem f toward_positive x y z u v w p q r)
      (band f g (zero_sign f toward_negative x y z) (zero_sign f toward_positive x y z) (exact_fma f x y z))
