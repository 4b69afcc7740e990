-- The flags of sqrt: of the exact root rounded once, and every other row; a root neither overflows nor underflows. Assumes nothing.
use Prim.Native.Nat.{ℕ, zero, suc, ◌+◌, ◌-◌, ◌*◌, ◌^◌, ◌≤◌, ◌<◌}
use mathlib.Core.Path.{◌≡◌, refl, sym, ap, ◌∙◌, subst, subst₂}
use mathlib.Core.Bool.{Bool, true, false, true≢false}
use native.Mathlib.Nat.{mul-le-mul}
use native.Mathlib.Omega.{arith}
use lib.Pow.{pow-add, pow_pos, pow_mono}
use Rattle.algebra.proofs.Products.{times_le}
use Rattle.algebra.proofs.Powers.{pow_diff}
use Rattle.ieee.specs.Format.{Format, Fair, bias, low, units}
use Rattle.ieee.specs.Pattern.{minus, magnitude, Kind, nan, infinite, finite, kind}
use Rattle.ieee.specs.Exact.{root, sign_of, Over, magnified}
use Rattle.ieee.specs.Round.{Way, Attribute, toward_positive, toward_negative, way_of}
use Rattle.ieee.specs.Flags.{Flags, none, only_invalid, signals, largest, raised}
use Rattle.ieee.specs.FlagsRule.{FlagsRule, Clean}
use Rattle.ieee.specs.FlagRows.{SqrtFlagRows}
use Rattle.ieee.specs.Band.{Band}
use Rattle.ieee.specs.Sqrt.{root_of, exact_sqrt, sqrt_in, sqrt_flags_by, sqrt_flags_in}
use Rattle.ieee.proofs.Units.{units_at_lem, units_mono}
use Rattle.ieee.proofs.Decide.{is_false}
use Rattle.ieee.proofs.Patterns.{finite_is}
use Rattle.ieee.proofs.Sqrts.{root_exact, sqrt_answer}
use Rattle.ieee.proofs.Bands.{band}
use Rattle.ieee.proofs.Verdicts.{before_twice, twice_units, PastLargest, BelowNormal, not_reaches}
use Rattle.ieee.proofs.Raised.{raised_rule, overflow_reads, underflow_reads}
use Rattle.ieee.proofs.Cleans.{none_clean, invalid_clean, raised_clean}
use Rattle.ieee.proofs.FarFlags.{zero_flags, over_reaches}

module _ (f : Format) where
  flags_by_lem : (a : Attribute) (x : ℕ) {n s : Bool} {k : Kind} → signals f x ≡ n → minus f x ≡ s → kind f x ≡ k → sqrt_flags_in f a x ≡ sqrt_flags_by f a n s k
  unfolding sqrt_flags_in
  flags_by_lem a x d e h = λ i. sqrt_flags_by f a (d i) (e i) (h i)

  flags_root : (a : Attribute) (x u : ℕ) → kind f x ≡ finite u → (minus f x ≡ true → u ≡ 0) → sqrt_flags_in f a x ≡ raised f a (minus f x) (root_of f u)
  unfolding sqrt_flags_by
  flags_root a x u h z = go (minus f x) u refl h z
    where
      go : (s : Bool) (u : ℕ) → minus f x ≡ s → kind f x ≡ finite u → (s ≡ true → u ≡ 0) → sqrt_flags_in f a x ≡ raised f a s (root_of f u)
      go s zero e h z = flags_by_lem a x refl e h
      go false (suc u) e h z = flags_by_lem a x refl e h
      go true (suc u) e h z = absurd (omega (arith, z refl))

  -- the flags are those of the exact root
  pub sqrt_flags_lem : (a : Attribute) (x u : ℕ) → kind f x ≡ finite u → (minus f x ≡ true → u ≡ 0) → sqrt_flags_in f a x ≡ raised f a (minus f x) (exact_sqrt f x)
  sqrt_flags_lem a x u h z = flags_root a x u h z ∙ ap (raised f a (minus f x)) (root_exact f x u h)

  -- so they are the flags of the answer
  pub sqrt_flags_rule : Fair f → (a : Attribute) (x u : ℕ) → kind f x ≡ finite u → (minus f x ≡ true → u ≡ 0)
      → FlagsRule f a (minus f x) (exact_sqrt f x) (sqrt_in f a x) (sqrt_flags_in f a x)
  sqrt_flags_rule g a x u h z =
      subst₂ (FlagsRule f a (minus f x) (exact_sqrt f x)) (sym (sqrt_answer f a x u h z)) (sym (sqrt_flags_lem a x u h z)) (raised_rule f g a (minus f x) (exact_sqrt f x))

-- ---- every other row
module _ (f : Format) (g : Fair f) where
  flags_zero : (a : Attribute) (x : ℕ) → kind f x ≡ finite 0 → sqrt_flags_in f a x ≡ none
  unfolding raised
  flags_zero a x h = flags_root f a x 0 h (λ _. refl) ∙ zero_flags f g (way_of a (sign_of (minus f x) (root_of f 0))) (root (0 * 2 ^ low f)) tt (omega arith)

  pub sqrt_flag_rows : (a : Attribute) → SqrtFlagRows f (sqrt_flags_in f a)
  unfolding sqrt_flags_by
  sqrt_flag_rows a =
      record {
        of_signalling = λ x h n. flags_by_lem f a x n refl h;
        of_quiet = λ x h n. flags_by_lem f a x n refl h;
        of_infinity = λ x h m. flags_by_lem f a x refl m h;
        of_minus_infinity = λ x h m. flags_by_lem f a x refl m h;
        of_zero = λ x h. flags_zero a x h;
        of_minus = λ x u h m. flags_by_lem f a x refl m h;
      }

  -- ---- a root lies well inside the range
  -- 1 is a number below the largest
  one_below : 2 ^ low f ≤ units f (largest f)
  one_below =
      let t = pow_mono {i = 1} {j = f.expo - 1} (omega (arith, g.expo_two)) in
      let p = pow_diff {a = f.expo} {b = 1} (omega (arith, g.expo_two)) in
      let q = times_le {a = bias f + 1} {b = 2 ^ f.expo - 1} (2 ^ f.frac) (omega arith) in
      let l : bias f * 2 ^ f.frac + 0 ≤ largest f = omega (arith, pow_pos f.frac) in
      let e : units f (bias f * 2 ^ f.frac + 0) ≡ 2 ^ low f =
      ap (λ b. units f (b * 2 ^ f.frac + 0)) {x = bias f} {y = suc (bias f - 1)} (omega arith)
      ∙ units_at_lem f (suc (bias f - 1)) 0 (pow_pos f.frac) ∙ omega (arith, pow-add 2 (bias f - 1) f.frac)
      ∙ ap (λ n. 2 ^ n) {x = bias f - 1 + f.frac} {y = low f} (omega arith) in
      omega (arith, units_mono f l)

  not_over : (w : Way) (u : ℕ) → u ≤ units f (largest f) → PastLargest f g w (root (u * 2 ^ low f)) → ⊥
  not_over w u l = not_reaches f g w (root (u * 2 ^ low f)) tt (largest f) (omega (arith, mul-le-mul l one_below))

  finite_below : (x u : ℕ) → kind f x ≡ finite u → u ≤ units f (largest f)
  finite_below x u h =
      let m = finite_is f x u h in
      omega (arith, m.counts, units_mono f {i = magnitude f x} {j = largest f} (omega (arith, m.below)))

  -- with one more exponent below 1 than a fair format must have, the root of the smallest number is normal
  not_tiny : f.frac + 1 < 2 ^ (f.expo - 1) → (w : Way) (u : ℕ) → 0 < u → BelowNormal f g w (root (u * 2 ^ low f)) → ⊥
  not_tiny c w u l t =
      let p = pow-add 2 f.frac f.frac in
      let q = pow_mono {i = f.frac + f.frac} {j = low f} (omega arith) in
      let b : 2 ^ f.frac * 2 ^ f.frac ≤ u * 2 ^ low f = omega (arith, times_le (2 ^ low f) l) in
      let e = twice_units f g in
      let o : Over (magnified (root (u * 2 ^ low f)) 2) (2 * (2 * 2 ^ f.frac)) = omega arith in
      t.1 (over_reaches f w (magnified (root (u * 2 ^ low f)) 2) tt (before_twice f g) (rw e o))

  module _ (a : Attribute) (x : ℕ) where
    by_rows : (G : Flags → Type 0) → G none → G only_invalid
        → ((u : ℕ) → kind f x ≡ finite (suc u) → minus f x ≡ false → G (raised f a false (root_of f (suc u)))) → G (sqrt_flags_in f a x)
    by_rows G n i r = go (signals f x) (minus f x) (kind f x) refl refl refl
      where
        go : (n : Bool) (s : Bool) (k : Kind) → signals f x ≡ n → minus f x ≡ s → kind f x ≡ k → G (sqrt_flags_in f a x)
        go true s nan d e h = subst G (sym ((sqrt_flag_rows a).of_signalling x h d)) i
        go false s nan d e h = subst G (sym ((sqrt_flag_rows a).of_quiet x h d)) n
        go b false infinite d e h = subst G (sym ((sqrt_flag_rows a).of_infinity x h e)) n
        go b true infinite d e h = subst G (sym ((sqrt_flag_rows a).of_minus_infinity x h e)) i
        go b s (finite zero) d e h = subst G (sym ((sqrt_flag_rows a).of_zero x h)) n
        go b false (finite (suc u)) d e h = subst G (sym (flags_root f a x (suc u) h (λ m. absurd (true≢false (sym m ∙ e))) ∙ ap (λ s. raised f a s (root_of f (suc u))) e)) (r u h e)
        go b true (finite (suc u)) d e h = subst G (sym ((sqrt_flag_rows a).of_minus x u h e)) i

    -- for every x
    pub sqrt_clean : Clean (sqrt_flags_in f a x)
    sqrt_clean = by_rows Clean none_clean invalid_clean (λ u h e. raised_clean f g a false (root_of f (suc u)))

    pub sqrt_no_overflow : (sqrt_flags_in f a x).overflow ≡ false
    sqrt_no_overflow =
        by_rows (λ F. F.overflow ≡ false) refl refl
        (λ u h e. is_false (overflow_reads f g a false (root_of f (suc u))) (not_over (way_of a (sign_of false (root_of f (suc u)))) (suc u) (finite_below x (suc u) h)))

    pub sqrt_no_underflow : f.frac + 1 < 2 ^ (f.expo - 1) → (sqrt_flags_in f a x).underflow ≡ false
    sqrt_no_underflow c =
        by_rows (λ F. F.underflow ≡ false) refl refl
        (λ u h e. is_false (underflow_reads f g a false (root_of f (suc u))) (λ t. not_tiny c (way_of a (sign_of false (root_of f (suc u)))) (suc u) (omega arith) t.0))

-- ---- down and up, the exact root lies between
pub sqrt_band : (f : Format) → Fair f → (x u : ℕ) → kind f x ≡ finite u → (minus f x ≡ true → u ≡ 0)
    → Band f (exact_sqrt f x) (sqrt_in f toward_negative x) (sqrt_in f toward_positive x) (sqrt_flags_in f toward_negative x) (sqrt_flags_in f toward_positive x)
sqrt_band f g x u h z =
    rw (sqrt_answer f toward_negative x u h z, sqrt_answer f toward_positive x u h z, sqrt_flags_lem f toward_negative x u h z, sqrt_flags_lem f toward_positive x u h z)
    (band f g (minus f x) (minus f x) (exact_sqrt f x))
