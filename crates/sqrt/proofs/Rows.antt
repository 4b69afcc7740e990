-- The rows of sqrt by the pattern, as the code distinguishes them, under every attribute; every answer is a pattern. Assumes nothing.
use Rattle.std.proofs.Common.{◌≡◌, ℕ, subst, zero, suc, ◌+◌, ◌-◌, ◌<◌, ◌≤◌, Bool, true, false, ltb, sym, refl, ap, ◌∙◌, mod-eq_of_lt, arith, pow_pos, le-ltb, lt-ltb, le-leb}
use borrow.Author.Tests.{lt-leb}
use Rattle.algebra.proofs.Products.{order}
use Rattle.algebra.proofs.Quotients.{mod_is}
use Rattle.ieee.specs.Format.{Format, Fair, top, inf, canonical, units}
use Rattle.ieee.specs.Pattern.{Pattern, magnitude, minus, Kind, nan, infinite, finite, kind}
use Rattle.ieee.specs.Round.{Attribute, ties_to_even}
use Rattle.ieee.specs.Sqrt.{sqrt_by, sqrt_in, sqrt_of, sqrt_flags_in, root_of}
use Rattle.ieee.specs.SqrtRows.{SqrtRows}
use Rattle.ieee.specs.Flags.{none, only_invalid, nan_flags, signals}
use Rattle.ieee.specs.FlagRows.{SqrtFlagRows}
use Rattle.ieee.proofs.Attributes.{answer_pattern}
use Rattle.ieee.proofs.Patterns.{inf_below_top, canonical_pattern, kind_nan, kind_infinite, kind_finite}
use Rattle.ieee.proofs.Rule.{inf_pos}
use Rattle.ieee.proofs.Sqrts.{sqrt_rows}
use Rattle.ieee.proofs.SqrtFlags.{sqrt_flag_rows}
use Rattle.ieee.proofs.Units.{units_zero, units_lt}
use Rattle.fmt_fields.specs.Width.{format, Fits}
use Rattle.sqrt.specs.Classes.{rootless}
use Rattle.sqrt.proofs.Asides.{past_of}

module _ (f : Format) (a : Attribute) (x : ℕ) where
  rows : SqrtRows f (sqrt_in f a)
  rows = sqrt_rows f a

  below_top : x ≤ inf f → (magnitude f x ≡ x) × (minus f x ≡ false)
  below_top l = let t : x < top f = omega (arith, inf_below_top f) in (mod-eq_of_lt t, lt-leb (top f) x t)

  pub at_zero : 0 < inf f → Pattern f x → magnitude f x ≡ 0 → sqrt_in f a x ≡ x
  at_zero some p e = rows.of_zero x p (kind_finite f x (omega arith) ∙ ap finite (ap (units f) e ∙ units_zero f))

  pub at_infinity : x ≡ inf f → sqrt_in f a x ≡ x
  at_infinity e = let (m, s) = below_top (omega arith) in rows.of_infinity x (kind_infinite f x (m ∙ e)) s

  -- a NaN, or negative
  pub past_infinity : inf f < x → 0 < magnitude f x → sqrt_in f a x ≡ canonical f
  past_infinity l some =
      order (magnitude f x) (inf f)
      (λ h. let s = le-leb (top f) x (omega (arith, not_plus h)) in
      order (inf f) (magnitude f x)
      (λ g. rows.of_minus_infinity x (kind_infinite f x (omega arith)) s)
      (λ g. go (units f (magnitude f x)) (omega (arith, units_lt f some, units_zero f)) (kind_finite f x g) s))
      (λ h. rows.of_nan x (kind_nan f x h))
    where
      not_plus : magnitude f x ≤ inf f → top f ≤ x
      not_plus h = order (top f) x (λ g. g) (λ g. absurd (omega (arith, mod-eq_of_lt g)))

      go : (u : ℕ) → 0 < u → kind f x ≡ finite u → minus f x ≡ true → sqrt_in f a x ≡ canonical f
      go zero l k s = absurd (omega arith)
      go (suc u) l k s = rows.of_minus x u k s

  -- ---- the flags
  flag_rows : Fair f → SqrtFlagRows f (sqrt_flags_in f a)
  flag_rows g = sqrt_flag_rows f g a

  pub nan_flags_lem : Fair f → inf f < magnitude f x → sqrt_flags_in f a x ≡ nan_flags (signals f x)
  nan_flags_lem g l = go (signals f x) refl
    where
      go : (s : Bool) → signals f x ≡ s → sqrt_flags_in f a x ≡ nan_flags s
      go true e = (flag_rows g).of_signalling x (kind_nan f x l) e
      go false e = (flag_rows g).of_quiet x (kind_nan f x l) e

  -- below zero
  minus_flags : Fair f → Pattern f x → top f < x → magnitude f x ≤ inf f → sqrt_flags_in f a x ≡ only_invalid
  minus_flags g p l m =
      let s = le-leb (top f) x (omega arith) in
      let i = mod_is x (top f) 1 (x - top f) (omega arith) (omega arith) in
      order (inf f) (magnitude f x)
      (λ h. (flag_rows g).of_minus_infinity x (kind_infinite f x (omega arith)) s)
      (λ h. go (units f (magnitude f x)) (omega (arith, units_lt f {i = 0} {j = magnitude f x} (omega arith), units_zero f)) (kind_finite f x h) s)
    where
      go : (u : ℕ) → 0 < u → kind f x ≡ finite u → minus f x ≡ true → sqrt_flags_in f a x ≡ only_invalid
      go zero l k s = absurd (omega arith)
      go (suc u) l k s = (flag_rows g).of_minus x u k s

  before_top : x ≤ top f → 0 < magnitude f x → x < top f
  before_top l z = order (suc x) (top f) (λ h. h) (λ h. absurd (omega (arith, mod_is x (top f) 1 0 (pow_pos (f.frac + f.expo)) (omega arith))))

  -- a zero or +infinity
  own_flags : Fair f → rootless f x ≡ true → x ≤ top f → magnitude f x ≤ inf f → sqrt_flags_in f a x ≡ none
  own_flags g r l m =
      order (magnitude f x) 0
      (λ z. (flag_rows g).of_zero x (kind_finite f x (omega (arith, inf_pos f g)) ∙ ap finite (ap (units f) (omega arith) ∙ units_zero f)))
      (λ z. let h : x < top f = before_top l z in
      order (inf f) x
      (λ k. (flag_rows g).of_infinity x (kind_infinite f x (omega (arith, mod-eq_of_lt h))) (lt-leb (top f) x h))
      (λ k. absurd (omega (arith, mod-eq_of_lt h, past_of f x r z (omega arith)))))

  -- invalid exactly past -0
  pub other_flags : Fair f → Pattern f x → rootless f x ≡ true → magnitude f x ≤ inf f → sqrt_flags_in f a x ≡ nan_flags (ltb (top f) x)
  other_flags g p r m =
      order x (top f)
      (λ l. own_flags g r l m ∙ sym (ap nan_flags (le-ltb (top f) x l)))
      (λ l. minus_flags g p l m ∙ sym (ap nan_flags (lt-ltb (top f) x l)))

-- ---- every answer is a pattern
pub sqrt_pattern : {p e : ℕ} → Fits p e → (a : Attribute) (x : ℕ) → Pattern (format p e) x → Pattern (format p e) (sqrt_in (format p e) a x)
unfolding sqrt_in sqrt_by
sqrt_pattern {p} {e} w a x h = go (minus (format p e) x) (kind (format p e) x)
  where
    go : (s : Bool) (k : Kind) → Pattern (format p e) (sqrt_by (format p e) a x s k)
    go s nan = canonical_pattern (format p e)
    go false infinite = h
    go true infinite = canonical_pattern (format p e)
    go s (finite zero) = answer_pattern (format p e) w.fair a s (root_of (format p e) 0)
    go false (finite (suc u)) = answer_pattern (format p e) w.fair a false (root_of (format p e) (suc u))
    go true (finite (suc u)) = canonical_pattern (format p e)

pub whole : {p e : ℕ} → Fits p e → (x : ℕ) → Pattern (format p e) x → {r : ℕ} → r ≡ sqrt_of (format p e) x → (r ≡ sqrt_of (format p e) x) × Pattern (format p e) r
unfolding sqrt_of
whole {p} {e} w x h i = (i, subst (Pattern (format p e)) (sym i) (sqrt_pattern w ties_to_even x h))

-- an answer by a format that is the layout f of a word
pub answer_held : {p e : ℕ} → Fits p e → {f : Format} → format p e ≡ f → {x y r : ℕ} → x ≡ y → Pattern f y → r ≡ sqrt_in (format p e) ties_to_even x → Pattern f r
answer_held {p} {e} w {f} is {x} {y} {r} i h j =
    let k = subst (λ f. Pattern f x) (sym is) (subst (Pattern f) (sym i) h) in
    subst (λ f. Pattern f r) is (subst (Pattern (format p e)) (sym j) (sqrt_pattern w ties_to_even x k))
