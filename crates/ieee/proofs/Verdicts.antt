-- Overflow and tininess: every number of additional exponent bits gives the same verdict, which is one comparison in f. Assumes nothing.
use Prim.Native.Nat.{ℕ, suc, ◌+◌, ◌-◌, ◌*◌, ◌%◌, ◌^◌, ◌≤◌, ◌<◌}
use mathlib.Core.Path.{◌≡◌, sym, ap, ◌∙◌, subst}
use mathlib.Core.Logic.{◌↔◌}
use mathlib.Core.Bool.{Bool}
use native.Mathlib.Nat.{two-pow-succ}
use native.Mathlib.Omega.{arith, by_contra, both_ways}
use lib.Pow.{pow_pos, pow_mono}
use Rattle.algebra.proofs.Products.{times as multiplied, times_le}
use Rattle.algebra.proofs.Powers.{pow_diff}
use Rattle.ieee.specs.Format.{Format, Fair, inf, units}
use Rattle.ieee.specs.Exact.{Exact, Under, magnified}
use Rattle.ieee.specs.Round.{Way, even, away, shorter, longer, rounded}
use Rattle.ieee.specs.Flags.{wider, finer, widely, largest, least_normal, overflows, tiny}
use Rattle.ieee.specs.FlagsRule.{Overflow, Tiny, overflowed, Beyond, Small}
use Rattle.ieee.proofs.Units.{units_at_lem, units_rise, units_mono, units_lt, units_lt_inv}
use Rattle.ieee.proofs.Decide.{Reads, so, not_so, alike, leb_reads, and_reads, not_reads}
use Rattle.ieee.proofs.Sides.{Sound, over_down, apart, under_reads}
use Rattle.ieee.proofs.Past.{Passes, rounded_le}
use Rattle.ieee.proofs.Rule.{inf_pos, inf_even}
use Rattle.ieee.proofs.Directed.{rounded_toward}
use Rattle.ieee.proofs.Wider.{at_least, magnified_sound, magnified_twice, Reaches, passes_reaches, reaches_moved, finer_pos, fit, units_shift}

-- a test for a statement is one for an equivalent statement
pub reads_as : {A B : Type 0} {b : Bool} → A ↔ B → Reads A b → Reads B b
reads_as e (so a) = so (e.0 a)
reads_as e (not_so n) = not_so (λ h. n (e.1 h))

pub as_reaches : (f : Format) (w : Way) (x : Exact) (j : ℕ) → Passes f w x j → Reaches f w x j
as_reaches f even x j p = p
as_reaches f away x j p = p
as_reaches f shorter x j p = p.0
as_reaches f longer x j p = p

-- a multiple of an even number is even
pub even_by : (a b c : ℕ) → c * 2 ^ 1 ≡ b → a * b % 2 ≡ 0
even_by a b c e = omega (arith, multiplied a e)

module _ (f : Format) (g : Fair f) where
  -- the largest finite number is normal
  pub three : 3 * 2 ^ f.frac ≤ inf f
  three = let e = pow_mono {i = 2} {j = f.expo} g.expo_two in times_le {a = 3} {b = 2 ^ f.expo - 1} (2 ^ f.frac) (omega arith)

  pub largest_normal : 2 ^ f.frac ≤ largest f
  largest_normal = omega (arith, three, pow_pos f.frac)

  pub suc_largest : suc (largest f) ≡ inf f
  suc_largest = omega (arith, inf_pos f g)

  pub half : 2 ^ (f.frac - 1) * 2 ^ 1 ≡ 2 ^ f.frac
  half = pow_diff {a = f.frac} {b = 1} g.frac_pos

  -- ---- overflow
  -- x reaches the number that would follow the largest
  abbrev pub PastLargest : Way → Exact → Type 0
  PastLargest w x = Reaches f w x (largest f)

  -- twice the least normal number is the magnitude 2 * 2 ^ frac; the one before it
  abbrev pub before_twice : ℕ
  before_twice = 2 * 2 ^ f.frac - 1

  -- x is not zero, and twice x does not reach twice the least normal number
  abbrev pub BelowNormal : Way → Exact → Type 0
  BelowNormal w x = (Under x 0 → ⊥) × (Reaches f w (magnified x 2) before_twice → ⊥)

  pub twice_units : units f (suc before_twice) ≡ 2 * 2 ^ f.frac
  twice_units = ap (units f) (omega (arith, pow_pos f.frac)) ∙ units_at_lem f 2 0 (pow_pos f.frac) ∙ omega arith

  pub normal_units : units f (least_normal f) ≡ 2 ^ f.frac
  normal_units = ap (units f) (omega arith) ∙ units_at_lem f 1 0 (pow_pos f.frac) ∙ omega arith

  pub before_units : units f before_twice ≡ 2 * 2 ^ f.frac - 1
  before_units =
      let c : 2 ^ f.frac - 1 < 2 ^ f.frac = omega (arith, pow_pos f.frac) in
      ap (units f) (omega (arith, pow_pos f.frac)) ∙ units_at_lem f 1 (2 ^ f.frac - 1) c ∙ omega (arith, pow_pos f.frac)

  -- the largest subnormal number, and the next
  pub subnormal_units : units f (2 ^ f.frac - 1) ≡ 2 ^ f.frac - 1
  subnormal_units = let c : 2 ^ f.frac - 1 < 2 ^ f.frac = omega (arith, pow_pos f.frac) in ap (units f) (omega arith) ∙ units_at_lem f 0 (2 ^ f.frac - 1) c

  pub after_subnormal : units f (suc (2 ^ f.frac - 1)) ≡ 2 ^ f.frac
  after_subnormal = ap (units f) (omega (arith, pow_pos f.frac)) ∙ normal_units

  module _ (k : ℕ) (l : 1 ≤ k) (w : Way) (x : Exact) (s : Sound x) where
    abbrev e : Format
    e = wider f k

    abbrev d : ℕ
    d = finer f k

    -- the number that 2 ^ d x reaches there
    abbrev r : ℕ
    r = rounded e w (magnified x (2 ^ d))

    pub reached : (j : ℕ) → suc j < inf e → (suc j ≤ r) ↔ Reaches e w (magnified x (2 ^ d)) j
    reached j b =
        let (to, from) = at_least e w (magnified x (2 ^ d)) (magnified_sound x (2 ^ d) s) (suc j) in
        let (p, q) = passes_reaches e w (magnified x (2 ^ d)) j (λ h. omega arith) in
        (λ h. p (to h).1, λ h. from (omega arith, q h))

    above : ℕ
    above = largest f + d * 2 ^ f.frac

    above_next : suc above ≡ inf f + d * 2 ^ f.frac
    unfolding above
    above_next = omega (arith, suc_largest)

    above_units : units e above ≡ units f (largest f) * 2 ^ d
    unfolding above
    above_units = units_shift f g k l (largest f) largest_normal

    next_units : units e (suc above) ≡ units f (suc (largest f)) * 2 ^ d
    next_units = ap (units e) above_next ∙ units_shift f g k l (inf f) (omega (arith, three)) ∙ ap (λ m. units f m * 2 ^ d) (sym suc_largest)

    above_even : suc above % 2 ≡ 0
    above_even = omega (arith, above_next, inf_even f g, even_by d (2 ^ f.frac) (2 ^ (f.frac - 1)) half)

    pub overflows_as : (units f (largest f) * 2 ^ d < units e r) ↔ PastLargest w x
    overflows_as =
        let b : suc above < inf e = omega (arith, above_next, fit f g k l) in
        let (to, from) = reached above b in
        let (p, q) = reaches_moved f e (2 ^ d) (pow_pos d) (largest f) above above_units next_units (omega (arith, inf_even f g, suc_largest)) above_even w x in (
          λ h. p (to (units_lt_inv e above r (omega (arith, above_units)))),
          λ h. omega (arith, above_units, units_lt e {i = above} {j = r} (from (q h))),
        )

    pub overflows_reads : Reads (PastLargest w x) (overflows f k w x)
    unfolding overflows widely
    overflows_reads = reads_as overflows_as (leb_reads (suc (units f (largest f) * 2 ^ d)) (units e r))

    -- ---- tininess
    least : ℕ
    least = d * 2 ^ f.frac + (2 ^ f.frac - 1)

    least_next : suc least ≡ 2 ^ f.frac + d * 2 ^ f.frac
    unfolding least
    least_next = omega (arith, pow_pos f.frac)

    finer_suc : suc (d - 1) ≡ d
    finer_suc = omega (arith, finer_pos f g k l)

    finer_twice : 2 * 2 ^ (d - 1) ≡ 2 ^ d
    finer_twice = omega (arith, two-pow-succ (d - 1), ap (λ c. 2 ^ c) finer_suc)

    least_units : units e least ≡ units f before_twice * 2 ^ (d - 1)
    unfolding least
    least_units =
        let c : 2 ^ f.frac - 1 < 2 ^ f.frac = omega (arith, pow_pos f.frac) in
        ap (λ q. units e (q * 2 ^ f.frac + (2 ^ f.frac - 1))) (sym finer_suc)
        ∙ units_at_lem e (suc (d - 1)) (2 ^ f.frac - 1) c
        ∙ ap (λ u. u * 2 ^ (d - 1)) {x = 2 ^ f.frac + (2 ^ f.frac - 1)} {y = (2 ^ f.frac + (2 ^ f.frac - 1)) * 2 ^ 0} (omega arith)
        ∙ ap (λ u. u * 2 ^ (d - 1)) (sym (units_at_lem f 1 (2 ^ f.frac - 1) c) ∙ ap (units f) (omega (arith, pow_pos f.frac)))

    least_next_units : units e (suc least) ≡ units f (least_normal f) * 2 ^ d
    least_next_units = ap (units e) least_next ∙ units_shift f g k l (2 ^ f.frac) (omega arith)

    least_next_twice : units e (suc least) ≡ units f (suc before_twice) * 2 ^ (d - 1)
    least_next_twice =
        least_next_units ∙ multiplied (2 ^ d) normal_units ∙ omega (arith, multiplied (2 ^ f.frac) finer_twice) ∙ multiplied (2 ^ (d - 1)) (sym twice_units)

    pub tiny_as : (units e r < units f (least_normal f) * 2 ^ d) ↔ (Reaches f w (magnified x 2) before_twice → ⊥)
    tiny_as =
        let b : suc least < inf e = omega (arith, least_next, fit f g k l, three, pow_pos f.frac) in
        let (to, from) = reached least b in
        let q : suc least % 2 ≡ 0 = omega (arith, least_next, half, even_by d (2 ^ f.frac) (2 ^ (f.frac - 1)) half) in
        let i : suc before_twice % 2 ≡ 0 = omega (arith, half, pow_pos f.frac) in
        let (m, n) = reaches_moved f e (2 ^ (d - 1)) (pow_pos (d - 1)) before_twice least least_units least_next_twice i q w (magnified x 2) in
        let t : magnified x (2 ^ d) ≡ magnified (magnified x 2) (2 ^ (d - 1)) = ap (magnified x) (sym finer_twice) ∙ magnified_twice x 2 (2 ^ (d - 1)) in (
          λ h c. omega (arith, least_next_units, units_mono e {i = suc least} {j = r} (from (subst (λ y. Reaches e w y least) (sym t) (n c)))),
          λ h. rw (sym least_next_units) (units_lt e {i = r} {j = suc least} (by_contra (suc r) (suc least) (λ c. h (m (subst (λ y. Reaches e w y least) t (to (omega arith))))))),
        )

    pub tiny_reads : Reads (BelowNormal w x) (tiny f k w x)
    unfolding tiny widely
    tiny_reads = and_reads (not_reads (under_reads x 0)) (reads_as tiny_as (leb_reads (suc (units e r)) (units f (least_normal f) * 2 ^ d)))

  -- ---- in every wider exponent range
  pub past_every : (w : Way) (x : Exact) → Sound x → PastLargest w x ↔ Overflow f w x
  unfolding widely
  past_every w x s = (λ h k l. (overflows_as k l w x s).1 h, λ h. (overflows_as 1 (omega arith) w x s).0 (h 1 (omega arith)))

  pub below_every : (w : Way) (x : Exact) → Sound x → BelowNormal w x ↔ Tiny f w x
  unfolding widely
  below_every w x s = (λ h. (h.0, λ k l. (tiny_as k l w x s).1 h.1), λ h. (h.0, (tiny_as 1 (omega arith) w x s).0 (h.1 1 (omega arith))))

  -- ---- unbounded: every number of additional exponent bits gives the verdict of one
  pub overflows_unbounded : (k : ℕ) → 1 ≤ k → (w : Way) (x : Exact) → Sound x → overflows f k w x ≡ overflows f 1 w x
  overflows_unbounded k l w x s = alike (overflows_reads k l w x s) (overflows_reads 1 (omega arith) w x s) (λ h. h, λ h. h)

  pub tiny_unbounded : (k : ℕ) → 1 ≤ k → (w : Way) (x : Exact) → Sound x → tiny f k w x ≡ tiny f 1 w x
  tiny_unbounded k l w x s = alike (tiny_reads k l w x s) (tiny_reads 1 (omega arith) w x s) (λ h. h, λ h. h)

  -- ---- tiny exactly when twice the value, rounded in f, is below twice the least normal number
  module _ (w : Way) (x : Exact) (s : Sound x) where
    abbrev double : ℕ
    double = rounded f w (magnified x 2)

    twice_as : (Reaches f w (magnified x 2) before_twice → ⊥) ↔ (units f double < 2 * units f (least_normal f))
    twice_as =
        let b : suc before_twice < inf f = omega (arith, three, pow_pos f.frac) in
        let (to, from) = at_least f w (magnified x 2) (magnified_sound x 2 s) (suc before_twice) in
        let (p, q) = passes_reaches f w (magnified x 2) before_twice (λ h. omega arith) in (
          λ h. let c : double < suc before_twice = by_contra (suc double) (suc before_twice) (λ c. h (p (to (omega arith)).1)) in
              omega (arith, units_lt f c, twice_units, normal_units),
          λ h n. omega (arith, units_mono f {i = suc before_twice} {j = double} (from (omega arith, q n)), twice_units, normal_units),
        )

    pub tiny_twice : Reads (Small f w x) (tiny f 1 w x)
    tiny_twice = reads_as (λ h. (h.0, twice_as.0 h.1), λ h. (h.0, twice_as.1 h.1)) (tiny_reads 1 (omega arith) w x s)

  -- ---- overflow, by the ways
  overflows_beyond : (w : Way) (x : Exact) → PastLargest w x ↔ Beyond f w x
  overflows_beyond even x =
      let e = ap (units f) suc_largest in
      (λ h. over_down x (omega arith) h.0, λ h. (over_down x (omega arith) h, λ _. omega (arith, inf_even f g, suc_largest)))
  overflows_beyond away x = let e = ap (units f) suc_largest in (λ h. over_down x (omega arith) h, λ h. over_down x (omega arith) h)
  overflows_beyond shorter x = let e = ap (units f) suc_largest in (λ h. over_down x (omega arith) h, λ h. over_down x (omega arith) h)
  overflows_beyond longer x = (λ h. h, λ h. h)

  pub beyond_reads : (w : Way) (x : Exact) → Sound x → Reads (Beyond f w x) (overflows f 1 w x)
  beyond_reads w x s = reads_as (overflows_beyond w x) (overflows_reads 1 (omega arith) w x s)

  -- a value that does not exceed a number does not reach the next
  pub not_reaches : (w : Way) (x : Exact) → Sound x → (j : ℕ) → Under x (2 * units f j) → Reaches f w x j → ⊥
  not_reaches even x s j u p = apart x s (omega (arith, units_rise f j)) u p.0
  not_reaches away x s j u p = apart x s (omega (arith, units_rise f j)) u p
  not_reaches shorter x s j u p = apart x s (omega (arith, units_rise f j)) u p
  not_reaches longer x s j u p = p u

  -- ---- clause 7.4: the answer of an overflow
  at_infinity : (w : Way) (x : Exact) → Sound x → Passes f w x (largest f) → rounded f w x ≡ inf f
  at_infinity w x s p =
      both_ways (rounded f w x) (inf f) (rounded_le f w x) (omega (arith, suc_largest, (at_least f w x s (suc (largest f))).1 (omega (arith, suc_largest), p)))

  pub overflow_gives : (w : Way) (x : Exact) → Sound x → PastLargest w x → rounded f w x ≡ overflowed f w
  overflow_gives even x s o = at_infinity even x s o
  overflow_gives away x s o = at_infinity away x s o
  overflow_gives shorter x s o =
      let t = rounded_toward f (inf_pos f g) x s in
      let m = t.most (largest f) (omega (arith, suc_largest)) (over_down x (omega (arith, units_rise f (largest f))) o) in
      both_ways (rounded f shorter x) (largest f) (omega (arith, t.finite, suc_largest)) m
  overflow_gives longer x s o = at_infinity longer x s o

  -- only an overflow gives infinity
  pub infinity_overflows : (w : Way) (x : Exact) → Sound x → rounded f w x ≡ inf f → PastLargest w x
  infinity_overflows w x s e =
      let p = (at_least f w x s (suc (largest f))).0 (omega (arith, suc_largest)) in
      as_reaches f w x (largest f) p.1
