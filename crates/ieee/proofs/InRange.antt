-- Where neither overflow nor tininess is judged, the answer is that of every wider format: the bounds of the exponent have no effect. Assumes nothing.
use Prim.Native.Nat.{ℕ, zero, suc, ◌+◌, ◌-◌, ◌*◌, ◌%◌, ◌^◌, ◌≤◌, ◌<◌}
use mathlib.Core.Path.{◌≡◌, sym, ap, ◌∙◌, subst}
use mathlib.Core.Logic.{◌↔◌}
use mathlib.Core.Bool.{false}
use native.Mathlib.Omega.{arith, by_contra, both_ways}
use lib.Pow.{pow_pos}
use Rattle.algebra.proofs.Products.{order}
use Rattle.ieee.specs.Format.{Format, Fair, inf, units}
use Rattle.ieee.specs.Exact.{Exact, Over, Under, magnified}
use Rattle.ieee.specs.Round.{Way, even, away, shorter, longer, middle, passes, rounded}
use Rattle.ieee.specs.Flags.{wider, finer, widely, least_normal, overflows, tiny}
use Rattle.ieee.proofs.Units.{units_zero, units_lt}
use Rattle.ieee.proofs.Decide.{Reads, fails, split}
use Rattle.ieee.proofs.Sides.{Sound, over_down, under_up, under_reads}
use Rattle.ieee.proofs.Past.{Past, passes_reads, rounded_le, rounded_past, rounded_not_past}
use Rattle.ieee.proofs.Exacts.{rounded_zero}
use Rattle.ieee.proofs.Wider.{magnified_beside, magnified_sound, at_least, Reaches, passes_reaches, fit, units_shift}
use Rattle.ieee.proofs.Verdicts.{reads_as, three, suc_largest, as_reaches, even_by, half, before_twice, before_units, twice_units, subnormal_units, after_subnormal, PastLargest, overflows_reads, tiny_reads, reached, tiny_as, infinity_overflows}

module _ (f : Format) (g : Fair f) (k : ℕ) (l : 1 ≤ k) (w : Way) (x : Exact) (s : Sound x) where
  abbrev e : Format
  e = wider f k

  abbrev d : ℕ
  d = finer f k

  abbrev h : ℕ
  h = 2 ^ f.frac

  abbrev r : ℕ
  r = rounded e w (magnified x (2 ^ d))

  abbrev m : ℕ
  m = rounded f w x

  parity : (i : ℕ) → suc (i + d * h) % 2 ≡ suc i % 2
  parity i = omega (arith, even_by d h (2 ^ (f.frac - 1)) (half f g))

  -- a normal number is reached in f exactly where it is reached there
  module _ (i : ℕ) (n : h ≤ i) where
    at : units e (i + d * h) ≡ units f i * 2 ^ d
    at = units_shift f g k l i n

    next : units e (suc (i + d * h)) ≡ units f (suc i) * 2 ^ d
    next = ap (units e) {x = suc (i + d * h)} {y = suc i + d * h} (omega arith) ∙ units_shift f g k l (suc i) (omega arith)

    over_as : (a b : ℕ) → b ≡ a * 2 ^ d → Over (magnified x (2 ^ d)) b ↔ Over x a
    over_as a b q = rw q (magnified_beside x a (2 ^ d) (pow_pos d)).0

    under_as : (a b : ℕ) → b ≡ a * 2 ^ d → Under (magnified x (2 ^ d)) b ↔ Under x a
    under_as a b q = rw q (magnified_beside x a (2 ^ d) (pow_pos d)).1

    middle_as : middle e (i + d * h) ≡ middle f i * 2 ^ d
    middle_as = omega (arith, at, next)

    reaches_as : (w : Way) → Reaches e w (magnified x (2 ^ d)) (i + d * h) ↔ Reaches f w x i
    reaches_as even =
        let o = over_as (middle f i) (middle e (i + d * h)) middle_as in
        let u = under_as (middle f i) (middle e (i + d * h)) middle_as in
        (λ p. (o.0 p.0, λ v. sym (parity i) ∙ p.1 (u.1 v)), λ p. (o.1 p.0, λ v. parity i ∙ p.1 (u.0 v)))
    reaches_as away = over_as (middle f i) (middle e (i + d * h)) middle_as
    reaches_as shorter = over_as (2 * units f (suc i)) (2 * units e (suc (i + d * h))) (omega (arith, next))
    reaches_as longer = let o = under_as (2 * units f i) (2 * units e (i + d * h)) (omega (arith, at)) in (λ p v. p (o.1 v), λ p v. p (o.0 v))

  -- ---- a value that is not tiny has a normal answer
  half_way : Over (magnified x 2) (middle f (before_twice f g)) → Over x (middle f (h - 1))
  half_way o =
      (magnified_beside x (middle f (h - 1)) 2 (omega arith)).0.0
      (over_down (magnified x 2) (omega (arith, subnormal_units f g, after_subnormal f g, before_units f g, twice_units f g, pow_pos f.frac)) o)

  normal_reached : (w : Way) → Reaches f w (magnified x 2) (before_twice f g) → Reaches f w x (h - 1)
  normal_reached even r = (half_way r.0, λ _. omega (arith, half f g, pow_pos f.frac))
  normal_reached away r = half_way r
  normal_reached shorter r = (magnified_beside x (2 * units f (suc (h - 1))) 2 (omega arith)).0.0 (over_down (magnified x 2) (omega (arith, after_subnormal f g, twice_units f g)) r)
  normal_reached longer r =
      λ u. r (under_up (magnified x 2) (omega (arith, subnormal_units f g, before_units f g, pow_pos f.frac)) ((magnified_beside x (2 * units f (h - 1)) 2 (omega arith)).1.1 u))

  normal_reads : Reads (Reaches f w (magnified x 2) (before_twice f g)) (passes f w (magnified x 2) (before_twice f g))
  normal_reads = reads_as (passes_reaches f w (magnified x 2) (before_twice f g) (λ e. omega (arith, three f g, pow_pos f.frac))) (passes_reads f w (magnified x 2) (before_twice f g))

  normal_answer : Reaches f w (magnified x 2) (before_twice f g) → h ≤ m
  normal_answer r =
      let p = pow_pos f.frac in
      let q = three f g in
      let c = (passes_reaches f w x (h - 1) (λ e. omega arith)).1 (normal_reached w r) in
      omega (arith, (at_least f w x s (suc (h - 1))).1 (omega arith, c))

  module _ (no : PastLargest f g w x → ⊥) (n : h ≤ m) (reaches : Reaches f w (magnified x 2) (before_twice f g)) where
    below_inf : m < inf f
    below_inf = by_contra (suc m) (inf f) (λ q. no (infinity_overflows f g w x s (both_ways m (inf f) (rounded_le f w x) (omega arith))))

    -- the number that is not reached in f
    not_next : Reaches f w x m → ⊥
    not_next p =
        order (suc (suc m)) (inf f)
        (λ q. rounded_not_past f w x (below_inf, (passes_reaches f w x m (λ z. omega arith)).1 p))
        (λ q. no (subst (Reaches f w x) (omega (arith, suc_largest f g, below_inf)) p))

    least : h + d * h ≤ r
    least =
        order (suc (units e r)) (units f (least_normal f) * 2 ^ d)
        (λ q. absurd ((tiny_as f g k l w x s).0 q reaches))
        (λ q. by_contra (h + d * h) r (λ c. omega (arith, units_lt e {i = r} {j = h + d * h} c, units_shift f g k l h (omega arith))))

    up_to : (m : ℕ) → Past f w x m → h ≤ m → m ≤ inf f → m + d * h ≤ r
    up_to zero p q b = omega (arith, pow_pos f.frac)
    up_to (suc i) p q b =
        order h i
        (λ c. omega (arith, (reached f g k l w x s (i + d * h) (omega (arith, fit f g k l))).1 ((reaches_as i c w).1 (as_reaches f w x i p.1))))
        (λ c. omega (arith, least))

    no_more : r ≤ m + d * h
    no_more =
        by_contra r (m + d * h) (λ c.
        not_next ((reaches_as m n w).0 ((reached f g k l w x s (m + d * h) (omega (arith, fit f g k l, below_inf))).0 (omega arith))))

    normal_in_range : units e r ≡ units f m * 2 ^ d
    normal_in_range = ap (units e) (both_ways r (m + d * h) no_more (up_to m (rounded_past f w x) n (rounded_le f w x))) ∙ units_shift f g k l m n

  zero_in_range : Under x 0 → units e r ≡ units f m * 2 ^ d
  zero_in_range u =
      let z = under_up (magnified x (2 ^ d)) {t = 0} (omega arith) ((magnified_beside x 0 (2 ^ d) (pow_pos d)).1.1 u) in
      let p : r ≡ 0 = rounded_zero e w (magnified x (2 ^ d)) (magnified_sound x (2 ^ d) s) z in
      let q : m ≡ 0 = rounded_zero f w x s u in
      let n : units f m ≡ 0 = ap (units f) q ∙ units_zero f in
      ap (units e) p ∙ units_zero e ∙ sym (rw n (omega arith))

  pub in_range : overflows f 1 w x ≡ false → tiny f 1 w x ≡ false → widely f k w x ≡ units f m * 2 ^ d
  unfolding widely
  in_range o t =
      let no = fails (overflows_reads f g 1 (omega arith) w x s) o in
      let big = fails (tiny_reads f g 1 (omega arith) w x s) t in
      split (under_reads x 0) zero_in_range (λ z.
      split normal_reads (λ c. normal_in_range no (normal_answer c) c) (λ c. absurd (big (z, c))))
