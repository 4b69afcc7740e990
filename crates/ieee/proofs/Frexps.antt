-- frexp is exact: the fraction of a number is held by the format, and with its exponent it is the one pair that the rule names. Assumes nothing.
use Prim.Native.Nat.{ℕ, zero, suc, ◌+◌, ◌-◌, ◌*◌, ◌/◌, ◌^◌, ◌≤◌, ◌<◌}
use mathlib.Core.Path.{◌≡◌, sym, ap, ◌∙◌, subst, subst₂}
use native.Mathlib.Nat.{two-pow-succ}
use native.Mathlib.Omega.{arith, by_contra, both_ways}
use lib.IntN.{ℤ, pos, negsuc, ◌+ℤ◌, ◌-ℤ◌, ◌*ℤ◌}
use lib.Pow.{pow-add, pow_pos, pow_mono}
use Rattle.algebra.proofs.Integers.{up, dn, add_z, sub_z, eq_z}
use Rattle.algebra.proofs.Products.{times, times_le, mul_eq_cancel}
use Rattle.algebra.proofs.Quotients.{div_is}
use Rattle.ieee.specs.Format.{Format, Fair, top, bias, low, inf, units}
use Rattle.ieee.specs.Pattern.{Pattern, minus, magnitude, signed, Kind, nan, infinite, finite, kind, with_sign, value}
use Rattle.ieee.specs.Exact.{dyadic, ratio}
use Rattle.ieee.specs.Round.{even, exactly, ties_to_even, answer}
use Rattle.ieee.specs.Scalbn.{scalbn_of, exact_scalbn}
use Rattle.ieee.specs.FlagsRule.{Equals}
use Rattle.ieee.specs.Frexp.{leading_bit, ilogb_of, frexp_by, frexp_of, frexp_exponent_by, frexp_exponent}
use Rattle.ieee.specs.FrexpRule.{Broken, FrexpRows}
use Rattle.ieee.proofs.Units.{units_lt, units_lt_inv, units_inj}
use Rattle.ieee.proofs.Patterns.{inf_below_top, canonical_pattern, magnitude_signed, minus_signed, pattern_signed, same_pattern, signed_is, kind_finite, finite_is, value_is}
use Rattle.ieee.proofs.Past.{rounded_le}
use Rattle.ieee.proofs.Held.{exact}
use Rattle.ieee.proofs.Signs.{signed_times, signed_tells}
use Rattle.ieee.proofs.Exacts.{sign_own, answer_held}
use Rattle.ieee.proofs.Scalbns.{scalbn_answer}
use Rattle.ieee.proofs.WholeParts.{ones_below_infinity}
use Rattle.ieee.proofs.Leads.{Leading, leading_bit_lem, leading_bit_is, ilogb_finite}
use Rattle.ieee.proofs.Significands.{Significand, significand_leading, significand_of_lem}

-- ---- the fraction of u units, which the format holds from three exponent bits on: with two, 1 / 2 is subnormal
-- 1 / 2 is 2 ^ frac times 2 ^ half smallest units
abbrev pub half : Format → ℕ
half f = bias f - 2

module _ (f : Format) (g : Fair f) (three : 3 ≤ f.expo) where
  ones : 2 ^ low f ≡ 2 ^ half f * 2 ^ suc f.frac
  ones =
      let e : low f ≡ half f + suc f.frac = omega (arith, pow_mono {i = 2} {j = f.expo - 1} (omega arith)) in
      ap (λ n. 2 ^ n) e ∙ pow-add 2 (half f) (suc f.frac)

  module _ (u s k : ℕ) (h : Significand f u s k) where
    fraction_times : s * 2 ^ half f * 2 ^ suc k ≡ u * 2 ^ low f
    fraction_times =
        omega (arith, times u ones, times (s * 2 ^ half f) (two-pow-succ k), times (2 ^ half f) h.counts, times (u * 2 ^ half f) (two-pow-succ f.frac))

    fraction_least : 2 ^ low f ≤ 2 * (s * 2 ^ half f)
    fraction_least = omega (arith, ones, times (2 ^ half f) (two-pow-succ f.frac), times_le (2 ^ half f) h.least)

    fraction_most : s * 2 ^ half f < 2 ^ low f
    fraction_most = omega (arith, ones, times (2 ^ half f) (two-pow-succ f.frac), times_le (2 ^ half f) h.most, pow_pos (half f))

    pub fraction_units : u * 2 ^ low f / 2 ^ suc k ≡ s * 2 ^ half f
    fraction_units = (div_is (u * 2 ^ low f) (2 ^ suc k) (s * 2 ^ half f) 0 (pow_pos (suc k)) (omega (arith, fraction_times))).0

    pub fraction_below : s * 2 ^ half f < units f (inf f)
    fraction_below = omega (arith, fraction_most, ones_below_infinity f g, times_le (2 ^ low f) (pow_pos f.frac))

-- ---- frexp and ilogb of a number, by its significand
module _ (f : Format) (x u : ℕ) (h : kind f x ≡ finite (suc u)) where
  frexp_finite : frexp_of f x ≡ signed f (minus f x) (exactly f (suc u * 2 ^ low f / 2 ^ suc (leading_bit f (suc u))))
  unfolding frexp_of frexp_by
  frexp_finite = ap (frexp_by f x) h

  frexp_exponent_lem : frexp_exponent f x ≡ pos (suc (leading_bit f (suc u))) -ℤ pos (low f)
  unfolding frexp_exponent frexp_exponent_by
  frexp_exponent_lem = ap (frexp_exponent_by f) h

  pub frexp_after_ilogb : frexp_exponent f x ≡ ilogb_of f x +ℤ pos 1
  frexp_after_ilogb =
      let k = leading_bit f (suc u) in
      let z = pos k -ℤ pos (low f) in
      frexp_exponent_lem
      ∙ eq_z (pos (suc k) -ℤ pos (low f)) (z +ℤ pos 1) (omega (arith, sub_z (pos (suc k)) (pos (low f)), sub_z (pos k) (pos (low f)), add_z z (pos 1)))
      ∙ ap (λ n. n +ℤ pos 1) (sym (ilogb_finite f x u h))

  module _ (g : Fair f) (s k : ℕ) (n : Significand f (suc u) s k) where
    leading_is : leading_bit f (suc u) ≡ k
    leading_is =
        let m = finite_is f x (suc u) h in
        leading_bit_is f g (suc u) k (omega (arith, m.counts, units_lt f m.below)) (significand_leading f (suc u) s k n)

    pub ilogb_by_lem : ilogb_of f x ≡ pos k -ℤ pos (low f)
    ilogb_by_lem = ilogb_finite f x u h ∙ ap (λ b. pos b -ℤ pos (low f)) leading_is

    exponent_by_lem : frexp_exponent f x ≡ pos (suc k) -ℤ pos (low f)
    exponent_by_lem = frexp_exponent_lem ∙ ap (λ b. pos (suc b) -ℤ pos (low f)) leading_is

    pub frexp_by_lem : 3 ≤ f.expo → frexp_of f x ≡ signed f (minus f x) (exactly f (s * 2 ^ half f))
    frexp_by_lem three =
        frexp_finite ∙ ap (λ b. signed f (minus f x) (exactly f (suc u * 2 ^ low f / 2 ^ suc b))) leading_is ∙ ap (λ v. signed f (minus f x) (exactly f v)) (fraction_units f g three (suc u) s k n)

-- ---- r times 2 ^ n is x, exactly, in whole numbers
exact_over : (f : Format) (r : ℕ) (n : ℤ) → exact_scalbn f r n ≡ dyadic (with_sign (minus f r) (units f (magnitude f r) * 2 ^ up n)) (dn n)
exact_over f r (pos n) = ap (λ z. dyadic z 0) (ap (λ z. z *ℤ pos (2 ^ n)) (value_is f r) ∙ signed_times (minus f r) (units f (magnitude f r)) (2 ^ n))
exact_over f r (negsuc n) = ap (λ z. dyadic z (suc n)) (value_is f r ∙ ap (with_sign (minus f r)) {x = units f (magnitude f r)} {y = units f (magnitude f r) * 2 ^ 0} (omega arith))

module _ (f : Format) (x r : ℕ) (n : ℤ) where
  abbrev Scales : Type 0
  Scales = units f (magnitude f r) * 2 ^ up n ≡ units f (magnitude f x) * 2 ^ dn n

  over_value : value f x *ℤ pos (2 ^ dn n) ≡ with_sign (minus f x) (units f (magnitude f x) * 2 ^ dn n)
  over_value = ap (λ z. z *ℤ pos (2 ^ dn n)) (value_is f x) ∙ signed_times (minus f x) (units f (magnitude f x)) (2 ^ dn n)

  scales_exact : minus f r ≡ minus f x → Scales → Equals (exact_scalbn f r n) (value f x)
  scales_exact s e = subst (λ v. Equals v (value f x)) (sym (exact_over f r n)) ((λ i. with_sign (s i) (e i)) ∙ sym over_value)

  exact_scales : Equals (exact_scalbn f r n) (value f x) → 0 < units f (magnitude f r) → Scales × (minus f r ≡ minus f x)
  exact_scales e l =
      let t = subst (λ v. Equals v (value f x)) (exact_over f r n) e in
      let (m, s) = signed_tells (minus f r) (minus f x) (units f (magnitude f r) * 2 ^ up n) (units f (magnitude f x) * 2 ^ dn n) (t ∙ over_value) in
      (m, s (omega (arith, times_le (2 ^ up n) l, pow_pos (up n))))

  -- and then it is scalbn's answer
  scales_answer : Fair f → Pattern f x → magnitude f x < inf f → magnitude f r < inf f → minus f r ≡ minus f x → Scales → scalbn_of f r n ≡ x
  unfolding scalbn_of
  scales_answer g p l b s e =
      scalbn_answer f g ties_to_even r (units f (magnitude f r)) n (kind_finite f r b)
      ∙ ap (answer f ties_to_even (minus f r)) (exact_over f r n ∙ (λ i. dyadic (with_sign (minus f r) (e i)) (dn n)))
      ∙ answer_held f ties_to_even (minus f r) (minus f r) (magnitude f x) (dn n) l (sign_own (minus f r) (units f (magnitude f x) * 2 ^ dn n) (dn n))
      ∙ ap (λ t. signed f t (magnitude f x)) s
      ∙ signed_is f x p

-- over the difference of two exponents
by_difference : (a b c d : ℕ) → c * 2 ^ a ≡ d * 2 ^ b → c * 2 ^ up (pos a -ℤ pos b) ≡ d * 2 ^ dn (pos a -ℤ pos b)
by_difference a b c d e =
    let n = pos a -ℤ pos b in
    let i : up n + b ≡ dn n + a = omega (arith, sub_z (pos a) (pos b)) in
    let j = sym (pow-add 2 (up n) b) ∙ ap (λ m. 2 ^ m) i ∙ pow-add 2 (dn n) a in
    mul_eq_cancel (c * 2 ^ up n) (d * 2 ^ dn n) (2 ^ b) (pow_pos b) (omega (arith, times c j, times (2 ^ dn n) e))

-- ---- frexp meets its rule
module _ (f : Format) (g : Fair f) (three : 3 ≤ f.expo) (x : ℕ) (p : Pattern f x) (l : magnitude f x < inf f) (s k : ℕ) (h : Significand f (units f (magnitude f x)) s k) where
  abbrev fraction : ℕ
  fraction = exactly f (s * 2 ^ half f)

  abbrev exponent : ℤ
  exponent = pos (suc k) -ℤ pos (low f)

  fraction_counts : units f fraction ≡ s * 2 ^ half f
  fraction_counts = exact f even (half f) s h.most (fraction_below f g three (units f (magnitude f x)) s k h)

  fraction_finite : fraction < inf f
  fraction_finite = units_lt_inv f fraction (inf f) (omega (arith, fraction_counts, fraction_below f g three (units f (magnitude f x)) s k h))

  scaled_back : s * 2 ^ half f * 2 ^ up exponent ≡ units f (magnitude f x) * 2 ^ dn exponent
  scaled_back = by_difference (suc k) (low f) (s * 2 ^ half f) (units f (magnitude f x)) (fraction_times f g three (units f (magnitude f x)) s k h)

  broken : Broken f x (signed f (minus f x) fraction) exponent
  broken =
      let t : fraction < top f = omega (arith, inf_below_top f, fraction_finite) in
      let r = signed f (minus f x) fraction in
      let m = magnitude_signed f (minus f x) fraction t in
      let c : units f (magnitude f r) ≡ s * 2 ^ half f = ap (units f) m ∙ fraction_counts in
      let e = times (2 ^ up exponent) c ∙ scaled_back in
      let b = minus_signed f (minus f x) fraction t in
      record {
        pattern = pattern_signed f (minus f x) fraction t;
        least = omega (arith, c, fraction_least f g three (units f (magnitude f x)) s k h);
        most = omega (arith, c, fraction_most f g three (units f (magnitude f x)) s k h);
        scales = scales_answer f x r exponent g p l (omega (arith, m, fraction_finite)) b e;
        exact = (l, scales_exact f x r exponent b e);
      }

pub frexp_is : (f : Format) → Fair f → 3 ≤ f.expo → (x u : ℕ) → Pattern f x → kind f x ≡ finite (suc u) → Broken f x (frexp_of f x) (frexp_exponent f x)
frexp_is f g three x u p h =
    let m = finite_is f x (suc u) h in
    let k = leading_bit f (suc u) in
    let b = leading_bit_lem f g (suc u) (omega arith) (omega (arith, m.counts, units_lt f m.below)) in
    let (s, n) = significand_of_lem f (magnitude f x) k (subst (λ v. Leading v k) (sym m.counts) b) in
    let i = subst (λ v. Significand f v s k) m.counts n in
    subst₂ (Broken f x) (sym (frexp_by_lem f x u h g s k i three)) (sym (exponent_by_lem f x u h g s k i)) (broken f g three x p m.below s k n)

-- ---- and only frexp does
-- two fractions from 1 / 2 up to 1 that differ by a power of two are one
scale_le : (c u v i j : ℕ) → 2 ^ c ≤ 2 * v → u < 2 ^ c → u * 2 ^ i ≡ v * 2 ^ j → j ≤ i
scale_le c u v i j l h e =
    by_contra j i
    (λ b. omega (arith, e, times_le v (pow_mono {i = suc i} {j = j} b), times v (two-pow-succ i), times_le (2 ^ i) l, times_le (2 ^ i) h, pow_pos i))

one_scale : (c u v i j : ℕ) → 2 ^ c ≤ 2 * u → u < 2 ^ c → 2 ^ c ≤ 2 * v → v < 2 ^ c → u * 2 ^ i ≡ v * 2 ^ j → (i ≡ j) × (u ≡ v)
one_scale c u v i j a b l h e =
    let k : i ≡ j = both_ways i j (scale_le c v u j i a h (sym e)) (scale_le c u v i j l b e) in
    (k, mul_eq_cancel u v (2 ^ i) (pow_pos i) (e ∙ ap (λ n. v * 2 ^ n) (sym k)))

pub frexp_only : (f : Format) (x r q : ℕ) (n m : ℤ) → Broken f x r n → Broken f x q m → (r ≡ q) × (n ≡ m)
frexp_only f x r q n m a b =
    let u = units f (magnitude f r) in
    let v = units f (magnitude f q) in
    let c = pow_pos (low f) in
    let (i, s) = exact_scales f x r n a.exact.1 (omega arith) in
    let (j, t) = exact_scales f x q m b.exact.1 (omega arith) in
    let w : u * 2 ^ (up n + dn m) ≡ v * 2 ^ (up m + dn n) =
    omega (arith, times u (pow-add 2 (up n) (dn m)), times v (pow-add 2 (up m) (dn n)), times (2 ^ dn m) i, times (2 ^ dn n) j) in
    let (k, e) = one_scale (low f) u v (up n + dn m) (up m + dn n) a.least a.most b.least b.most w in
    (same_pattern f r q a.pattern b.pattern (s ∙ sym t) (units_inj f (magnitude f r) (magnitude f q) e), eq_z n m k)

pub frexp_rows : (f : Format) → FrexpRows f (frexp_of f) (frexp_exponent f)
unfolding frexp_of frexp_by frexp_exponent frexp_exponent_by
frexp_rows f =
    record {
      of_nan = λ x h. (ap (frexp_by f x) h, ap (frexp_exponent_by f) h);
      of_infinity = λ x h. (ap (frexp_by f x) h, ap (frexp_exponent_by f) h);
      of_zero = λ x h. (ap (frexp_by f x) h, ap (frexp_exponent_by f) h);
    }

-- every answer is a pattern
pub frexp_pattern : (f : Format) (x : ℕ) → Pattern f x → Pattern f (frexp_of f x)
unfolding frexp_of frexp_by
frexp_pattern f x p = go (kind f x)
  where
    go : (k : Kind) → Pattern f (frexp_by f x k)
    go nan = canonical_pattern f
    go infinite = p
    go (finite zero) = p
    go (finite (suc u)) =
        let m = suc u * 2 ^ low f / 2 ^ suc (leading_bit f (suc u)) in
        pattern_signed f (minus f x) (exactly f m) (omega (arith, rounded_le f even (ratio m 1), inf_below_top f))
