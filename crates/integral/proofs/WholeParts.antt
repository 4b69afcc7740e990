-- A number rounded to a whole number, by where its point stands, over the format and the attribute. Assumes nothing.
use Rattle.std.proofs.Common.{◌≡◌, ℕ, zero, suc, ◌+◌, ◌-◌, ◌*◌, ◌/◌, ◌^◌, ◌<◌, ◌≤◌, Bool, true, false, cond, sym, ap, ◌∙◌, arith, pow_pos, pow_mono, pow-add}
use native.Mathlib.Nat.{two-pow-succ}
use native.Mathlib.Omega.{both_ways}
use Rattle.algebra.proofs.Products.{order, times, times_le, diff}
use Rattle.algebra.proofs.Quotients.{div_is}
use Rattle.algebra.proofs.Powers.{pow_diff}
use Rattle.ieee.specs.Format.{Format, Fair, top, bias, low, inf, units, fields}
use Rattle.ieee.specs.Pattern.{Pattern, minus, magnitude, field, fraction, signed}
use Rattle.ieee.specs.Round.{Way, shorter, even, Attribute, way_of, exactly}
use Rattle.ieee.specs.Whole.{whole, whole_in}
use Rattle.ieee.proofs.Units.{units_at_lem, units_zero, units_lt}
use Rattle.ieee.proofs.Fields.{magnitude_fields, fraction_small, units_of_fields}
use Rattle.ieee.proofs.Patterns.{signed_is, kind_finite, kind_infinite, kind_nan}
use Rattle.ieee.proofs.Fixed.{fixed_whole}
use Rattle.ieee.proofs.WholeParts.{whole_multiple, whole_in_finite, nan_canonical, infinity_stays}
use Rattle.integral.specs.Point.{one_nan}
use Rattle.integral.proofs.Choices.{past_infinity, not_past}
use Rattle.integral.proofs.Scaled.{cut_after, cut_between, shorter_scaled}

module _ (f : Format) (g : Fair f) where
  pub two_le : 2 ≤ 2 ^ (f.expo - 1)
  two_le = pow_mono {i = 1} {j = f.expo - 1} (omega (arith, g.expo_two))

  -- the answer is the magnitude with those units
  pub whole_in_at : (a : Attribute) (x n : ℕ) → magnitude f x < inf f → n < inf f →
      units f n ≡ whole (way_of a (minus f x)) (units f (magnitude f x)) (2 ^ low f) * 2 ^ low f → whole_in f a x ≡ signed f (minus f x) n
  whole_in_at a x n l h e =
      whole_in_finite f a x (units f (magnitude f x)) (kind_finite f x l)
      ∙ ap (λ u. signed f (minus f x) (exactly f u)) (sym e)
      ∙ ap (signed f (minus f x)) (fixed_whole f even n (omega arith))

  -- ---- a number without bits behind the point is unchanged, under every attribute; a NaN becomes canonical
  pub fields_multiple : (q t : ℕ) → bias f + f.frac ≤ q → (k : ℕ) × (fields (2 ^ f.frac) q t ≡ k * 2 ^ low f)
  fields_multiple zero t h = absurd (omega (arith, two_le))
  fields_multiple (suc e) t h =
      ((2 ^ f.frac + t) * 2 ^ (e - low f), omega (arith, times (2 ^ f.frac + t) (pow_diff {a = e} {b = low f} (omega arith))))

  finite_stays : (a : Attribute) (x : ℕ) → Pattern f x → bias f + f.frac ≤ field f x → magnitude f x < inf f → whole_in f a x ≡ x
  finite_stays a x p h l =
      let w = way_of a (minus f x) in
      let m = magnitude f x in
      let (k, e) = fields_multiple (field f x) (fraction f x) h in
      let u : units f m ≡ k * 2 ^ low f = units_of_fields f x ∙ e in
      let v = ap (λ n. whole w n (2 ^ low f)) u ∙ whole_multiple w k (2 ^ low f) (pow_pos (low f)) in
      whole_in_at a x m l l (u ∙ times (2 ^ low f) (sym v)) ∙ signed_is f x p

  pub past_stays : (a : Attribute) (x : ℕ) → inf f ≤ magnitude f x → whole_in f a x ≡ one_nan f x
  past_stays a x l =
      order (magnitude f x) (inf f)
      (λ i. infinity_stays f a x (kind_infinite f x (both_ways (magnitude f x) (inf f) i l)) ∙ sym (not_past f x i))
      (λ i. nan_canonical f a x (kind_nan f x i) ∙ sym (past_infinity f x i))

  pub stays : (a : Attribute) (x : ℕ) → Pattern f x → bias f + f.frac ≤ field f x → whole_in f a x ≡ one_nan f x
  stays a x p h =
      order (suc (magnitude f x)) (inf f)
      (λ l. finite_stays a x p h l ∙ sym (not_past f x (omega arith)))
      (λ l. past_stays a x (omega arith))

  -- ---- units by the significand: the exponent field less one, and a significand from 2 ^ frac to twice that
  units_normal : (c n : ℕ) → 2 ^ f.frac ≤ n → n ≤ 2 * 2 ^ f.frac → units f (c * 2 ^ f.frac + n) ≡ n * 2 ^ c
  units_normal c n l u =
      order (suc n) (2 * 2 ^ f.frac)
      (λ h.
      let e : c * 2 ^ f.frac + n ≡ suc c * 2 ^ f.frac + (n - 2 ^ f.frac) = omega arith in
      ap (units f) e ∙ units_at_lem f (suc c) (n - 2 ^ f.frac) (omega arith) ∙ times (2 ^ c) (omega arith))
      (λ h.
      let d : n ≡ 2 * 2 ^ f.frac = omega arith in
      let e : c * 2 ^ f.frac + n ≡ suc (suc c) * 2 ^ f.frac + 0 = omega arith in
      ap (units f) e ∙ units_at_lem f (suc (suc c)) 0 (pow_pos f.frac) ∙ omega (arith, times (2 ^ f.frac) (two-pow-succ c), times (2 ^ c) d))

  pub units_one : units f (bias f * 2 ^ f.frac) ≡ 2 ^ low f
  units_one =
      ap (units f) (sym (diff {a = bias f} {b = 1} (2 ^ f.frac) (omega (arith, two_le))) ∙ omega arith)
      ∙ units_normal (bias f - 1) (2 ^ f.frac) (omega arith) (omega arith)
      ∙ sym (pow-add 2 f.frac (bias f - 1))
      ∙ ap (λ n. 2 ^ n) (omega (arith, two_le))

  pub below_one_lem : (m : ℕ) → m < bias f * 2 ^ f.frac → units f m < 2 ^ low f
  below_one_lem m h = omega (arith, units_one, units_lt f h)

  -- a number with bits behind the point is far from infinity
  pub far : (q : ℕ) → q < bias f + f.frac → suc (suc q) * 2 ^ f.frac ≤ inf f
  far q h =
      let d = pow_diff {a = f.expo} {b = 1} (omega (arith, g.expo_two)) in
      let b : suc (suc q) ≤ 2 ^ f.expo - 1 = omega (arith, g.frac_fits) in
      times_le (2 ^ f.frac) b

  -- ---- a point within the fraction: the way adds b before the cut
  sign_multiple : (s : Bool) (k : ℕ) → k ≤ f.frac → (d : ℕ) × (cond s (top f) 0 ≡ d * 2 ^ k)
  sign_multiple false k l = (0, omega arith)
  sign_multiple true k l = (2 ^ (f.frac + f.expo - k), sym (pow_diff {a = f.frac + f.expo} {b = k} (omega arith)))

  -- to divide by d in the way w is to add a and then to cut, for every common factor
  abbrev Adds : Way → ℕ → ℕ → Type 0
  Adds w d a = (n t : ℕ) → 0 < t → whole w (n * t) (d * t) ≡ (n + a) / d

  pub part_cut : (a : Attribute) (x k b : ℕ) → Pattern f x → bias f ≤ field f x → 1 ≤ k → field f x + k ≡ bias f + f.frac →
      b < 2 ^ k → Adds (way_of a (minus f x)) (2 ^ k) b → whole_in f a x ≡ (x + b) / 2 ^ k * 2 ^ k
  part_cut a x k b p l i e h w =
      let m : ℕ = magnitude f x in
      let c : ℕ = field f x - 1 in
      let n : ℕ = 2 ^ f.frac + fraction f x in
      let j : ℕ = (n + b) / 2 ^ k in
      let t = magnitude_fields f x in
      let r = fraction_small f x in
      let mc : m ≡ c * 2 ^ f.frac + n = omega (arith, diff {a = field f x} {b = 1} (2 ^ f.frac) (omega (arith, two_le))) in
      let eh = pow_diff {a = f.frac} {b = k} (omega (arith, two_le)) in
      let (lo, hi) = cut_between (2 ^ f.frac) (2 ^ (f.frac - k)) (2 ^ k) n b eh (omega arith) (omega arith) h in
      let el : 2 ^ low f ≡ 2 ^ k * 2 ^ c = ap (λ z. 2 ^ z) (omega (arith, two_le)) ∙ pow-add 2 k c in
      let um : units f m ≡ n * 2 ^ c = ap (units f) mc ∙ units_normal c n (omega arith) (omega arith) in
      let v : whole (way_of a (minus f x)) (units f m) (2 ^ low f) ≡ j = (λ z. whole (way_of a (minus f x)) (um z) (el z)) ∙ w n (2 ^ c) (pow_pos c) in
      let un = units_normal c (j * 2 ^ k) lo hi in
      let o = far (field f x) (omega arith) in
      let (d, ed) = sign_multiple (minus f x) k (omega (arith, two_le)) in
      let cut = cut_after (d + c * 2 ^ (f.frac - k)) (n + b) (2 ^ k) (pow_pos k) in
      whole_in_at a x (c * 2 ^ f.frac + j * 2 ^ k) (omega arith) (omega arith) (un ∙ omega (arith, times (2 ^ low f) v, times j el))
      ∙ omega (arith, times c eh)
      ∙ sym cut
      ∙ ap (λ z. z / 2 ^ k * 2 ^ k) (omega (arith, times c eh, signed_is f x p))

  pub part_bits : (x k : ℕ) → bias f ≤ field f x → field f x + k ≡ bias f + f.frac → k ≤ f.frac
  part_bits x k l e = omega (arith, two_le)

  -- ---- toward zero: every bit behind the point is cut off
  pub shorter_all : (a : Attribute) (x : ℕ) → Pattern f x → way_of a (minus f x) ≡ shorter → field f x < bias f → whole_in f a x ≡ x - magnitude f x
  shorter_all a x p w h =
      let u = units f (magnitude f x) in
      let t = magnitude_fields f x in
      let r = fraction_small f x in
      let b = below_one_lem (magnitude f x) (omega (arith, times_le (2 ^ f.frac) h)) in
      let z : u / 2 ^ low f ≡ 0 = (div_is u (2 ^ low f) 0 u b (omega arith)).0 in
      let i = far (field f x) (omega arith) in
      let v = ap (λ d. whole d u (2 ^ low f)) w ∙ z in
      whole_in_at a x 0 (omega arith) (omega arith) (units_zero f ∙ omega (arith, times (2 ^ low f) v)) ∙ omega (arith, signed_is f x p)

  pub shorter_part : (a : Attribute) (x k : ℕ) → Pattern f x → way_of a (minus f x) ≡ shorter → bias f ≤ field f x → 1 ≤ k → field f x + k ≡ bias f + f.frac → whole_in f a x ≡ x / 2 ^ k * 2 ^ k
  shorter_part a x k p w h i e =
      part_cut a x k 0 p h i e (pow_pos k) (λ n t q. ap (λ d. whole d (n * t) (2 ^ k * t)) w ∙ shorter_scaled n (2 ^ k) t (pow_pos k) q)
      ∙ ap (λ n. n / 2 ^ k * 2 ^ k) (omega arith)
