-- A number rounded to a whole number, whatever the way, is held by the format. Assumes nothing.
use Prim.Native.Nat.{ℕ, zero, suc, ◌+◌, ◌-◌, ◌*◌, ◌/◌, ◌%◌, ◌^◌, ◌≤◌, ◌<◌}
use mathlib.Core.Path.{◌≡◌, refl, sym, ap, ◌∙◌}
use mathlib.Core.Bool.{Bool, true, false, ◌&&◌, ◌||◌, cond}
use native.Mathlib.Nat.{zero-mul, two-pow-succ, mod-lt}
use native.Mathlib.Omega.{arith}
use lib.Dec.{leb, ltb, eqb}
use lib.Pow.{pow-add, pow_pos, pow_mono, pow-lt}
use borrow.Author.Tests.{le-ltb, lt-leb, eq-eqb, ne_eqb}
use Rattle.algebra.proofs.Products.{order, times, times_le, mul_lt_cancel}
use Rattle.algebra.proofs.Quotients.{div_mod, div_is}
use Rattle.algebra.proofs.Powers.{pow_diff}
use Rattle.ieee.specs.Format.{Format, Fair, top, low, inf, canonical, units, fields}
use Rattle.ieee.specs.Pattern.{Pattern, minus, magnitude, signed, Kind, nan, infinite, finite, kind, with_sign, value}
use Rattle.ieee.specs.Round.{Way, even, away, shorter, longer, Attribute, way_of, exactly}
use Rattle.ieee.specs.Whole.{whole, whole_by, whole_in}
use Rattle.ieee.proofs.Units.{units_is, units_zero, units_lt_inv, units_inf}
use Rattle.ieee.proofs.Patterns.{inf_below_top, canonical_pattern, magnitude_signed, minus_signed, pattern_signed, finite_is, zero_is, value_is}
use Rattle.ieee.proofs.Fixed.{fixed_whole}
use Rattle.ieee.proofs.Held.{held}

-- ---- the ways of a quotient: at most one more, and a multiple is unchanged
one_more : (q : ℕ) (b : Bool) → q + cond b 1 0 ≤ q + 1
one_more q true = omega arith
one_more q false = omega arith

one_more_not : (q : ℕ) (b : Bool) → q + cond b 0 1 ≤ q + 1
one_more_not q true = omega arith
one_more_not q false = omega arith

whole_most : (w : Way) (n d : ℕ) → whole w n d ≤ n / d + 1
whole_most even n d = one_more (n / d) (ltb d (2 * (n % d)) || (eqb (2 * (n % d)) d && eqb (n / d % 2) 1))
whole_most away n d = one_more (n / d) (leb d (2 * (n % d)))
whole_most shorter n d = omega arith
whole_most longer n d = one_more_not (n / d) (eqb (n % d) 0)

whole_stays : (w : Way) (n d : ℕ) → 0 < d → n % d ≡ 0 → whole w n d ≡ n / d
whole_stays even n d p e = rw (le-ltb d (2 * (n % d)) (omega arith), ne_eqb (2 * (n % d)) d (λ h. omega arith)) (omega arith)
whole_stays away n d p e = rw (lt-leb d (2 * (n % d)) (omega arith)) (omega arith)
whole_stays shorter n d p e = refl
whole_stays longer n d p e = rw (eq-eqb (n % d) 0 e) (omega arith)

pub whole_multiple : (w : Way) (k d : ℕ) → 0 < d → whole w (k * d) d ≡ k
whole_multiple w k d p = let (q, r) = div_is (k * d) d k 0 p (omega arith) in whole_stays w (k * d) d p r ∙ q

whole_small : (w : Way) (n d h : ℕ) → 0 < d → n < h * d → whole w n d ≤ h
whole_small w n d h p l =
    let q = mul_lt_cancel (n / d) h d (omega (arith, div_mod n d p)) in
    omega (arith, whole_most w n d)

-- ---- the numbers of a format: below 2 ^ frac, or whole
module _ (f : Format) where
  fields_small_or_whole : (q t : ℕ) {G : Type 0} → t < 2 ^ f.frac →
      (fields (2 ^ f.frac) q t < 2 ^ f.frac * 2 ^ low f → G) → ((k : ℕ) → fields (2 ^ f.frac) q t ≡ k * 2 ^ low f → G) → G
  fields_small_or_whole zero t l a b = let s : t < 2 ^ f.frac * 2 ^ low f = omega (arith, times_le (2 ^ f.frac) (pow_pos (low f))) in a s
  fields_small_or_whole (suc e) t l a b =
      order (low f) e
      (λ h. b ((2 ^ f.frac + t) * 2 ^ (e - low f)) (omega (arith, times (2 ^ f.frac + t) (pow_diff h))))
      (λ h.
      let d : 2 ^ f.frac + t < 2 * 2 ^ f.frac = omega arith in
      let s : (2 ^ f.frac + t) * 2 ^ e < 2 ^ f.frac * 2 ^ low f =
      omega (arith, pow_pos e, times_le (2 ^ e) d, times (2 ^ f.frac) (two-pow-succ e), times_le (2 ^ f.frac) (pow_mono h)) in
      a s)

  small_or_whole : (m : ℕ) {G : Type 0} → (units f m < 2 ^ f.frac * 2 ^ low f → G) → ((k : ℕ) → units f m ≡ k * 2 ^ low f → G) → G
  small_or_whole m = rw (units_is f m) (fields_small_or_whole (m / 2 ^ f.frac) (m % 2 ^ f.frac) (mod-lt m (pow_pos f.frac)))

  -- 2 ^ frac is below infinity
  pub ones_below_infinity : Fair f → 2 ^ f.frac * 2 ^ low f < units f (inf f)
  ones_below_infinity g =
      let d = pow_diff {a = f.expo} {b = 1} (omega (arith, g.expo_two)) in
      let t = pow_mono {i = 1} {j = f.expo - 1} (omega (arith, g.expo_two)) in
      let l : f.frac + low f < f.frac + (2 ^ f.expo - 2) = omega (arith, g.frac_fits) in
      omega (arith, units_inf f g, pow-add 2 f.frac (low f), pow-lt l)

  -- a finite number rounded to a whole number, whatever the way, is held
  whole_held : Fair f → (w : Way) (m : ℕ) → m < inf f → (n : ℕ) × (n < inf f) × (units f n ≡ whole w (units f m) (2 ^ low f) * 2 ^ low f)
  whole_held g w m l =
      small_or_whole m
      (λ h.
      let b = whole_small w (units f m) (2 ^ low f) (2 ^ f.frac) (pow_pos (low f)) h in
      let (n, e) = held f (low f) (whole w (units f m) (2 ^ low f)) (omega (arith, pow_pos f.frac)) in
      (n, units_lt_inv f n (inf f) (omega (arith, times_le (2 ^ low f) b, ones_below_infinity g)), e))
      (λ k e. (m, l, e ∙ times (2 ^ low f) (sym (ap (λ u. whole w u (2 ^ low f)) e ∙ whole_multiple w k (2 ^ low f) (pow_pos (low f))))))

-- r is x with its magnitude rounded in the way w to a whole number, exactly
pub record Sent (f : Format) (w : Way) (x r : ℕ) : Type 0 where
  pub pattern : Pattern f r
  pub finite : magnitude f r < inf f
  pub counts : units f (magnitude f r) ≡ whole w (units f (magnitude f x)) (2 ^ low f) * 2 ^ low f
  pub sign : minus f r ≡ minus f x

signed_sent : (f : Format) (w : Way) (x n : ℕ) → n < inf f → units f n ≡ whole w (units f (magnitude f x)) (2 ^ low f) * 2 ^ low f →
    Sent f w x (signed f (minus f x) n)
signed_sent f w x n l e =
    let t : n < top f = omega (arith, inf_below_top f) in
    let s = magnitude_signed f (minus f x) n t in
    record {
      pattern = pattern_signed f (minus f x) n t;
      finite = omega arith;
      counts = ap (units f) s ∙ e;
      sign = minus_signed f (minus f x) n t;
    }

pub sent_value : (f : Format) (w : Way) (x r : ℕ) → Sent f w x r → value f r ≡ with_sign (minus f x) (whole w (units f (magnitude f x)) (2 ^ low f) * 2 ^ low f)
sent_value f w x r s = value_is f r ∙ (λ i. with_sign (s.sign i) (s.counts i))

-- ---- the operations, under every attribute
module _ (f : Format) (a : Attribute) where
  pub whole_in_finite : (x u : ℕ) → kind f x ≡ finite u → whole_in f a x ≡ signed f (minus f x) (exactly f (whole (way_of a (minus f x)) u (2 ^ low f) * 2 ^ low f))
  unfolding whole_in whole_by
  whole_in_finite x u h = rw h

  pub whole_in_sent : Fair f → (x u : ℕ) → kind f x ≡ finite u → Sent f (way_of a (minus f x)) x (whole_in f a x)
  whole_in_sent g x u h =
      let i = finite_is f x u h in
      let (n, l, e) = whole_held f g (way_of a (minus f x)) (magnitude f x) i.below in
      let k = ap (λ v. whole (way_of a (minus f x)) v (2 ^ low f) * 2 ^ low f) (sym i.counts) ∙ sym e in
      let q = ap (exactly f) k ∙ fixed_whole f even n (omega arith) in
      rw (whole_in_finite x u h, q) (signed_sent f (way_of a (minus f x)) x n l e)

  pub whole_in_none : (x u : ℕ) → kind f x ≡ finite u → whole (way_of a (minus f x)) u (2 ^ low f) ≡ 0 → whole_in f a x ≡ signed f (minus f x) 0
  whole_in_none x u h e =
      let k = times (2 ^ low f) e ∙ zero-mul (2 ^ low f) ∙ sym (units_zero f) in
      whole_in_finite x u h ∙ ap (signed f (minus f x)) (ap (exactly f) k ∙ fixed_whole f even 0 (omega arith))

  pub nan_canonical : (x : ℕ) → kind f x ≡ nan → whole_in f a x ≡ canonical f
  unfolding whole_in whole_by
  nan_canonical x h = rw h

  pub infinity_stays : (x : ℕ) → kind f x ≡ infinite → whole_in f a x ≡ x
  unfolding whole_in whole_by
  infinity_stays x h = rw h

  pub zero_stays : (x : ℕ) → Pattern f x → kind f x ≡ finite 0 → whole_in f a x ≡ x
  zero_stays x p h =
      let w = way_of a (minus f x) in
      let e = ap (λ n. whole w n (2 ^ low f)) (sym (zero-mul (2 ^ low f))) ∙ whole_multiple w 0 (2 ^ low f) (pow_pos (low f)) in
      whole_in_none x 0 h e ∙ zero_is f x p h

  -- every answer is a pattern
  pub whole_pattern : Fair f → (x : ℕ) → Pattern f x → Pattern f (whole_in f a x)
  whole_pattern g x p = go (kind f x) refl
    where
      go : (k : Kind) → kind f x ≡ k → Pattern f (whole_in f a x)
      go nan h = rw (nan_canonical x h) (canonical_pattern f)
      go infinite h = rw (infinity_stays x h) p
      go (finite u) h = (whole_in_sent g x u h).pattern
