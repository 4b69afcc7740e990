-- Answers toward positive and toward negative, over the direction: the rule for answers is the rule for magnitudes. Assumes nothing.
use Prim.Native.Nat.{ℕ, zero, suc, ◌*◌, ◌^◌, ◌≤◌, ◌<◌}
use mathlib.Core.Path.{◌≡◌, refl, sym, ap, ◌∙◌, subst, subst₂}
use mathlib.Core.Logic.{◌↔◌}
use mathlib.Core.Bool.{Bool, true, false, not}
use native.Mathlib.Omega.{arith, by_contra}
use lib.Pow.{pow_pos}
use lib.IntN.{ℤ, pos, neg_ℤ, nat_abs, ◌*ℤ◌}
use Rattle.algebra.proofs.Products.{mul_le_cancel}
use Rattle.algebra.proofs.Roots.{sq_le}
use Rattle.algebra.proofs.Integers.{neg_z, le_z_fact, le_z_of}
use Rattle.ieee.specs.Format.{Format, top, inf, units}
use Rattle.ieee.specs.Pattern.{Pattern, minus, magnitude, signed, with_sign, value}
use Rattle.ieee.specs.Exact.{Value, dyadic, surd, sign_of, absolute, Over, Under}
use Rattle.ieee.specs.Rule.{Toward, Outward, Before, Bound, Directed}
use Rattle.ieee.proofs.Units.{units_mono, units_le_inv}
use Rattle.ieee.proofs.Patterns.{inf_below_top, magnitude_signed, pattern_signed, value_with, value_signed}
use Rattle.ieee.proofs.Signs.{by_sign, signed_zero, signed_abs, signed_times}

-- ---- the order of whole numbers, up or down
-- numbers of one sign: away from zero their order is that of the magnitudes, toward zero the reverse
before_like : (t : Bool) (a b : ℕ) → Before t (with_sign t a) (with_sign t b) ↔ (a ≤ b)
before_like false a b = (λ h. omega (arith, le_z_fact (pos a) (pos b) h.le), λ h. record { le = le_z_of (pos a) (pos b) (omega arith) })
before_like true a b = (
  λ h. omega (arith, le_z_fact (neg_ℤ (pos b)) (neg_ℤ (pos a)) h.le, neg_z (pos a), neg_z (pos b)),
  λ h. record { le = le_z_of (neg_ℤ (pos b)) (neg_ℤ (pos a)) (omega (arith, neg_z (pos a), neg_z (pos b))) },
)

after_like : (t : Bool) (a b : ℕ) → Before (not t) (with_sign t a) (with_sign t b) ↔ (b ≤ a)
after_like false a b = before_like false b a
after_like true a b = before_like true b a

-- numbers of unlike signs: away from zero, one of the other sign comes later only as zero; toward zero it always does
before_unlike : (t : Bool) (a b : ℕ) → Before t (with_sign t a) (with_sign (not t) b) → b ≤ 0
before_unlike false a b h = omega (arith, le_z_fact (pos a) (neg_ℤ (pos b)) h.le, neg_z (pos b))
before_unlike true a b h = omega (arith, le_z_fact (pos b) (neg_ℤ (pos a)) h.le, neg_z (pos a))

after_unlike : (t : Bool) (a b : ℕ) → Before (not t) (with_sign t a) (with_sign (not t) b)
after_unlike false a b = record { le = le_z_of (neg_ℤ (pos b)) (pos a) (omega (arith, neg_z (pos b))) }
after_unlike true a b = record { le = le_z_of (neg_ℤ (pos a)) (pos b) (omega (arith, neg_z (pos a))) }

-- ---- a whole number that an exact value does not pass, up or down
bound_before : (d : Bool) (z : ℤ) (k : ℕ) (u : ℤ) → Bound d (dyadic z k) u ↔ Before d z (u *ℤ pos (2 ^ k))
bound_before false z k u = (λ h. h, λ h. h)
bound_before true z k u = (λ h. h, λ h. h)

-- the same with the sign of z taken out
bound_signed : (d s b : Bool) (z : ℤ) (k u : ℕ) → Bound d (dyadic z k) (with_sign b u) ↔ Before d (with_sign (sign_of s (dyadic z k)) (nat_abs z)) (with_sign b (u * 2 ^ k))
bound_signed d s b z k u = (
  λ h. subst₂ (Before d) (sym (signed_abs s z k)) (signed_times b u (2 ^ k)) ((bound_before d z k (with_sign b u)).0 h),
  λ h. (bound_before d z k (with_sign b u)).1 (subst₂ (Before d) (signed_abs s z k) (sym (signed_times b u (2 ^ k))) h),
)

-- a number of the value's sign bounds it away from zero where its magnitude is at least the value's
bound_away : (s : Bool) (v : Value) (u : ℕ) → Bound (sign_of s v) v (with_sign (sign_of s v) u) ↔ Under (absolute v) (2 * u)
bound_away s (dyadic z k) u =
    let t = sign_of s (dyadic z k) in
    let (to, from) = bound_signed t s t z k u in
    let (le, of) = before_like t (nat_abs z) (u * 2 ^ k) in
    (λ h. omega (arith, le (to h)), λ h. from (of (omega arith)))
bound_away false (surd zero) u = (λ h. omega arith, λ h. omega arith)
bound_away true (surd zero) zero = (λ h. omega arith, λ h. omega arith)
bound_away true (surd zero) (suc u) = (λ h. omega arith, λ h. tt)
bound_away s (surd (suc n)) u = (λ h. omega arith, λ h. omega arith)

-- and toward zero where its magnitude is at most the value's
bound_toward : (s : Bool) (v : Value) (u : ℕ) → Bound (not (sign_of s v)) v (with_sign (sign_of s v) u) ↔ Over (absolute v) (2 * u)
bound_toward s (dyadic z k) u =
    let t = sign_of s (dyadic z k) in
    let (to, from) = bound_signed (not t) s t z k u in
    let (le, of) = after_like t (nat_abs z) (u * 2 ^ k) in
    (λ h. omega (arith, le (to h)), λ h. from (of (omega arith)))
bound_toward false (surd zero) u = (λ h. omega arith, λ h. omega arith)
bound_toward true (surd zero) zero = (λ h. omega arith, λ h. omega arith)
bound_toward true (surd zero) (suc u) = (λ h. absurd h, λ h. omega arith)
bound_toward s (surd (suc n)) u = (λ h. omega arith, λ h. omega arith)

-- a number of the other sign bounds it away from zero only as zero
bound_unlike : (s : Bool) (v : Value) (w : ℕ) → Bound (sign_of s v) v (with_sign (not (sign_of s v)) w) → w ≡ 0
bound_unlike s (dyadic z k) w h =
    let t = sign_of s (dyadic z k) in
    let l : w * 2 ^ k ≤ 0 * 2 ^ k = omega (arith, before_unlike t (nat_abs z) (w * 2 ^ k) ((bound_signed t s (not t) z k w).0 h)) in
    omega (arith, mul_le_cancel w 0 (2 ^ k) (pow_pos k) l)
bound_unlike false (surd zero) zero h = refl
bound_unlike false (surd zero) (suc w) h = absurd h
bound_unlike true (surd zero) w h = omega (arith, sq_le w 0 (omega arith))
bound_unlike s (surd (suc n)) zero h = refl
bound_unlike s (surd (suc n)) (suc w) h = absurd h

-- ---- the first number that the value does not pass, or the infinity there
not_opposite : (t : Bool) → t ≡ not t → ⊥
not_opposite true e = let z : ◌≡◌ {A = ℕ} 0 1 = cc in omega arith
not_opposite false e = let z : ◌≡◌ {A = ℕ} 0 1 = cc in omega arith

module _ (f : Format) (s : Bool) (v : Value) where
  -- the value's sign
  abbrev t : Bool
  t = sign_of s v

  -- a number that bounds the value away from zero has the value's sign, or is zero
  value_away : (q : ℕ) → Bound t v (value f q) → value f q ≡ with_sign t (units f (magnitude f q))
  value_away q h =
      by_sign (minus f q) t (value_with f q t) (λ e.
      let w = value_with f q (not t) e in
      let n = bound_unlike s v (units f (magnitude f q)) (subst (Bound t v) w h) in
      w ∙ ap (with_sign (not t)) n ∙ signed_zero (not t) ∙ sym (signed_zero t) ∙ ap (with_sign t) (sym n))

  module _ (r : ℕ) (p : Pattern f r) (e : minus f r ≡ t) where
    -- the units of its magnitude
    abbrev u : ℕ
    u = units f (magnitude f r)

    value_r : value f r ≡ with_sign t u
    value_r = value_with f r t e

    -- away from zero: the least magnitude that is at least the value's is the first that bounds the value
    away_first : Outward f (absolute v) (magnitude f r) → (q : ℕ) → magnitude f q < inf f → Bound t v (value f q) → (magnitude f r < inf f) × Before t (value f r) (value f q)
    away_first o q h b =
        let w = value_away q b in
        let l = o.least (magnitude f q) h ((bound_away s v (units f (magnitude f q))).0 (subst (Bound t v) w b)) in
        (omega arith, subst₂ (Before t) (sym value_r) (sym w) ((before_like t u (units f (magnitude f q))).1 (units_mono f l)))

    pub outward_directed : Outward f (absolute v) (magnitude f r) → Directed f t s v r
    outward_directed o =
        record {
          pattern = p;
          within = o.within;
          sign = e;
          bounds = λ l. subst (Bound t v) (sym value_r) ((bound_away s v u).1 (o.high l));
          first = λ q _ h b. away_first o q h b;
          infinity = λ _. e;
        }

    -- toward zero: so is the greatest magnitude that is at most the value's; numbers of the other sign come after it
    toward_first : Toward f (absolute v) (magnitude f r) → (q : ℕ) → magnitude f q < inf f → Bound (not t) v (value f q) → Before (not t) (value f r) (value f q)
    toward_first o q h b =
        let n = units f (magnitude f q) in
        by_sign (minus f q) t
        (λ i.
        let w = value_with f q t i in
        let l = o.most (magnitude f q) h ((bound_toward s v n).0 (subst (Bound (not t) v) w b)) in
        subst₂ (Before (not t)) (sym value_r) (sym w) ((after_like t u n).1 (units_mono f l)))
        (λ i. subst₂ (Before (not t)) (sym value_r) (sym (value_with f q (not t) i)) (after_unlike t u n))

    pub toward_directed : Toward f (absolute v) (magnitude f r) → Directed f (not t) s v r
    toward_directed o =
        record {
          pattern = p;
          within = omega (arith, o.finite);
          sign = e;
          bounds = λ _. subst (Bound (not t) v) (sym value_r) ((bound_toward s v u).1 o.low);
          first = λ q _ h b. (o.finite, toward_first o q h b);
          infinity = λ i. absurd (omega (arith, o.finite));
        }

    -- the converse, by numbers of the value's sign
    module _ (d : Bool) (c : Directed f d s v r) where
      bounds_at : magnitude f r < inf f → Bound d v (with_sign t u)
      bounds_at l = subst (Bound d v) value_r (c.bounds l)

      first_at : (k : ℕ) → k < inf f → Bound d v (with_sign t (units f k)) → (magnitude f r < inf f) × Before d (with_sign t u) (with_sign t (units f k))
      first_at k h b =
          let l : k < top f = omega (arith, inf_below_top f) in
          let w = value_signed f t k l in
          let (i, o) = c.first (signed f t k) (pattern_signed f t k l) (rw (magnitude_signed f t k l) h) (subst (Bound d v) (sym w) b) in
          (i, subst₂ (Before d) value_r w o)

    pub directed_outward : Directed f t s v r → Outward f (absolute v) (magnitude f r)
    directed_outward c =
        record {
          within = c.within;
          high = λ l. (bound_away s v u).0 (bounds_at t c l);
          least = λ k h b. units_le_inv f (magnitude f r) k ((before_like t u (units f k)).0 (first_at t c k h ((bound_away s v (units f k)).1 b)).1);
        }

    pub directed_toward : Directed f (not t) s v r → Toward f (absolute v) (magnitude f r)
    directed_toward c =
        let l : magnitude f r < inf f = by_contra (suc (magnitude f r)) (inf f) (λ h. not_opposite t (sym e ∙ c.infinity (omega (arith, c.within)))) in
        record {
          finite = l;
          low = (bound_toward s v u).0 (bounds_at (not t) c l);
          most = λ k h b. units_le_inv f k (magnitude f r) ((after_like t u (units f k)).0 (first_at (not t) c k h ((bound_toward s v (units f k)).1 b)).1);
        }
