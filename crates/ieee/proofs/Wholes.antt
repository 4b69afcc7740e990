-- trunc and floor are exact: each gives the one whole number of ones that its rule names. Assumes nothing.
use Prim.Native.Nat.{ℕ, suc, ◌+◌, ◌*◌, ◌/◌, ◌%◌, ◌^◌, ◌≤◌, ◌<◌}
use mathlib.Core.Path.{◌≡◌, refl, sym, ap, ◌∙◌}
use mathlib.Core.Bool.{Bool, true, false}
use native.Mathlib.Nat.{one-mul}
use native.Mathlib.Omega.{arith}
use lib.Dec.{lt→ltb, le→leb}
use lib.Pow.{pow_pos}
use lib.IntN.{ℤ, pos, neg_ℤ, ◌+ℤ◌, ◌*ℤ◌}
use lib.Signed.{◌≤ℤ◌, ◌<ℤ◌}
use borrow.Author.Tests.{eq-eqb, ne_eqb}
use Rattle.algebra.proofs.Products.{times, mul_lt_cancel}
use Rattle.algebra.proofs.Quotients.{div_mod, div_is}
use Rattle.algebra.proofs.Integers.{up, dn, add_z, neg_z, times_z, eq_z, le_z_fact, lt_z_fact, le_z_of, lt_z_of}
use Rattle.ieee.specs.Format.{Format, Fair, low, units}
use Rattle.ieee.specs.Pattern.{Pattern, minus, magnitude, signed, Kind, nan, infinite, finite, kind, with_sign, value}
use Rattle.ieee.specs.Round.{shorter, longer, Attribute, toward_zero, toward_negative, way_of}
use Rattle.ieee.specs.Whole.{whole, whole_in, trunc_of, floor_of}
use Rattle.ieee.specs.WholeRule.{Truncated, Floored, WholeRows, FloorRows}
use Rattle.ieee.proofs.Units.{units_inj}
use Rattle.ieee.proofs.Decide.{split, eqb_reads}
use Rattle.ieee.proofs.Patterns.{same_pattern, finite_is, value_is}
use Rattle.ieee.proofs.Signs.{signed_times, value_tells}
use Rattle.ieee.proofs.WholeParts.{whole_multiple, sent_value, whole_in_sent, whole_in_none, nan_canonical, infinity_stays, zero_stays, whole_pattern}

-- ---- trunc
pub trunc_is : (f : Format) → Fair f → (x u : ℕ) → kind f x ≡ finite u → Truncated f x (trunc_of f x)
unfolding trunc_of
trunc_is f g x u h =
    let s = whole_in_sent f toward_zero g x u h in
    let d = div_mod (units f (magnitude f x)) (2 ^ low f) (pow_pos (low f)) in
    record {
      k = units f (magnitude f x) / 2 ^ low f;
      pattern = s.pattern;
      finite = s.finite;
      counts = s.counts;
      least = omega arith;
      most = omega arith;
      sign = s.sign;
    }

quotient_only : (n d k l : ℕ) → k * d ≤ n → n < suc k * d → l * d ≤ n → n < suc l * d → k ≡ l
quotient_only n d k l a b c e =
    let p = mul_lt_cancel k (suc l) d (omega arith) in
    let q = mul_lt_cancel l (suc k) d (omega arith) in
    omega arith

pub trunc_only : (f : Format) (x r q : ℕ) → Truncated f x r → Truncated f x q → r ≡ q
trunc_only f x r q a b =
    let k = quotient_only (units f (magnitude f x)) (2 ^ low f) a.k b.k a.least a.most b.least b.most in
    let u = units_inj f (magnitude f r) (magnitude f q) (a.counts ∙ ap (λ n. n * 2 ^ low f) k ∙ sym b.counts) in
    same_pattern f r q a.pattern b.pattern (a.sign ∙ sym b.sign) u

-- ---- floor: signed numbers, by their magnitudes
pub longer_sides : (n d : ℕ) → 0 < d → (n ≤ whole longer n d * d) × (whole longer n d * d < n + d)
longer_sides n d p =
    let m = div_mod n d p in
    split (eqb_reads (n % d) 0)
    (λ e. rw (eq-eqb (n % d) 0 e) (omega arith, omega arith))
    (λ e. rw (ne_eqb (n % d) 0 e) (omega arith, omega arith))

-- below zero an order turns round: -k * d ≤ -n < (-k + 1) * d
minus_least : (n k d : ℕ) → n ≤ k * d → (neg_ℤ (pos k) *ℤ pos d) ≤ℤ neg_ℤ (pos n)
minus_least n k d h = rw (signed_times true k d) (record { le = le_z_of (neg_ℤ (pos (k * d))) (neg_ℤ (pos n)) (omega (arith, neg_z (pos (k * d)), neg_z (pos n))) })

minus_most : (n k d : ℕ) → k * d < n + d → neg_ℤ (pos n) <ℤ ((neg_ℤ (pos k) +ℤ pos 1) *ℤ pos d)
minus_most n k d h =
    let m = neg_ℤ (pos k) +ℤ pos 1 in
    let (u, v) = neg_z (pos k) in
    record { lt = lt_z_of (neg_ℤ (pos n)) (m *ℤ pos d) (omega (arith, neg_z (pos n), times_z m d, times d (add_z (neg_ℤ (pos k)) (pos 1)), times d u, times d v)) }

-- what an attribute sends a number to, as a signed number of ones
pub sent_counts : (f : Format) (a : Attribute) → Fair f → (x u : ℕ) → kind f x ≡ finite u
    → value f (whole_in f a x) ≡ with_sign (minus f x) (whole (way_of a (minus f x)) (units f (magnitude f x)) (2 ^ low f)) *ℤ pos (2 ^ low f)
sent_counts f a g x u h =
    sent_value f (way_of a (minus f x)) x (whole_in f a x) (whole_in_sent f a g x u h) ∙ sym (signed_times (minus f x) (whole (way_of a (minus f x)) (units f (magnitude f x)) (2 ^ low f)) (2 ^ low f))

-- floor sends a positive number toward zero, and a negative one away from it
floor_least : (s : Bool) (n d : ℕ) → 0 < d → (with_sign s (whole (way_of toward_negative s) n d) *ℤ pos d) ≤ℤ with_sign s n
floor_least false n d p = record { le = le→leb (n / d * d) n (omega (arith, div_mod n d p)) }
floor_least true n d p = minus_least n (whole longer n d) d (longer_sides n d p).0

floor_most : (s : Bool) (n d : ℕ) → 0 < d → with_sign s n <ℤ ((with_sign s (whole (way_of toward_negative s) n d) +ℤ pos 1) *ℤ pos d)
floor_most false n d p = record { lt = lt→ltb n ((n / d + 1) * d) (omega (arith, div_mod n d p)) }
floor_most true n d p = minus_most n (whole longer n d) d (longer_sides n d p).1

pub floor_is : (f : Format) → Fair f → (x u : ℕ) → kind f x ≡ finite u → Floored f x (floor_of f x)
unfolding floor_of
floor_is f g x u h =
    let s = whole_in_sent f toward_negative g x u h in
    let k = whole (way_of toward_negative (minus f x)) (units f (magnitude f x)) (2 ^ low f) in
    record {
      k = with_sign (minus f x) k;
      pattern = s.pattern;
      finite = s.finite;
      counts = sent_counts f toward_negative g x u h;
      least = rw (value_is f x) (floor_least (minus f x) (units f (magnitude f x)) (2 ^ low f) (pow_pos (low f)));
      most = rw (value_is f x) (floor_most (minus f x) (units f (magnitude f x)) (2 ^ low f) (pow_pos (low f)));
      sign = s.sign;
    }

-- k ≤ z < l + 1 puts k at most at l
floor_below : (d : ℕ) (z k l : ℤ) → (k *ℤ pos d) ≤ℤ z → z <ℤ ((l +ℤ pos 1) *ℤ pos d) → up k + dn l ≤ up l + dn k
floor_below d z k l a b =
    let m = l +ℤ pos 1 in
    let h = mul_lt_cancel (up k + dn m) (up m + dn k) d (omega (arith, le_z_fact (k *ℤ pos d) z a.le, lt_z_fact z (m *ℤ pos d) b.lt, times_z k d, times_z m d)) in
    omega (arith, add_z l (pos 1))

pub value_only : (f : Format) (r q : ℕ) → Pattern f r → Pattern f q → minus f r ≡ minus f q → value f r ≡ value f q → r ≡ q
value_only f r q a b s e = same_pattern f r q a b s (value_tells f r q e).0

pub floor_only : (f : Format) (x r q : ℕ) → Floored f x r → Floored f x q → r ≡ q
floor_only f x r q a b =
    let i = floor_below (2 ^ low f) (value f x) a.k b.k a.least b.most in
    let j = floor_below (2 ^ low f) (value f x) b.k a.k b.least a.most in
    let k = eq_z a.k b.k (omega arith) in
    value_only f r q a.pattern b.pattern (a.sign ∙ sym b.sign) (a.counts ∙ ap (λ n. n *ℤ pos (2 ^ low f)) k ∙ sym b.counts)

pub whole_in_rows : (f : Format) (a : Attribute) → WholeRows f (whole_in f a)
whole_in_rows f a = record { of_nan = nan_canonical f a; of_infinity = infinity_stays f a; of_zero = zero_stays f a }

pub trunc_rows : (f : Format) → WholeRows f (trunc_of f)
unfolding trunc_of
trunc_rows f = whole_in_rows f toward_zero

-- every answer is a pattern
pub trunc_pattern : (f : Format) → Fair f → (x : ℕ) → Pattern f x → Pattern f (trunc_of f x)
unfolding trunc_of
trunc_pattern f g x p = whole_pattern f toward_zero g x p

pub floor_pattern : (f : Format) → Fair f → (x : ℕ) → Pattern f x → Pattern f (floor_of f x)
unfolding floor_of
floor_pattern f g x p = whole_pattern f toward_negative g x p

-- ---- between -1 and 1: toward zero a zero, and away from it a one
pub longer_one : (n d : ℕ) → 0 < n → n < d → whole longer n d ≡ 1
longer_one n d p l =
    let s = longer_sides n d (omega arith) in
    let a = mul_lt_cancel 0 (whole longer n d) d (omega arith) in
    let b = mul_lt_cancel (whole longer n d) 2 d (omega arith) in
    omega arith

module _ (f : Format) (a : Attribute) (x u : ℕ) (h : kind f x ≡ finite u) (l : u < 2 ^ low f) where
  pub toward_zero_none : (t : Bool) → minus f x ≡ t → way_of a t ≡ shorter → whole_in f a x ≡ signed f t 0
  toward_zero_none t s w =
      let e = ap (λ c. whole c u (2 ^ low f)) (ap (way_of a) s ∙ w) ∙ (div_is u (2 ^ low f) 0 u l (omega arith)).0 in
      whole_in_none f a x u h e ∙ ap (λ t. signed f t 0) s

  pub away_one : Fair f → 0 < u → (t : Bool) → minus f x ≡ t → way_of a t ≡ longer → value f (whole_in f a x) ≡ with_sign t (2 ^ low f)
  away_one g p t s w =
      let v = sent_value f (way_of a (minus f x)) x (whole_in f a x) (whole_in_sent f a g x u h) in
      let y = ap (way_of a) s ∙ w in
      let e = (finite_is f x u h).counts in
      let o = times (2 ^ low f) (longer_one u (2 ^ low f) p l) ∙ one-mul (2 ^ low f) in
      v ∙ (λ i. with_sign (s i) (whole (y i) (e i) (2 ^ low f) * 2 ^ low f)) ∙ ap (with_sign t) o

pub floor_rows : (f : Format) → Fair f → FloorRows f (floor_of f)
unfolding floor_of
floor_rows f g =
    record {
      rows = whole_in_rows f toward_negative;
      above_zero = λ x u h l s. toward_zero_none f toward_negative x u h l false s refl;
      below_zero = λ x u h p l s. away_one f toward_negative x u h l g p true s refl;
    }

-- ---- what stays under one attribute stays under every other
module _ (f : Format) (g : Fair f) (a b : Attribute) (x : ℕ) (p : Pattern f x) where
  stays_by : (k : Kind) → kind f x ≡ k → whole_in f a x ≡ x → whole_in f b x ≡ x
  stays_by nan h e = nan_canonical f b x h ∙ sym (nan_canonical f a x h) ∙ e
  stays_by infinite h e = infinity_stays f b x h
  stays_by (finite u) h e =
      let s = whole_in_sent f a g x u h in
      let t = whole_in_sent f b g x u h in
      let n = units f (magnitude f x) in
      let d = 2 ^ low f in
      let k = whole (way_of a (minus f x)) n d in
      let c : n ≡ k * d = ap (λ r. units f (magnitude f r)) (sym e) ∙ s.counts in
      let w : whole (way_of b (minus f x)) n d ≡ k = ap (λ m. whole (way_of b (minus f x)) m d) c ∙ whole_multiple (way_of b (minus f x)) k d (pow_pos (low f)) in
      let u = units_inj f (magnitude f (whole_in f b x)) (magnitude f x) (t.counts ∙ times d w ∙ sym c) in
      same_pattern f (whole_in f b x) x t.pattern p t.sign u

  pub stays_alike : whole_in f a x ≡ x → whole_in f b x ≡ x
  stays_alike e = stays_by (kind f x) refl e
