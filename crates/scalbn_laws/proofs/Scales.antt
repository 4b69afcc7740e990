-- scalbn by the exponent field and the fraction of x: the rows, from one normal number to another, and through the rounding step. Assumes nothing.
use Prim.Native.Nat.{ℕ, suc, ◌+◌, ◌-◌, ◌*◌, ◌/◌, ◌%◌, ◌^◌, ◌≤◌, ◌<◌, min}
use mathlib.Core.Path.{◌≡◌, refl, sym, ap, ◌∙◌, subst}
use mathlib.Core.Bool.{Bool, true, false, cond}
use native.Mathlib.Nat.{two-pow-succ}
use native.Mathlib.Omega.{arith}
use lib.Arith.{digits_lt}
use lib.Pow.{pow-add, pow_pos, pow_mono}
use lib.Dec.{eqb}
use lib.IntN.{ℤ, pos, negsuc, ◌+ℤ◌}
use borrow.Author.Tests.{eq-eqb, ne_eqb}
use Rattle.algebra.proofs.Products.{order, times, times_le}
use Rattle.algebra.proofs.Quotients.{div_mod}
use Rattle.algebra.proofs.Integers.{up, dn, add_z, eq_z, eq_z_fact}
use Rattle.ieee.specs.Format.{Format, Fair, inf, units, top, canonical}
use Rattle.ieee.specs.Pattern.{Pattern, Kind, kind, minus, magnitude, field, fraction, signed}
use Rattle.ieee.specs.Exact.{Exact, ratio, sign_of, absolute}
use Rattle.ieee.specs.Round.{Attribute, way_of}
use Rattle.ieee.specs.Flags.{none, nan_flags, signals, raised}
use Rattle.ieee.specs.Scalbn.{scaled, reach, clamp, scalbn_by, scalbn_in, scalbn_flags_by, scalbn_flags_in}
use Rattle.ieee.proofs.Units.{units_at_lem, units_lt}
use Rattle.ieee.proofs.Patterns.{signed_is}
use Rattle.ieee.proofs.Fields.{magnitude_fields, fraction_small, units_of_fields, field_finite, kind_by_field, infinite_by_field, nan_by_field}
use Rattle.ieee.proofs.Decide.{split, eqb_reads}
use Rattle.ieee.proofs.Exacts.{sign_own, answer_held}
use Rattle.ieee.proofs.Signs.{abs_signed}
use Rattle.ieee.proofs.Raised.{Same, same_rounded, exactly_same, raised_rule}
use Rattle.ieee.proofs.Signals.{infinite_silent}
use Rattle.ieee.proofs.Scalbns.{clamp_alike}
use Rattle.ieee.proofs.ScalbnFlags.{clamp_flags}
use Rattle.fmt_fields.specs.Width.{Fits}
use Rattle.round_step.specs.Outcome.{outcome}
use Rattle.round_step.proofs.Outcomes.{scaled_outcome, moved_outcome}
use Rattle.round_laws.specs.Location.{part, high_part, stretched, inside_at}
use Rattle.round_laws.proofs.Locations.{Lies, locate_over, locate_subnormal}
use Rattle.round_laws.proofs.Parts.{all_gone}
use Rattle.round_laws.proofs.Insides.{low_outside}
use Rattle.fmt_fields.proofs.Widths.{fields_small}
use Rattle.fmt_fields.proofs.Decoded.{fields_normal, units_subnormal, units_normal}
use Rattle.fmt_exponents.specs.Field.{above, depth_of}
use Rattle.scalbn_laws.specs.Normal.{full_of, full_exp, moved_to, scalbn_gives}
use Rattle.fmt_fields.specs.Normal.{normal}
use Rattle.fmt_fields.proofs.Normals.{normal_between}

module _ (f : Format) (a : Attribute) (x : ℕ) (n : ℤ) where
  by_kind : {k : Kind} → kind f x ≡ k → scalbn_gives f a x n ≡ (scalbn_by f a x n k, scalbn_flags_by f a x n k)
  unfolding scalbn_in scalbn_flags_in
  by_kind e = ap (λ k. (scalbn_by f a x n k, scalbn_flags_by f a x n k)) e

  -- an infinity is unchanged, a NaN the canonical one, and invalid where it signals
  pub special_gives : field f x ≡ 2 ^ f.expo - 1 → (cond (eqb (fraction f x) 0) x (canonical f), nan_flags (signals f x)) ≡ scalbn_gives f a x n
  unfolding scalbn_by scalbn_flags_by
  special_gives h =
      split (eqb_reads (fraction f x) 0)
      (λ e. let k = infinite_by_field f x h e in rw (eq-eqb (fraction f x) 0 e, infinite_silent f x k) (sym (by_kind k)))
      (λ m. rw (ne_eqb (fraction f x) 0 m) (sym (by_kind (nan_by_field f x h (omega arith)))))

  finite_gives : field f x < 2 ^ f.expo - 1 → scalbn_gives f a x n ≡ outcome f a (minus f x) (scaled (minus f x) (units f (magnitude f x)) (clamp (reach f) n))
  unfolding scalbn_by scalbn_flags_by
  finite_gives h = by_kind (kind_by_field f x h)

unclamped_gives : (f : Format) → Fair f → (a : Attribute) (x : ℕ) (n : ℤ) → field f x < 2 ^ f.expo - 1
    → scalbn_gives f a x n ≡ outcome f a (minus f x) (scaled (minus f x) (units f (magnitude f x)) n)
unclamped_gives f g a x n h =
    let l = units_lt f (field_finite f x h) in
    let values = clamp_alike f g a (minus f x) (units f (magnitude f x)) n l in
    let flags = clamp_flags f g a (minus f x) (units f (magnitude f x)) n l in
    finite_gives f a x n h ∙ (λ i. (values i, flags i))

-- ---- a value that the format holds is its own answer, and raises nothing
held_silent : (f : Format) → Fair f → (a : Attribute) (s : Bool) (m : ℕ) → m < inf f → raised f a s (scaled s (units f m) (pos 0)) ≡ none
held_silent f g a s m l =
    let v = scaled s (units f m) (pos 0) in
    let x = absolute v in
    let size = abs_signed s (units f m * 2 ^ 0) in
    let same : Same f x m = record { finite = l; low = omega (arith, size); high = omega (arith, size) } in
    (raised_rule f g a s v).exact_none ((exactly_same f g a s v).1 (subst (Same f x) (sym (same_rounded f g (way_of a (sign_of s v)) x (pow_pos 0) m same)) same))

held_outcome : (f : Format) → Fair f → (a : Attribute) (s : Bool) (u m : ℕ) (n : ℤ) → m < inf f → u * 2 ^ up n ≡ units f m * 2 ^ dn n → outcome f a s (scaled s u n) ≡ (signed f s m, none)
held_outcome f g a s u m n l e =
    let i : up n + 0 ≡ up n = omega arith in
    let j : 0 + dn n ≡ dn n = omega arith in
    let value = answer_held f a s s m 0 l (sign_own s (units f m * 2 ^ 0) 0) in
    let flags = held_silent f g a s m l in
    scaled_outcome f g a s u (units f m) n (pos 0) (ap (λ k. u * 2 ^ k) i ∙ e ∙ ap (λ k. units f m * 2 ^ k) (sym j)) ∙ (λ k. (value k, flags k))

module _ (f : Format) (g : Fair f) (a : Attribute) (x : ℕ) (n : ℤ) where
  -- the field moves, and the fraction is unchanged
  moved_held : (t : ℕ) → 0 < field f x → 0 < t → t < 2 ^ f.expo - 1 → pos t ≡ n +ℤ pos (field f x) → Pattern f x
      → outcome f a (minus f x) (scaled (minus f x) (units f (magnitude f x)) n) ≡ (x - field f x * 2 ^ f.frac + t * 2 ^ f.frac, none)
  moved_held t p q h e r =
      let F = field f x in
      let r' = fraction f x in
      let U = 2 ^ f.frac in
      let small = fraction_small f x in
      let m : ℕ = t * U + r' in
      let ux : units f (magnitude f x) ≡ (U + r') * 2 ^ (F - 1) = units_of_fields f x ∙ fields_normal f F r' p in
      let um : units f m ≡ (U + r') * 2 ^ (t - 1) = units_at_lem f t r' small ∙ fields_normal f t r' q in
      let (c, d) = eq_z_fact e in
      let level : 2 ^ (F - 1) * 2 ^ up n ≡ 2 ^ (t - 1) * 2 ^ dn n =
      sym (pow-add 2 (F - 1) (up n)) ∙ ap (λ k. 2 ^ k) (omega (arith, c, d, add_z n (pos F))) ∙ pow-add 2 (t - 1) (dn n) in
      let whole : signed f (minus f x) m ≡ x - F * U + t * U = omega (arith, signed_is f x r, magnitude_fields f x) in
      held_outcome f g a (minus f x) (units f (magnitude f x)) m n (digits_lt h small)
      (omega (arith, times (2 ^ up n) ux, times (2 ^ dn n) um, times (U + r') level))
      ∙ ap (λ k. (k, none)) whole

-- ---- subnormal numbers and zeros
pub subnormal_gives : (f : Format) → Fair f → (a : Attribute) (x : ℕ) (n : ℤ) → field f x ≡ 0 →
    outcome f a (minus f x) (scaled (minus f x) (fraction f x) (clamp (reach f) n)) ≡ scalbn_gives f a x n
subnormal_gives f g a x n h =
    let few = pow_mono {i = 2} {j = f.expo} g.expo_two in
    sym (finite_gives f a x n (omega arith) ∙ ap (λ u. outcome f a (minus f x) (scaled (minus f x) u (clamp (reach f) n))) (units_subnormal f x h))

-- ---- normal numbers: the field moves, or the value overflows, or it drops below the least normal number
module _ (f : Format) (g : Fair f) (x : ℕ) (n : ℤ) (h : normal f x ≡ true) where
  i : (0 < field f x) × (field f x < 2 ^ f.expo - 1)
  i = normal_between f x h

  pub moved_gives : (a : Attribute) (t : ℕ) → Pattern f x → moved_to f x n ≡ pos t → 0 < t → t < 2 ^ f.expo - 1 → (x - field f x * 2 ^ f.frac + t * 2 ^ f.frac, none) ≡ scalbn_gives f a x n
  moved_gives a t p e q h = sym (unclamped_gives f g a x n i.1 ∙ moved_held f g a x n t i.0 q h (sym e) p)

  -- by the significand
  pub normal_gives : (a : Attribute) → outcome f a (minus f x) (scaled (minus f x) (full_of f x) (full_exp f x n)) ≡ scalbn_gives f a x n
  normal_gives a =
      let s = minus f x in
      sym (unclamped_gives f g a x n i.1
      ∙ ap (λ u. outcome f a s (scaled s u n)) (units_normal f x i.0)
      ∙ moved_outcome f g a s (full_of f x) (field f x - 1) n)

  -- the exponent of the significand
  less_one : (z : ℤ) → up z + dn (moved_to f x n) + 1 ≡ dn z + up (moved_to f x n) → full_exp f x n ≡ z
  less_one z e =
      eq_z (n +ℤ pos (field f x - 1)) z (omega (arith, add_z n (pos (field f x)), add_z n (pos (field f x - 1)), i.0))

  pub over_lies : (t : ℕ) → moved_to f x n ≡ pos t → 2 ^ f.expo - 1 ≤ t → Lies f (stretched (full_of f x) (full_exp f x n)) (inf f - 1) 3 true true
  over_lies t e k =
      let few = pow_mono {i = 2} {j = f.expo} g.expo_two in
      let (a, b) = eq_z_fact e in
      let z = less_one (pos (t - 1)) (omega arith) in
      let none : f.frac ≡ 0 + f.frac = omega arith in
      let low : 2 ^ (0 + f.frac) ≤ full_of f x = subst (λ j. 2 ^ j ≤ full_of f x) none (omega arith) in
      let c = locate_over f g 0 (full_of f x) (t - 1) 0 (t - 1) low (omega arith) (omega arith) in
      subst (λ y. Lies f (stretched (full_of f x) y) (inf f - 1) 3 true true) (sym z) c

  -- the last d bits of the significand drop below the smallest unit
  abbrev Below : Exact → ℕ → Type 0
  Below y d = Lies f y (full_of f x / 2 ^ d) (part (full_of f x % 2 ^ d) (2 ^ d)) (high_part (full_of f x % 2 ^ d) (2 ^ d)) false

  low_lies : (k : ℕ) → Below (ratio (full_of f x) (2 ^ k)) k
  low_lies k =
      let one : full_of f x * 2 ^ 0 ≡ full_of f x = omega arith in
      let room = pow_mono {i = suc f.frac} {j = k + suc f.frac} (omega arith) in
      subst (λ u. Below (ratio u (2 ^ k)) k) one
      (locate_subnormal f g (full_of f x) 0 k k (omega (arith, fraction_small f x, two-pow-succ f.frac)) (omega arith))

  -- 64 of them stand for any more
  few_lie : (j d : ℕ) → d ≡ min (suc j) 64 → full_of f x < 2 ^ 63 → Below (ratio (full_of f x) (2 ^ suc j)) d
  few_lie j d e h =
      order (suc j) 64
      (λ l. let q : d ≡ suc j = omega arith in rw q (low_lies (suc j)))
      (λ l.
      let q : d ≡ 64 = omega arith in
      let some : 0 < full_of f x = omega (arith, pow_pos f.frac) in
      let (a, b, c) = all_gone (full_of f x) 64 some (omega arith) in
      let (u, v, w) = all_gone (full_of f x) (suc j) some (omega (arith, pow_mono {i = 64} {j = suc j} (omega arith))) in
      let (m, p, r, s) = low_lies (suc j) in
      rw q (m ∙ u ∙ sym a, p ∙ v ∙ sym b, r ∙ w ∙ sym c, s))

  pub below_lies : (d : ℕ) → above (moved_to f x n) ≡ 0 → d ≡ depth_of (moved_to f x n) → full_of f x < 2 ^ 63 → Below (stretched (full_of f x) (full_exp f x n)) d
  below_lies d a e h = go (moved_to f x n) refl a e
    where
      there : (j : ℕ) → full_exp f x n ≡ negsuc j → d ≡ min (suc j) 64 → Below (stretched (full_of f x) (full_exp f x n)) d
      there j z q = subst (λ y. Below (stretched (full_of f x) y) d) (sym z) (few_lie j d q h)

      go : (z : ℤ) → moved_to f x n ≡ z → above z ≡ 0 → d ≡ depth_of z → Below (stretched (full_of f x) (full_exp f x n)) d
      go (pos t) w b q = let (u, v) = eq_z_fact w in there 0 (less_one (negsuc 0) (omega arith)) (omega arith)
      go (negsuc t) w b q = let (u, v) = eq_z_fact w in there (suc t) (less_one (negsuc (suc t)) (omega arith)) (omega arith)

-- what is left of it is below the normal numbers
pub below_outside : (f : Format) (x d : ℕ) → 1 ≤ d → {m : ℕ} → m ≡ full_of f x / 2 ^ d → false ≡ inside_at f m
below_outside f x d l {m} e =
    let (q, r) = div_mod (full_of f x) (2 ^ d) (pow_pos d) in
    low_outside f m (omega (arith, q, times_le (full_of f x / 2 ^ d) (pow_mono {i = 1} {j = d} l), fraction_small f x))

-- ---- a pattern is its sign, its field and its fraction
module _ (f : Format) (x : ℕ) (h : Pattern f x) where
  parts_sum : (s : ℕ) × (s ≤ top f) × (x ≡ s + field f x * 2 ^ f.frac + fraction f x)
  parts_sum = (cond (minus f x) (top f) 0, sign_le (minus f x), omega (arith, signed_is f x h, magnitude_fields f x))
    where
      sign_le : (b : Bool) → cond b (top f) 0 ≤ top f
      sign_le true = omega arith
      sign_le false = omega arith

  pub field_below : field f x * 2 ^ f.frac ≤ x
  field_below = let (s, l, q) = parts_sum in omega arith

  pub moved_pattern : (t : ℕ) → t < 2 ^ f.expo → Pattern f (x - field f x * 2 ^ f.frac + t * 2 ^ f.frac)
  moved_pattern t l = let (s, k, q) = parts_sum in omega (arith, pow-add 2 f.frac f.expo, times_le (2 ^ f.frac) l, fraction_small f x)

-- ---- what fits in a word
module _ {p e : ℕ} (w : Fits p e) where
  pub reach_in_word : 2 ^ e + p < 2 ^ 17
  reach_in_word = omega (arith, fields_small w, w.word)
