-- The code computes floor and ceil, over the format: one law for what goes away from zero, and one for what goes toward it. Assumes nothing.
use Rattle.std.proofs.Common.{◌≡◌, ℕ, suc, ◌+◌, ◌-◌, ◌*◌, ◌/◌, ◌%◌, ◌^◌, ◌<◌, ◌≤◌, Bool, true, false, cond, not, sym, refl, ap, ◌∙◌, subst, mod-eq_of_lt, arith, pow_pos, pow_mono, eq-eqb, ne_eqb, le-leb}
use lib.Bits.{bit_and}
use borrow.Author.Tests.{lt-leb}
use Rattle.algebra.proofs.Products.{order, times, times_le}
use Rattle.algebra.proofs.Quotients.{div_mod, div_is}
use Rattle.algebra.proofs.Powers.{pow_diff}
use Rattle.ieee.specs.Format.{Format, Fair, top, bias, inf, low, units}
use Rattle.ieee.specs.Pattern.{Pattern, minus, magnitude, field, signed, finite}
use Rattle.ieee.specs.Round.{Way, shorter, longer, Attribute, toward_positive, toward_negative, way_of}
use Rattle.ieee.specs.Whole.{whole, whole_in, floor_of, ceil_of}
use Rattle.ieee.proofs.Units.{units_zero, units_lt}
use Rattle.ieee.proofs.Fields.{magnitude_fields, fraction_small}
use Rattle.ieee.proofs.Patterns.{inf_below_top, signed_is, kind_finite}
use Rattle.ieee.proofs.WholeParts.{zero_stays, whole_pattern}
use Rattle.ieee.proofs.Wholes.{longer_one}
use Rattle.fmt_fields.specs.Width.{format, Fits}
use Rattle.integral.specs.Point.{exponent_of, behind_of, by_point, one_nan, Mask}
use Rattle.integral.specs.Directed.{directed, goes_away, ones_if, one_or_zero, below_one, cut_by}
use Rattle.integral.proofs.Masks.{ones_without, under_ones, under_none}
use Rattle.integral.proofs.Choices.{at_below, at_part, at_whole, by_cases}
use Rattle.integral.proofs.Scaled.{longer_scaled, cut_after}
use Rattle.integral.proofs.WholeParts.{whole_in_at, stays, past_stays, units_one, below_one_lem, far, part_bits, part_cut, shorter_all, shorter_part}
use Rattle.integral.proofs.Method.{Part, part_of, one_below_infinity}

-- ---- up or down is an attribute, whose way is away from zero or toward it
abbrev sends : Bool → Attribute
sends true = toward_positive
sends false = toward_negative

abbrev way_if : Bool → Way
way_if true = longer
way_if false = shorter

way_is : (f : Format) (up : Bool) (x : ℕ) → way_of (sends up) (minus f x) ≡ way_if (goes_away f up x)
way_is f true x = go (minus f x)
  where
    go : (s : Bool) → way_of toward_positive s ≡ way_if (not s)
    go true = refl
    go false = refl
way_is f false x = go (minus f x)
  where
    go : (s : Bool) → way_of toward_negative s ≡ way_if s
    go true = refl
    go false = refl

directed_is : (f : Format) (up : Bool) (x : ℕ) → whole_in f (sends up) x ≡ directed f up x
unfolding floor_of ceil_of
directed_is f true x = refl
directed_is f false x = refl

pub directed_pattern : (f : Format) → Fair f → (up : Bool) (x : ℕ) → Pattern f x → Pattern f (directed f up x)
directed_pattern f g up x p = subst (Pattern f) (directed_is f up x) (whole_pattern f (sends up) g x p)

-- ---- the cases of a number below 1
module _ (f : Format) (up : Bool) (x : ℕ) where
  pub zero_below : magnitude f x ≡ 0 → x ≡ below_one f up x
  unfolding below_one
  zero_below z = sym (ap (λ t. cond t x (one_or_zero f up x)) (eq-eqb (magnitude f x) 0 z))

  pub number_below : (magnitude f x ≡ 0 → ⊥) → one_or_zero f up x ≡ below_one f up x
  unfolding below_one
  number_below n = sym (ap (λ t. cond t x (one_or_zero f up x)) (ne_eqb (magnitude f x) 0 n))

bias_pos : (f : Format) → Fair f → 1 ≤ bias f
bias_pos f g = omega (arith, pow_mono {i = 1} {j = f.expo - 1} (omega (arith, g.expo_two)))

module _ (f : Format) (g : Fair f) (a : Attribute) (x : ℕ) (p : Pattern f x) where
  away_below : way_of a (minus f x) ≡ longer → 0 < magnitude f x → field f x < bias f → whole_in f a x ≡ signed f (minus f x) (bias f * 2 ^ f.frac)
  away_below w l h =
      let b = one_below_infinity f g in
      let c : magnitude f x < bias f * 2 ^ f.frac = omega (arith, magnitude_fields f x, fraction_small f x, times_le (2 ^ f.frac) h) in
      let i = units_lt f {i = 0} {j = magnitude f x} l in
      let u = longer_one (units f (magnitude f x)) (2 ^ low f) (omega (arith, units_zero f)) (below_one_lem f g (magnitude f x) c) in
      let v = ap (λ d. whole d (units f (magnitude f x)) (2 ^ low f)) w ∙ u in
      whole_in_at f g a x (bias f * 2 ^ f.frac) (omega arith) b (units_one f g ∙ omega (arith, times (2 ^ low f) v))

  toward_below : way_of a (minus f x) ≡ shorter → field f x < bias f → whole_in f a x ≡ signed f (minus f x) 0
  toward_below w h = shorter_all f g a x p w h ∙ omega (arith, signed_is f x p)

  zero_kept : magnitude f x ≡ 0 → whole_in f a x ≡ x
  zero_kept m = zero_stays f a x p (kind_finite f x (omega (arith, one_below_infinity f g)) ∙ ap finite (ap (units f) m ∙ units_zero f))

  sent_below : (b : Bool) → way_of a (minus f x) ≡ way_if b → 0 < magnitude f x → field f x < bias f → signed f (minus f x) (cond b (bias f * 2 ^ f.frac) 0) ≡ whole_in f a x
  sent_below true w l h = sym (away_below w l h)
  sent_below false w l h = sym (toward_below w h)

  below_is : (up : Bool) → way_of a (minus f x) ≡ way_if (goes_away f up x) → field f x < bias f → below_one f up x ≡ whole_in f a x
  below_is up w h =
      order (magnitude f x) 0
      (λ z. let m : magnitude f x ≡ 0 = omega arith in sym (zero_below f up x m) ∙ sym (zero_kept m))
      (λ z. sym (number_below f up x (omega arith)) ∙ sent_below (goes_away f up x) w z h)

  -- ---- a point within the fraction, and b the mask of what stands behind it
  filled_fits : (b : ℕ) → Part f x b → bias f ≤ field f x → x + b < 2 * top f
  filled_fits b q h =
      let m = pow_mono {i = q.k} {j = f.frac} (part_bits f g x q.k h q.stands) in
      let d = div_mod x (top f) (pow_pos (f.frac + f.expo)) in
      let l : magnitude f x + b < top f = omega (arith, q.mask, magnitude_fields f x, fraction_small f x, far f g (field f x) (omega (arith, q.stands, q.some)), inf_below_top f) in
      order (top f) x
      (λ i. let e = div_is x (top f) 1 (x - top f) (omega arith) (omega arith) in omega (arith, e))
      (λ i. omega (arith, mod-eq_of_lt i))

  away_part : (b : ℕ) → way_of a (minus f x) ≡ longer → Part f x b → bias f ≤ field f x → (x + b) / suc b * suc b ≡ whole_in f a x
  away_part b w q h =
      let d : b ≡ 2 ^ q.k - 1 = omega (arith, q.mask) in
      (λ i. (x + d i) / q.mask i * q.mask i)
      ∙ sym (part_cut f g a x q.k (2 ^ q.k - 1) p h q.some q.stands (omega (arith, pow_pos q.k))
      (λ n t z. ap (λ c. whole c (n * t) (2 ^ q.k * t)) w ∙ longer_scaled n (2 ^ q.k) t (pow_pos q.k) z))

  -- less one, cut, and one above the mask more is the mask added, and then cut
  up_by_one : (b : ℕ) → 0 < x → (x - 1) / suc b * suc b + suc b ≡ (x + b) / suc b * suc b
  up_by_one b l = let e : x + b ≡ 1 * suc b + (x - 1) = omega arith in omega (arith, ap (λ n. n / suc b * suc b) e, cut_after 1 (x - 1) (suc b) (omega arith))

  cut_is : (c : Bool) (b : ℕ) → 2 * top f ≤ 2 ^ 64 → way_of a (minus f x) ≡ way_if c → Part f x b → bias f ≤ field f x → cut_by c x b ≡ whole_in f a x
  unfolding cut_by
  cut_is true b w y q h =
      let d = suc b in
      let l : 0 < x = omega (arith, magnitude_fields f x, times_le (2 ^ f.frac) h, times_le (2 ^ f.frac) (bias_pos f g), div_mod x (top f) (pow_pos (f.frac + f.expo)), pow_pos f.frac) in
      let e : (x + (2 ^ 64 - 1)) % 2 ^ 64 ≡ x - 1 = omega arith in
      ap (λ n. (n / d * d + d) % 2 ^ 64) e
      ∙ mod-eq_of_lt (omega (arith, up_by_one b l, filled_fits b q h, div_mod (x + b) d (omega arith)))
      ∙ up_by_one b l
      ∙ away_part b y q h
  cut_is false b w y q h = ap (λ d. x / d * d) q.mask ∙ sym (shorter_part f g a x q.k p y h q.some q.stands)

-- ---- by the point
pattern_room : {p e : ℕ} → Fits p e → 2 * top (format p e) ≤ 2 ^ 64
pattern_room {p} {e} w = omega (arith, pow_mono {i = p + e} {j = 63} w.word)

pub directed_by_point : {p e : ℕ} → Fits p e → (up : Bool) (x : ℕ) → Pattern (format p e) x → let f = format p e in let c = goes_away f up x in let b = behind_of p (exponent_of f x) in
    by_point f x (below_one f up x) (cut_by c x b) (one_nan f x) ≡ directed f up x
directed_by_point {p} {e} w up x i =
    let f = format p e in
    let g = w.fair in
    let a = sends up in
    let c = goes_away f up x in
    let y = way_is f up x in
    let b = behind_of p (exponent_of f x) in
    by_cases f x
    (λ h. at_below f x (below_one f up x) (cut_by c x b) (one_nan f x) h ∙ below_is f g a x i up y h)
    (λ l h. at_part f x (below_one f up x) (cut_by c x b) (one_nan f x) l h ∙ cut_is f g a x i c b (pattern_room w) y (part_of w x l h) l)
    (λ h. at_whole f x (below_one f up x) (cut_by c x b) (one_nan f x) h ∙ sym (stays f g a x i h))
    ∙ directed_is f up x

pub past_numbers : (f : Format) → Fair f → (up : Bool) (x : ℕ) → inf f ≤ magnitude f x → one_nan f x ≡ directed f up x
past_numbers f g up x h = sym (past_stays f g (sends up) x h) ∙ directed_is f up x

-- ---- in words, by a word of ones
-- the sign as a number
sign_is : (f : Format) (x : ℕ) → Pattern f x → x / top f ≡ cond (minus f x) 1 0
sign_is f x i =
    order (top f) x
    (λ h. (div_is x (top f) 1 (x - top f) (omega arith) (omega arith)).0 ∙ sym (ap (λ t. cond t 1 0) (le-leb (top f) x h)))
    (λ h. (div_is x (top f) 0 x h (omega arith)).0 ∙ sym (ap (λ t. cond t 1 0) (lt-leb (top f) x h)))

ones_by : (s : Bool) (r n : ℕ) → r < 2 ^ 64 → n ≡ cond s 1 0 → (r + n) % 2 ^ 64 ≡ 0 → r ≡ ones_if s
ones_by true r n l e z = omega arith
ones_by false r n l e z = omega arith

pub sign_in_words : (f : Format) (x r : ℕ) → Pattern f x → r < 2 ^ 64 → (r + x / top f) % 2 ^ 64 ≡ 0 → r ≡ ones_if (minus f x)
sign_in_words f x r i l z = ones_by (minus f x) r (x / top f) l (sign_is f x i) z

-- a word under ones or none
pub under_ones_if : (b : Bool) (v : ℕ) → v < 2 ^ 64 → bit_and v (ones_if b) ≡ cond b v 0
under_ones_if true v l = under_ones v l
under_ones_if false v l = under_none v

-- the two answers, t being the sign bit and n a one: up a one or a zero below zero, down nothing or a one below zero
up_either : (s : Bool) (t n : ℕ) → n ≤ t → n + cond s (t - n) 0 ≡ cond s t 0 + cond (not s) n 0
up_either true t n l = omega arith
up_either false t n l = omega arith

down_either : (s : Bool) (t n : ℕ) → cond s (t + n) 0 ≡ cond s t 0 + cond s n 0
down_either true t n = omega arith
down_either false t n = omega arith

either_below : (s : Bool) (t n : ℕ) → n ≤ t → cond s t 0 + cond (not s) n 0 ≤ t
either_below true t n l = omega arith
either_below false t n l = omega arith

-- 1 fits in a word
pub one_word : {p e : ℕ} → Fits p e → bias (format p e) * 2 ^ p < 2 ^ 64
one_word {p} {e} w = omega (arith, one_below_infinity (format p e) w.fair, inf_below_top (format p e), pattern_room w)

-- n is below the sign bit t, and twice that fits
abbrev pub OneLeast : ℕ → ℕ → Type 0
OneLeast t n = (n < t) × (2 * t ≤ 2 ^ 64)

module _ {p e : ℕ} (w : Fits p e) (x t n s : ℕ) (a : t ≡ top (format p e)) (b : n ≡ bias (format p e) * 2 ^ p) (c : s ≡ ones_if (minus (format p e) x)) where
  pub one_least : OneLeast t n
  one_least = (omega (arith, one_below_infinity (format p e) w.fair, inf_below_top (format p e)), omega (arith, pattern_room w))

  pub up_in_words : n + bit_and (t - n) s ≡ one_or_zero (format p e) true x
  up_in_words =
      let m = minus (format p e) x in
      ap (λ v. n + bit_and (t - n) v) c
      ∙ ap (λ v. n + v) (under_ones_if m (t - n) (omega (arith, one_least)))
      ∙ up_either m t n (omega (arith, one_least))
      ∙ (λ i. cond m (a i) 0 + cond (not m) (b i) 0)

  pub up_fits : n + bit_and (t - n) s < 2 ^ 64
  up_fits =
      let m = minus (format p e) x in
      omega (arith, up_in_words, either_below m (top (format p e)) (bias (format p e) * 2 ^ p) (omega (arith, one_least)), one_least)

  pub down_in_words : bit_and (t + n) s ≡ one_or_zero (format p e) false x
  down_in_words =
      let m = minus (format p e) x in
      ap (bit_and (t + n)) c
      ∙ under_ones_if m (t + n) (omega (arith, one_least))
      ∙ down_either m t n
      ∙ (λ i. cond m (a i) 0 + cond m (b i) 0)

-- the cut: less one, and one more above the mask
pub cut_in_words : (a : Bool) (x b r : ℕ) → x < 2 ^ 64 → b < 2 ^ 64 → r < 2 ^ 64 → Mask b →
    (r + ones_if a / suc b * suc b) % 2 ^ 64 ≡ (x + ones_if a) % 2 ^ 64 / suc b * suc b → r ≡ cut_by a x b
unfolding cut_by
cut_in_words true x b r l i j m z =
    let d : ℕ = suc b in
    omega (arith, z, ones_without b m, div_mod ((x + (2 ^ 64 - 1)) % 2 ^ 64) d (omega arith))
cut_in_words false x b r l i j m z =
    let d : ℕ = suc b in
    let y : (x + 0) % 2 ^ 64 ≡ x = omega arith in
    omega (arith, z, div_mod 0 d (omega arith), ap (λ n. n / d * d) y, div_mod x d (omega arith))

-- and the wrapped difference itself
pub cut_wrapped : (a : Bool) (x b u v : ℕ) → x < 2 ^ 64 → Mask b → u ≡ (x + ones_if a) % 2 ^ 64 / suc b * suc b → v ≡ ones_if a / suc b * suc b →
    (u + (2 ^ 64 - v)) % 2 ^ 64 ≡ cut_by a x b
unfolding cut_by
cut_wrapped true x b u v l (k, f) e z =
    let d : ℕ = suc b in
    let n : ℕ = (x + (2 ^ 64 - 1)) % 2 ^ 64 in
    let o = ones_without b (k, f) in
    order k 64
    (λ h. omega (arith, e, z, o, f, pow_mono {i = k} {j = 64} h))
    (λ h.
    let p = pow_mono {i = 65} {j = k} h in
    let c = times d (div_is n d 0 n (omega (arith, f)) (omega arith)).0 in
    omega (arith, e, z, o, f, c, pow_diff {a = k} {b = 64} (omega arith)))
cut_wrapped false x b u v l m e z =
    let d : ℕ = suc b in
    let y : (x + 0) % 2 ^ 64 ≡ x = omega arith in
    omega (arith, e, z, div_mod 0 d (omega arith), ap (λ n. n / d * d) y, div_mod x d (omega arith))
