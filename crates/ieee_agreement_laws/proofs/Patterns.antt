-- A pattern stands for the same in the toolchain's account and in ours, and both write it alike. Assumes nothing.
use Prim.Native.Nat.{ℕ, zero, suc, ◌+◌, ◌-◌, ◌*◌, ◌/◌, ◌%◌, ◌^◌, ◌≤◌, ◌<◌}
use mathlib.Core.Path.{◌≡◌, refl, sym, ap, ◌∙◌, subst}
use mathlib.Core.Bool.{Bool, true, false, not, cond}
use native.Mathlib.Nat.{mod-lt, div-add-mod', mul-div_cancel, mod-mod_of_dvd, dvd-mul_right}
use native.Mathlib.Omega.{arith, by_contra}
use borrow.Author.Tests.{eq-eqb, ne_eqb}
use lib.Dec.{leb, eqb}
use lib.IntN.{ℤ}
use lib.Pow.{pow-add, pow_pos, pow_mono}
use lib.Ieee.{Float, nan as their-nan, inf as their-inf, fin, Format as Theirs, prec, low as their-low, up, down, size, odd, hid, ones, top as their-top, neg, of_fields, of_bits, to_bits}
use lib.Ieee.Fits.{down_pos}
use lib.Ieee.Exact.{HasValue, odd_sign}
use Rattle.algebra.proofs.Products.{order, times, times_le}
use Rattle.ieee.specs.Format.{Format, low, inf, canonical, units, fields}
use Rattle.ieee.specs.Pattern.{Pattern, minus, magnitude, signed, Kind, nan, infinite, finite, kind}
use Rattle.ieee.proofs.Units.{units_at_lem}
use Rattle.ieee.proofs.Patterns.{kind_nan, kind_infinite, kind_finite, finite_is, infinite_is, signed_is, magnitude_signed, minus_signed}
use Rattle.ieee_agreement_laws.specs.Toolchain.{ours, Same, nans, infinities, numbers, negated}
use Rattle.ieee_agreement_laws.proofs.Formats.{fair, prec_is, low_is, hid_is, ones_is, top_is, inf_is, nan_is}
use Rattle.ieee_agreement_laws.proofs.Digits.{units_back}

-- ---- reading
same_value : (l : ℕ) (v : Float) (s : Bool) (u : ℕ) → HasValue v s u (2 ^ l) → Same l v s (finite u)
same_value l their-nan s u h = absurd h
same_value l (their-inf t) s u h = absurd h
same_value l (fin t m e) s u h = subst (λ b. Same l (fin t m e) b (finite u)) h.0 (numbers t m e u h.1)

module _ (k : Theirs) (s : Bool) where
  of_infinity : (q : ℕ) → suc q ≡ ones k → of_fields k s (suc q) 0 ≡ their-inf s
  unfolding of_fields
  of_infinity q e = ap (λ b. cond b (their-inf s) (odd (prec k) s (hid k + 0) q (their-low k))) (eq-eqb (suc q) (ones k) e)

  of_nan : (q t : ℕ) → suc q ≡ ones k → 0 < t → of_fields k s (suc q) t ≡ their-nan
  unfolding of_fields
  of_nan q t e l =
      let z : eqb t 0 ≡ false = ne_eqb t 0 (omega arith) in
      λ i. cond (eq-eqb (suc q) (ones k) e i) (cond (z i) (their-inf s) their-nan) (odd (prec k) s (hid k + t) q (their-low k))

  of_number : (q t : ℕ) → (suc q ≡ ones k → ⊥) → of_fields k s (suc q) t ≡ odd (prec k) s (hid k + t) q (their-low k)
  unfolding of_fields
  of_number q t n = ap (λ b. cond b (cond (eqb t 0) (their-inf s) their-nan) (odd (prec k) s (hid k + t) q (their-low k))) (ne_eqb (suc q) (ones k) n)

  of_small : (t : ℕ) → of_fields k s 0 t ≡ odd (prec k) s t 0 (their-low k)
  unfolding of_fields
  of_small t = refl

  -- a significand c with the exponent j is u units
  odd_same : (c j u : ℕ) → c * 2 ^ j ≡ u → Same (low (ours k)) (odd (prec k) s c j (their-low k)) s (finite u)
  odd_same c j u e =
      same_value (low (ours k)) (odd (prec k) s c j (their-low k)) s u
      (subst (λ (a : ℕ). HasValue (odd (prec k) s c j (their-low k)) s a (2 ^ low (ours k))) e
      (subst (λ (l : ℕ). HasValue (odd (prec k) s c j (their-low k)) s (c * 2 ^ j) (2 ^ l)) (low_is k) (odd_sign (prec k) s c j (their-low k))))

-- a field below the highest is a number's
below_inf : (f : Format) (q t m : ℕ) → m ≡ q * 2 ^ f.frac + t → t < 2 ^ f.frac → q < 2 ^ f.expo - 1 → m < inf f
below_inf f q t m e l h = omega (arith, times_le (2 ^ f.frac) h)

module _ (k : Theirs) (s : Bool) (x t : ℕ) where
  finite_same : (q : ℕ) → magnitude (ours k) x ≡ q * 2 ^ (ours k).frac + t → t < 2 ^ (ours k).frac → q < 2 ^ (ours k).expo - 1
      → (v : Float) → Same (low (ours k)) v s (finite (fields (2 ^ (ours k).frac) q t)) → Same (low (ours k)) v s (kind (ours k) x)
  finite_same q e l h v w =
      let b = below_inf (ours k) q t (magnitude (ours k) x) e l h in
      subst (Same (low (ours k)) v s) (sym (kind_finite (ours k) x b ∙ ap finite (ap (units (ours k)) e ∙ units_at_lem (ours k) q t l))) w

  highest_same : (q : ℕ) → suc q ≡ ones k → magnitude (ours k) x ≡ inf (ours k) + t → Same (low (ours k)) (of_fields k s (suc q) t) s (kind (ours k) x)
  highest_same q a b =
      order t 0
      (λ z.
      let w : t ≡ 0 = omega arith in
      subst (Same (low (ours k)) (of_fields k s (suc q) t) s) (sym (kind_infinite (ours k) x (omega arith)))
      (subst (λ v. Same (low (ours k)) v s infinite) (sym (ap (of_fields k s (suc q)) w ∙ of_infinity k s q a)) (infinities s)))
      (λ z.
      subst (Same (low (ours k)) (of_fields k s (suc q) t) s) (sym (kind_nan (ours k) x (omega arith)))
      (subst (λ v. Same (low (ours k)) v s nan) (sym (of_nan k s q t a z)) (nans s)))

  fields_same : (q : ℕ) → magnitude (ours k) x ≡ q * 2 ^ (ours k).frac + t → t < 2 ^ (ours k).frac → q < 2 ^ (ours k).expo → Same (low (ours k)) (of_fields k s q t) s (kind (ours k) x)
  fields_same zero e l h =
      finite_same 0 e l (omega (arith, pow_mono (fair k).expo_two)) (of_fields k s 0 t)
      (subst (λ v. Same (low (ours k)) v s (finite t)) (sym (of_small k s t)) (odd_same k s t 0 t (omega arith)))
  fields_same (suc q) e l h =
      order (ones k) (suc q)
      (λ g.
      let a : suc q ≡ ones k = omega (arith, ones_is k) in
      highest_same q a (omega (arith, times (2 ^ (ours k).frac) (a ∙ ones_is k))))
      (λ g.
      finite_same (suc q) e l (omega (arith, ones_is k)) (of_fields k s (suc q) t)
      (subst (λ v. Same (low (ours k)) v s (finite ((2 ^ (ours k).frac + t) * 2 ^ q))) (sym (of_number k s q t (omega arith)))
      (odd_same k s (hid k + t) q ((2 ^ (ours k).frac + t) * 2 ^ q) (ap (λ (n : ℕ). (n + t) * 2 ^ q) (hid_is k)))))

module _ (k : Theirs) (x : ℕ) where
  of_bits_is : of_bits k x ≡ of_fields k (leb (their-top k) x) (x % their-top k / hid k) (x % hid k)
  unfolding of_bits
  of_bits_is = refl

  fraction_of : x % 2 ^ (ours k).frac ≡ magnitude (ours k) x % 2 ^ (ours k).frac
  fraction_of =
      sym (ap (λ (n : ℕ). x % n % 2 ^ (ours k).frac) (pow-add 2 (ours k).frac (ours k).expo) ∙ mod-mod_of_dvd (2 ^ (ours k).frac) x (dvd-mul_right (2 ^ (ours k).frac) (2 ^ (ours k).expo)))

  -- by our sign, and the field and the fraction of our magnitude
  read : of_bits k x ≡ of_fields k (minus (ours k) x) (magnitude (ours k) x / 2 ^ (ours k).frac) (magnitude (ours k) x % 2 ^ (ours k).frac)
  read =
      of_bits_is ∙ (λ i. of_fields k (leb (top_is k i) x) (x % top_is k i / hid_is k i) (x % hid_is k i))
      ∙ ap (of_fields k (minus (ours k) x) (magnitude (ours k) x / 2 ^ (ours k).frac)) fraction_of

  field_lt : magnitude (ours k) x / 2 ^ (ours k).frac < 2 ^ (ours k).expo
  field_lt =
      by_contra (suc (magnitude (ours k) x / 2 ^ (ours k).frac)) (2 ^ (ours k).expo)
      (λ h. let l : 2 ^ (ours k).expo ≤ magnitude (ours k) x / 2 ^ (ours k).frac = omega arith in
      omega (arith, times_le (2 ^ (ours k).frac) l, div-add-mod' (magnitude (ours k) x) (2 ^ (ours k).frac), mod-lt x (pow_pos ((ours k).frac + (ours k).expo)), pow-add 2 (ours k).frac (ours k).expo))

  -- every pattern, and any other number too: what the toolchain reads is what we say it stands for
  pub pattern_same : Same (low (ours k)) (of_bits k x) (minus (ours k) x) (kind (ours k) x)
  pattern_same =
      subst (λ (v : Float). Same (low (ours k)) v (minus (ours k) x) (kind (ours k) x)) (sym read)
      (fields_same k (minus (ours k) x) x (magnitude (ours k) x % 2 ^ (ours k).frac) (magnitude (ours k) x / 2 ^ (ours k).frac)
      (sym (div-add-mod' (magnitude (ours k) x) (2 ^ (ours k).frac))) (mod-lt (magnitude (ours k) x) (pow_pos (ours k).frac)) field_lt)

-- ---- the other sign
odd_negated : (d : ℕ) (s : Bool) (q j l : ℕ) → odd d (not s) q j l ≡ neg (odd d s q j l)
unfolding odd neg
odd_negated d s zero j l = refl
odd_negated d s (suc q) j l = refl

special_negated : (b : Bool) (s : Bool) → cond b (their-inf (not s)) their-nan ≡ neg (cond b (their-inf s) their-nan)
unfolding neg
special_negated true s = refl
special_negated false s = refl

either_negated : (b : Bool) (v w v' w' : Float) → v ≡ neg v' → w ≡ neg w' → cond b v w ≡ neg (cond b v' w')
either_negated true v w v' w' g h = g
either_negated false v w v' w' g h = h

fields_negated : (k : Theirs) (s : Bool) (q t : ℕ) → of_fields k (not s) q t ≡ neg (of_fields k s q t)
unfolding of_fields
fields_negated k s zero t = odd_negated (prec k) s t 0 (their-low k)
fields_negated k s (suc q) t =
    either_negated (eqb (suc q) (ones k)) (cond (eqb t 0) (their-inf (not s)) their-nan) (odd (prec k) (not s) (hid k + t) q (their-low k))
    (cond (eqb t 0) (their-inf s) their-nan) (odd (prec k) s (hid k + t) q (their-low k)) (special_negated (eqb t 0) s) (odd_negated (prec k) s (hid k + t) q (their-low k))

pub negated_read : (k : Theirs) (x : ℕ) → of_bits k (negated (ours k) x) ≡ neg (of_bits k x)
negated_read k x =
    let f = ours k in
    let l = mod-lt x (pow_pos (f.frac + f.expo)) in
    let m = magnitude_signed f (not (minus f x)) (magnitude f x) l in
    read k (negated f x)
    ∙ (λ i. of_fields k (minus_signed f (not (minus f x)) (magnitude f x) l i) (m i / 2 ^ f.frac) (m i % 2 ^ f.frac))
    ∙ fields_negated k (minus f x) (magnitude f x / 2 ^ f.frac) (magnitude f x % 2 ^ f.frac)
    ∙ ap neg (sym (read k x))

-- ---- a number, read by both accounts
pub record Number (k : Theirs) (x : ℕ) (s : Bool) (m : ℕ) (e : ℤ) (u : ℕ) : Type 0 where
  pub read_as : of_bits k x ≡ fin s m e
  pub kind_is : kind (ours k) x ≡ finite u
  pub sign_is : s ≡ minus (ours k) x
  pub counts : m * up e * 2 ^ low (ours k) ≡ u * down e

-- a number of theirs is one of ours
pub record Counted (k : Theirs) (x : ℕ) (s : Bool) (m : ℕ) (e : ℤ) : Type 0 where
  pub count : ℕ
  pub number : Number k x s m e count

pub counted : (k : Theirs) (x : ℕ) (s : Bool) (m : ℕ) (e : ℤ) → of_bits k x ≡ fin s m e → Counted k x s m e
counted k x s m e r = go (pattern_same k x) refl refl r
  where
    go : {v : Float} {t : Bool} {d : Kind} → Same (low (ours k)) v t d → t ≡ minus (ours k) x → kind (ours k) x ≡ d → v ≡ fin s m e → Counted k x s m e
    go (nans t) p q h = absurd (let z : ◌≡◌ {A = ℕ} 0 1 = cc in omega arith)
    go (infinities t) p q h = absurd (let z : ◌≡◌ {A = ℕ} 0 1 = cc in omega arith)
    go (numbers t n d u c) p q h =
        let a : t ≡ s = cc in
        let b : n ≡ m = cc in
        let g : d ≡ e = cc in
        record { count = u; number = record { read_as = r; kind_is = q; sign_is = sym a ∙ p; counts = sym (λ i. b i * up (g i) * 2 ^ low (ours k)) ∙ c ∙ (λ i. u * down (g i)) } }

-- a number of ours is one of theirs
pub record Unpacked (k : Theirs) (x u : ℕ) : Type 0 where
  pub significand : ℕ
  pub exponent : ℤ
  pub number : Number k x (minus (ours k) x) significand exponent u

pub unpacked : (k : Theirs) (x u : ℕ) → kind (ours k) x ≡ finite u → Unpacked k x u
unpacked k x u h = go (pattern_same k x) refl refl h
  where
    go : {v : Float} {t : Bool} {d : Kind} → Same (low (ours k)) v t d → of_bits k x ≡ v → t ≡ minus (ours k) x → d ≡ finite u → Unpacked k x u
    go (nans t) r p q = absurd (let z : ◌≡◌ {A = ℕ} 0 1 = cc in omega arith)
    go (infinities t) r p q = absurd (let z : ◌≡◌ {A = ℕ} 0 1 = cc in omega arith)
    go (numbers t m e w c) r p q =
        let a : w ≡ u = cc in
        record { significand = m; exponent = e; number = record { read_as = r ∙ ap (λ b. fin b m e) p; kind_is = h; sign_is = refl; counts = c ∙ ap (λ b. b * down e) a } }

-- ---- writing
module _ (k : Theirs) where
  pub write_nan : to_bits k their-nan ≡ canonical (ours k)
  unfolding to_bits
  write_nan = nan_is k

  pub write_infinite : (s : Bool) → to_bits k (their-inf s) ≡ signed (ours k) s (inf (ours k))
  unfolding to_bits
  write_infinite s = λ i. cond s (top_is k i) 0 + inf_is k i

  digits_of_lem : (t : Bool) (c : ℕ) (e : ℤ) (n : ℕ) → c * up e * 2 ^ their-low k / down e ≡ n → to_bits k (fin t c e) ≡ cond t (their-top k) 0 + (size n - prec k) * hid k + n / 2 ^ (size n - prec k)
  unfolding to_bits
  digits_of_lem t c e n p = ap (λ (a : ℕ). cond t (their-top k) 0 + (size a - prec k) * hid k + a / 2 ^ (size a - prec k)) p

  -- a number is written as the magnitude of its units
  pub write : (v : Float) (s : Bool) (m : ℕ) → HasValue v s (units (ours k) m) (2 ^ low (ours k)) → to_bits k v ≡ signed (ours k) s m
  write their-nan s m h = absurd h
  write (their-inf t) s m h = absurd h
  write (fin t c e) s m h =
      let n = units (ours k) m in
      digits_of_lem t c e n (ap (λ (l : ℕ). c * up e * 2 ^ l / down e) (low_is k) ∙ ap (λ (a : ℕ). a / down e) h.1 ∙ mul-div_cancel n (down_pos e))
      ∙ (λ i. cond (h.0 i) (top_is k i) 0 + (size n - prec_is k i) * hid_is k i + n / 2 ^ (size n - prec_is k i))
      ∙ omega (arith, units_back (ours k) m)

  -- a pattern that is not a NaN is read and written back
  pub write_read : (x : ℕ) → Pattern (ours k) x → (kind (ours k) x ≡ nan → ⊥) → to_bits k (of_bits k x) ≡ x
  write_read x p n = go (pattern_same k x) refl ∙ signed_is (ours k) x p
    where
      go : {v : Float} {s : Bool} {d : Kind} → Same (low (ours k)) v s d → kind (ours k) x ≡ d → to_bits k v ≡ signed (ours k) s (magnitude (ours k) x)
      go (nans s) e = absurd (n e)
      go (infinities s) e = write_infinite s ∙ ap (signed (ours k) s) (sym (infinite_is (ours k) x e))
      go (numbers s m d u h) e = write (fin s m d) s (magnitude (ours k) x) (refl, h ∙ ap (λ a. a * down d) (sym (finite_is (ours k) x u e).counts))
