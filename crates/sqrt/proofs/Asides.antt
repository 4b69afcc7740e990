-- The classes by the pattern: one comparison finds all five, and one the four of which no root is computed. Assumes nothing.
use Rattle.std.proofs.Common.{◌≡◌, ℕ, subst, ◌+◌, ◌-◌, ◌/◌, ◌%◌, ◌^◌, ◌<◌, ◌≤◌, Bool, true, false, ◌&&◌, ◌||◌, ltb, leb, sym, refl, ap, ◌∙◌, mod-eq_of_lt, arith, pow_pos, pow-add, ltb-false, le-ltb, lt-ltb, eq-eqb, ne_eqb, le-leb}
use mathlib.Core.Bool.{or-true}
use borrow.Author.Tests.{lt-leb, eqb-false}
use Rattle.algebra.proofs.Products.{order, times, mul_lt_cancel}
use Rattle.algebra.proofs.Quotients.{div_mod, div_is}
use Rattle.ieee.specs.Format.{Format, top, inf}
use Rattle.ieee.specs.Pattern.{magnitude, field, fraction}
use Rattle.ieee.proofs.Fields.{magnitude_fields}
use Rattle.ieee.proofs.Patterns.{inf_below_top}
use Rattle.sqrt_number.specs.Split.{Above}
use Rattle.sqrt.specs.Classes.{is_zero, is_subnormal, is_infinite, is_nan, is_negative, rootless, set_aside}

-- ---- a disjunction of four
module _ (a b c d : Bool) where
  first : a ≡ true → (a || b || c || d) ≡ true
  first h = rw h refl

  second : b ≡ true → (a || b || c || d) ≡ true
  second h = rw (h, or-true) refl

  third : c ≡ true → (a || b || c || d) ≡ true
  third h = rw (h, or-true) refl

  fourth : d ≡ true → (a || b || c || d) ≡ true
  fourth h = rw (h, or-true) refl

  none : a ≡ false → b ≡ false → c ≡ false → d ≡ false → (a || b || c || d) ≡ false
  none p q r s = rw (p, q, r, s) refl

neither : (a b : Bool) → (a || b) ≡ false → (a ≡ false) × (b ≡ false)
neither true b h = absurd (let q : ◌≡◌ {A = ℕ} 0 1 = cc in omega arith)
neither false b h = (refl, h)

-- ---- one comparison finds the patterns from `least` up to infinity: v is x less the least, which wraps where x is below it
by_wrap : (f : Format) (x least i v : ℕ) (b : Bool) → i ≡ inf f → least ≤ i → (v + least) % 2 ^ 64 ≡ x → v < 2 ^ 64 → top f < 2 ^ 64
    → (x < least → b ≡ true) → (inf f ≤ x → b ≡ true) → (least ≤ x → x < inf f → b ≡ false) → leb (i - least) v ≡ b
by_wrap f x least i v b q p w l g small high number =
    order (i - least) v
    (λ h. le-leb (i - least) v h ∙ sym (order (inf f) x high (λ k. small (omega (arith, inf_below_top f)))))
    (λ h. lt-leb (i - least) v h ∙ sym (number (omega (arith, inf_below_top f)) (omega (arith, inf_below_top f))))

module _ (f : Format) (x : ℕ) where
  abbrev a : Bool
  a = is_zero f x

  abbrev b : Bool
  b = is_infinite f x

  abbrev c : Bool
  c = is_nan f x

  abbrev d : Bool
  d = is_negative f x

  zero_rootless : x < 1 → rootless f x ≡ true
  unfolding rootless
  zero_rootless l =
      let z : x ≡ 0 = omega arith in
      first a b c d (eq-eqb (magnitude f x) 0 (ap (λ n. n % top f) z ∙ mod-eq_of_lt (pow_pos (f.frac + f.expo))))

  -- at infinity or past it
  high_rootless : inf f ≤ x → rootless f x ≡ true
  unfolding rootless
  high_rootless l =
      order (top f) x
      (λ h. fourth a b c d (le-leb (top f) x h))
      (λ h.
      let m : magnitude f x ≡ x = mod-eq_of_lt h in
      order x (inf f)
      (λ g. second a b c d (eq-eqb (magnitude f x) (inf f) (omega arith)))
      (λ g. third a b c d (lt-ltb (inf f) (magnitude f x) (omega arith))))

  number_rooted : 1 ≤ x → x < inf f → rootless f x ≡ false
  unfolding rootless
  number_rooted l h =
      let t : x < top f = omega (arith, inf_below_top f) in
      let m : magnitude f x ≡ x = mod-eq_of_lt t in
      none a b c d
      (ne_eqb (magnitude f x) 0 (λ z. omega arith))
      (ne_eqb (magnitude f x) (inf f) (λ z. omega arith))
      (le-ltb (inf f) (magnitude f x) (omega arith))
      (lt-leb (top f) x t)

  pub rootless_test : (i v : ℕ) → i ≡ inf f → 1 ≤ i → (v + 1) % 2 ^ 64 ≡ x → v < 2 ^ 64 → top f < 2 ^ 64 → leb (i - 1) v ≡ rootless f x
  rootless_test i v q p w l g = by_wrap f x 1 i v (rootless f x) q p w l g zero_rootless high_rootless number_rooted

  -- ---- and the subnormal numbers
  aside_first : rootless f x ≡ true → set_aside f x ≡ true
  unfolding set_aside
  aside_first h = rw h refl

  aside_second : is_subnormal f x ≡ true → set_aside f x ≡ true
  unfolding set_aside
  aside_second h = rw (h, or-true) refl

  -- below the smallest normal number
  small_aside : x < 2 ^ f.frac → set_aside f x ≡ true
  small_aside l =
      let p = div_is x (2 ^ f.frac) 0 x l (omega arith) in
      let q : field f x ≡ 0 = ap (λ n. n % 2 ^ f.expo) p.0 ∙ mod-eq_of_lt (pow_pos f.expo) in
      order x 0
      (λ h. aside_first (zero_rootless (omega arith)))
      (λ h. aside_second (ap (λ t. t && ltb 0 (fraction f x)) (eq-eqb (field f x) 0 q) ∙ lt-ltb 0 (fraction f x) (omega (arith, p.1))))

  -- a normal positive number
  normal_stays : 2 ^ f.frac ≤ x → x < inf f → set_aside f x ≡ false
  unfolding set_aside
  normal_stays l h =
      let t : x < top f = omega (arith, inf_below_top f) in
      let (q, r) = div_mod x (2 ^ f.frac) (pow_pos f.frac) in
      let k : x / 2 ^ f.frac < 2 ^ f.expo = mul_lt_cancel (x / 2 ^ f.frac) (2 ^ f.expo) (2 ^ f.frac) (omega (arith, pow-add 2 f.frac f.expo)) in
      let i : 1 ≤ x / 2 ^ f.frac = mul_lt_cancel 0 (x / 2 ^ f.frac) (2 ^ f.frac) (omega arith) in
      let n : field f x ≡ x / 2 ^ f.frac = mod-eq_of_lt k in
      let s : is_subnormal f x ≡ false = ap (λ u. u && ltb 0 (fraction f x)) (ne_eqb (field f x) 0 (λ z. omega arith)) in
      rw (number_rooted (omega (arith, pow_pos f.frac)) h, s) refl

  pub aside_test : (least i v : ℕ) → least ≡ 2 ^ f.frac → i ≡ inf f → least ≤ i → (v + least) % 2 ^ 64 ≡ x → v < 2 ^ 64 → top f < 2 ^ 64 → leb (i - least) v ≡ set_aside f x
  aside_test least i v e q p w l g =
      by_wrap f x least i v (set_aside f x) q p w l g
      (λ h. small_aside (omega arith)) (λ h. aside_first (high_rootless h)) (λ h k. normal_stays (omega arith) k)

  -- a pattern that has a root is a positive number
  pub rooted_above : rootless f x ≡ false → Above f x
  unfolding rootless
  rooted_above h =
      let (abc, d') = neither (a || b || c) d h in
      let (ab, c') = neither (a || b) c abc in
      let (a', b') = neither a b ab in
      let p = eqb-false (magnitude f x) 0 a' in
      let q = eqb-false (magnitude f x) (inf f) b' in
      let r = ltb-false (inf f) (magnitude f x) c' in
      record { some = omega (arith, p); below = omega (arith, q); plus = d' }

  pub stays_rooted : set_aside f x ≡ false → rootless f x ≡ false
  unfolding set_aside
  stays_rooted h = (neither (rootless f x) (is_subnormal f x) h).0

  -- a normal number
  pub stays_normal : set_aside f x ≡ false → 0 < field f x
  unfolding set_aside
  stays_normal h =
      let s = neither (rootless f x) (is_subnormal f x) h in
      let m = (rooted_above s.0).some in
      order (field f x) 0
      (λ l.
      let e : field f x ≡ 0 = omega arith in
      let n : is_subnormal f x ≡ true = ap (λ t. t && ltb 0 (fraction f x)) (eq-eqb (field f x) 0 e) ∙ lt-ltb 0 (fraction f x) (omega (arith, magnitude_fields f x, times (2 ^ f.frac) e)) in
      absurd (let q : ◌≡◌ {A = ℕ} 0 1 = cc in omega arith))
      (λ l. l)

  -- ---- a pattern that has no root, and is neither a zero nor infinity, is past infinity
  pub past_of : rootless f x ≡ true → 0 < magnitude f x → (x ≡ inf f → ⊥) → inf f < x
  past_of s some n =
      order x (inf f)
      (λ l. order x 0
      (λ z. absurd (let e : x ≡ 0 = omega arith in let m : magnitude f x ≡ 0 = ap (λ k. k % top f) e ∙ mod-eq_of_lt (pow_pos (f.frac + f.expo)) in omega arith))
      (λ z. absurd (let q = number_rooted (omega arith) (omega (arith, n)) in let r : ◌≡◌ {A = ℕ} 0 1 = cc in omega arith)))
      (λ l. l)

-- ---- by a format k that is the layout f of a word
module _ {k f : Format} (e : k ≡ f) (x : ℕ) where
  pub rooted_at : rootless k x ≡ false → Above f x
  rooted_at h = subst (λ f. Above f x) e (rooted_above k x h)

  pub stays_at : set_aside k x ≡ false → Above f x × (0 < field f x)
  stays_at h = subst (λ f. Above f x × (0 < field f x)) e (rooted_above k x (stays_rooted k x h), stays_normal k x h)
