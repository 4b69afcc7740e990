-- The lower neighbour and the location of a significand over a power of two, by its quotient and its remainder. Assumes nothing.
use Prim.Native.Nat.{ℕ, suc, ◌+◌, ◌-◌, ◌*◌, ◌/◌, ◌%◌, ◌^◌, ◌≤◌, ◌<◌}
use mathlib.Core.Path.{◌≡◌, sym, ap, ◌∙◌}
use mathlib.Core.Bool.{Bool, true, false}
use native.Mathlib.Nat.{two-pow-succ}
use native.Mathlib.Omega.{arith, by_contra}
use lib.Arith.{digits_div}
use lib.Dec.{leb, eqb}
use lib.Pow.{pow-add, pow_pos, pow_mono}
use Rattle.algebra.proofs.Products.{order, times, times_le, mul_le_cancel, mul_lt_cancel}
use Rattle.algebra.proofs.Quotients.{div_mod}
use Rattle.ieee.specs.Format.{Format, Fair, inf, units}
use Rattle.ieee.specs.Exact.{Exact, ratio, Over, over, under, magnified}
use Rattle.ieee.specs.Round.{middle}
use Rattle.ieee.proofs.Rule.{inf_pos}
use Rattle.ieee.proofs.Local.{From}
use Rattle.ieee.proofs.Wider.{magnified_beside}
use Rattle.ieee.proofs.Decide.{alike, leb_reads, eqb_reads, is_true, is_false}
use Rattle.ieee.proofs.Sides.{Sound, over_reads, under_reads, over_down, apart}
use Rattle.ieee.proofs.Units.{gap, gap_at, units_suc, units_at_lem, units_inf, units_rise}
use Rattle.round_laws.specs.Location.{below, location_above, location, high_above, beyond_above, high, beyond, part, high_part}
use Rattle.round_laws.proofs.Parts.{tells}
use Rattle.round_laws.proofs.Choices.{below_is, location_above_is, high_above_is, beyond_above_is}

-- x has the lower neighbour m and the location p; it is high where h is set, and beyond the next where b is
abbrev pub Lies : Format → Exact → ℕ → ℕ → Bool → Bool → Type 0
Lies f x m p h b = (below f x ≡ m) × (location f x ≡ p) × (high f x ≡ h) × (beyond f x ≡ b)

-- all of it by the neighbour
pub lies : (f : Format) (x : Exact) (m : ℕ) {p : ℕ} {h b : Bool} → below f x ≡ m → location_above f m x ≡ p → high_above f m x ≡ h → beyond_above f m x ≡ b → Lies f x m p h b
lies f x m q a c d = (q, location_above_is f x m q ∙ a, high_above_is f x m q ∙ c, beyond_above_is f x m q ∙ d)

-- n / d is m plus r parts, of which D make up the gap above m; a part is t / d
module _ (f : Format) (n d m r D t : ℕ) (pd : 0 < d) (pt : 0 < t) (b : m < inf f) (e : n ≡ units f m * d + r * t) (h : gap_at f m * d ≡ D * t) (l : r < D) where
  next : units f (suc m) * d ≡ units f m * d + D * t
  next = omega (arith, times d (units_suc f m))

  from : From f (ratio n d) m
  from = record { finite = b; low = omega arith; high = λ q o. omega (arith, next, times_le t l) }

  at_m : under (ratio n d) (2 * units f m) ≡ eqb r 0
  at_m =
      alike (under_reads (ratio n d) (2 * units f m)) (eqb_reads r 0)
      (λ u. omega (arith, mul_le_cancel r 0 t pt (omega arith)), λ z. omega (arith, times t z))

  at_least : over (ratio n d) (middle f m) ≡ leb D (2 * r)
  at_least =
      alike (over_reads (ratio n d) (middle f m)) (leb_reads D (2 * r))
      (λ o. mul_le_cancel D (2 * r) t pt (omega (arith, next)), λ k. omega (arith, next, times_le t k))

  at_most : under (ratio n d) (middle f m) ≡ leb (2 * r) D
  at_most =
      alike (under_reads (ratio n d) (middle f m)) (leb_reads (2 * r) D)
      (λ o. mul_le_cancel (2 * r) D t pt (omega (arith, next)), λ k. omega (arith, next, times_le t k))

  parts : location_above f m (ratio n d) ≡ part r D
  parts = tells at_m at_least at_most

  three_quarters : high_above f m (ratio n d) ≡ high_part r D
  three_quarters =
      alike (over_reads (magnified (ratio n d) 2) (units f m + 3 * units f (suc m))) (leb_reads (3 * D) (4 * r))
      (λ o. mul_le_cancel (3 * D) (4 * r) t pt (omega (arith, next)), λ k. omega (arith, next, times_le t k))

  before_next : beyond_above f m (ratio n d) ≡ false
  before_next = is_false (over_reads (ratio n d) (2 * units f (suc m))) (λ o. omega (arith, next, times_le t l))

  pub lies_by : Lies f (ratio n d) m (part r D) (high_part r D) false
  lies_by = lies f (ratio n d) m (below_is f (ratio n d) pd m from) parts three_quarters before_next

-- ---- the units of a significand q, and the gap above it
module _ (f : Format) where
  -- normal: q has frac + 1 bits, and is shifted up by c
  units_normal : (c q : ℕ) → 2 ^ f.frac ≤ q → q < 2 * 2 ^ f.frac → (units f (c * 2 ^ f.frac + q) ≡ q * 2 ^ c) × (gap_at f (c * 2 ^ f.frac + q) ≡ 2 ^ c)
  units_normal c q l h =
      let r : ℕ = q - 2 ^ f.frac in
      let k : r < 2 ^ f.frac = omega arith in
      let e : c * 2 ^ f.frac + q ≡ suc c * 2 ^ f.frac + r = omega arith in
      let whole : 2 ^ f.frac + r ≡ q = omega arith in
      (ap (units f) e ∙ units_at_lem f (suc c) r k ∙ ap (λ t. t * 2 ^ c) whole, ap (gap_at f) e ∙ ap gap (digits_div (suc c) {m = 2 ^ f.frac} {r = r} k))

  -- as many bits or fewer, not shifted
  units_low : (q : ℕ) → q < 2 * 2 ^ f.frac → (units f q ≡ q) × (gap_at f q ≡ 1)
  units_low q h =
      order (2 ^ f.frac) q
      (λ l. let (u, k) = units_normal 0 q l h in let e : 0 * 2 ^ f.frac + q ≡ q = omega arith in (ap (units f) (sym e) ∙ u ∙ omega arith, ap (gap_at f) (sym e) ∙ k))
      (λ l. let e : 0 * 2 ^ f.frac + q ≡ q = omega arith in
      (ap (units f) (sym e) ∙ units_at_lem f 0 q l, ap (gap_at f) (sym e) ∙ ap gap (digits_div 0 {m = 2 ^ f.frac} {r = q} l)))

-- the quotient q = s / 2 ^ X counts gaps of 2 ^ c
locate_by : (f : Format) (X s a b c m : ℕ) → a + X ≡ b + c → m < inf f → units f m ≡ s / 2 ^ X * 2 ^ c → gap_at f m ≡ 2 ^ c
    → Lies f (ratio (s * 2 ^ a) (2 ^ b)) m (part (s % 2 ^ X) (2 ^ X)) (high_part (s % 2 ^ X) (2 ^ X)) false
locate_by f X s a b c m e l u k = lies_by f (s * 2 ^ a) (2 ^ b) m (s % 2 ^ X) (2 ^ X) (2 ^ a) (pow_pos b) (pow_pos a) l sum step d.1
  where
    d : (s / 2 ^ X * 2 ^ X + s % 2 ^ X ≡ s) × (s % 2 ^ X < 2 ^ X)
    d = div_mod s (2 ^ X) (pow_pos X)

    level : 2 ^ a * 2 ^ X ≡ 2 ^ b * 2 ^ c
    level = sym (pow-add 2 a X) ∙ ap (λ k. 2 ^ k) e ∙ pow-add 2 b c

    sum : s * 2 ^ a ≡ units f m * 2 ^ b + s % 2 ^ X * 2 ^ a
    sum = omega (arith, times (2 ^ a) d.0, times (2 ^ b) u, times (s / 2 ^ X) level)

    step : gap_at f m * 2 ^ b ≡ 2 ^ X * 2 ^ a
    step = omega (arith, times (2 ^ b) k, level)

-- ---- the values s * 2 ^ a / 2 ^ b, where s has X bits more than the format keeps
module _ (f : Format) (g : Fair f) where
  pub quotient_low : (X s : ℕ) → 2 ^ (X + f.frac) ≤ s → 2 ^ f.frac ≤ s / 2 ^ X
  quotient_low X s l =
      let d = div_mod s (2 ^ X) (pow_pos X) in
      by_contra (2 ^ f.frac) (s / 2 ^ X) (λ h. omega (arith, d, pow-add 2 X f.frac, times_le (2 ^ X) h))

  quotient_high : (X s : ℕ) → s < 2 ^ (X + suc f.frac) → s / 2 ^ X < 2 * 2 ^ f.frac
  quotient_high X s h =
      let d = div_mod s (2 ^ X) (pow_pos X) in
      mul_lt_cancel (s / 2 ^ X) (2 * 2 ^ f.frac) (2 ^ X) (omega (arith, d, pow-add 2 X (suc f.frac), times (2 ^ X) (two-pow-succ f.frac)))

  low_finite : (q : ℕ) → q < 2 * 2 ^ f.frac → q < inf f
  low_finite q h =
      let four : 2 ^ 2 ≤ 2 ^ f.expo = pow_mono g.expo_two in
      let two : 2 ≤ 2 ^ f.expo - 1 = omega arith in
      omega (arith, times_le (2 ^ f.frac) two)

  normal_finite : (c q : ℕ) → q < 2 * 2 ^ f.frac → suc c < 2 ^ f.expo - 1 → c * 2 ^ f.frac + q < inf f
  normal_finite c q h k = omega (arith, times_le (2 ^ f.frac) k)

  pub locate_normal : (X s a b c : ℕ) → 2 ^ (X + f.frac) ≤ s → s < 2 ^ (X + suc f.frac) → a + X ≡ b + c → suc c < 2 ^ f.expo - 1
      → Lies f (ratio (s * 2 ^ a) (2 ^ b)) (c * 2 ^ f.frac + s / 2 ^ X) (part (s % 2 ^ X) (2 ^ X)) (high_part (s % 2 ^ X) (2 ^ X)) false
  locate_normal X s a b c l h e k =
      let (u, v) = units_normal f c (s / 2 ^ X) (quotient_low X s l) (quotient_high X s h) in
      locate_by f X s a b c (c * 2 ^ f.frac + s / 2 ^ X) e (normal_finite c (s / 2 ^ X) (quotient_high X s h) k) u v

  -- here s may have fewer bits
  pub locate_subnormal : (s a b k : ℕ) → s < 2 ^ (k + suc f.frac) → a + k ≡ b → Lies f (ratio (s * 2 ^ a) (2 ^ b)) (s / 2 ^ k) (part (s % 2 ^ k) (2 ^ k)) (high_part (s % 2 ^ k) (2 ^ k)) false
  locate_subnormal s a b k h e =
      let (u, v) = units_low f (s / 2 ^ k) (quotient_high k s h) in
      locate_by f k s a b 0 (s / 2 ^ k) (omega arith) (low_finite (s / 2 ^ k) (quotient_high k s h)) (u ∙ omega arith) v

  pub locate_zero : (a b : ℕ) → Lies f (ratio (0 * 2 ^ a) (2 ^ b)) 0 0 false false
  locate_zero a b =
      let (u, k) = units_low f 0 (omega (arith, pow_pos f.frac)) in
      let (m, p, h, b') = lies_by f (0 * 2 ^ a) (2 ^ b) 0 0 (2 ^ b) 1 (pow_pos b) (omega arith) (inf_pos f g) (omega (arith, times (2 ^ b) u)) (omega (arith, times (2 ^ b) k)) (pow_pos b) in
      (m, p, h ∙ is_false (leb_reads (3 * 2 ^ b) (4 * 0)) (λ l. omega (arith, pow_pos b)), b')

  -- at or past the number that would follow the largest
  lies_over : (x : Exact) → Sound x → Over x (2 * units f (inf f)) → Lies f x (inf f - 1) 3 true true
  lies_over x s o = lies f x m (below_is f x s m from) (tells at_m reached past) three_quarters next
    where
      m : ℕ
      m = inf f - 1

      last : units f (suc m) ≡ units f (inf f)
      last = ap (units f) (omega (arith, inf_pos f g))

      from : From f x m
      from = record { finite = omega (arith, inf_pos f g); low = over_down x (omega (arith, last, units_rise f m)) o; high = λ h p. omega arith }

      at_m : under x (2 * units f m) ≡ false
      at_m = is_false (under_reads x (2 * units f m)) (λ u. apart x s (omega (arith, last, units_rise f m)) u o)

      reached : over x (middle f m) ≡ true
      reached = is_true (over_reads x (middle f m)) (over_down x (omega (arith, last, units_rise f m)) o)

      past : under x (middle f m) ≡ false
      past = is_false (under_reads x (middle f m)) (λ u. apart x s (omega (arith, last, units_rise f m)) u o)

      three_quarters : high_above f m x ≡ true
      three_quarters =
          is_true (over_reads (magnified x 2) (units f m + 3 * units f (suc m)))
          (over_down (magnified x 2) (omega (arith, last, units_rise f m)) ((magnified_beside x (2 * units f (inf f)) 2 (omega arith)).0.1 o))

      next : beyond_above f m x ≡ true
      next = is_true (over_reads x (2 * units f (suc m))) (over_down x (omega (arith, last)) o)

  pub locate_over : (X s a b c : ℕ) → 2 ^ (X + f.frac) ≤ s → a + X ≡ b + c → 2 ^ f.expo - 1 ≤ suc c → Lies f (ratio (s * 2 ^ a) (2 ^ b)) (inf f - 1) 3 true true
  locate_over X s a b c l e k = lies_over (ratio (s * 2 ^ a) (2 ^ b)) (pow_pos b) (omega (arith, times_le (2 ^ a) l, times (2 ^ b) (units_inf f g), whole, reach))
    where
      whole : 2 ^ (X + f.frac) * 2 ^ a ≡ 2 ^ (f.frac + c) * 2 ^ b
      whole = sym (pow-add 2 (X + f.frac) a) ∙ ap (λ n. 2 ^ n) (omega arith) ∙ pow-add 2 (f.frac + c) b

      reach : 2 ^ (f.frac + (2 ^ f.expo - 2)) * 2 ^ b ≤ 2 ^ (f.frac + c) * 2 ^ b
      reach = times_le (2 ^ b) (pow_mono (omega arith))
