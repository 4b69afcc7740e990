-- Two numbers by their significands and exponents: the difference of the exponents decides whether x is its own remainder, or which division gives it. Assumes nothing.
use Rattle.std.proofs.Common.{◌≡◌, ℕ, suc, ◌+◌, ◌-◌, ◌*◌, ◌/◌, ◌%◌, ◌^◌, ◌<◌, ◌≤◌, Bool, ℤ, pos, negsuc, ◌+ℤ◌, ◌-ℤ◌, sym, refl, ap, ◌∙◌, subst, ap₂, arith, pow_pos, pow_mono, pow-add}
use native.Mathlib.Nat.{two-pow-succ}
use Rattle.algebra.proofs.Products.{times, times_le, mul_le_cancel}
use Rattle.algebra.proofs.Quotients.{div_mod, div_is}
use Rattle.algebra.proofs.Powers.{pow_diff}
use Rattle.algebra.proofs.Integers.{up, add_z, sub_z, one_z, eq_z_fact}
use Rattle.ieee.specs.Format.{Format, top, low, units, inf}
use Rattle.ieee.specs.Pattern.{Pattern, minus, magnitude, signed, unlike, with_sign, kind, finite}
use Rattle.ieee.specs.Exact.{ratio}
use Rattle.ieee.specs.Round.{even, exactly}
use Rattle.ieee.specs.Remquo.{remquo_of, quotient_of}
use Rattle.ieee.proofs.Units.{units_lt, units_zero}
use Rattle.ieee.proofs.Past.{rounded_le}
use Rattle.ieee.proofs.Patterns.{inf_below_top, pattern_signed, kind_finite}
use Rattle.ieee.proofs.Remquos.{remquo_rows}
use Rattle.fmt_fields.specs.Width.{format, Fits}
use Rattle.fmt_exponents.specs.Field.{above}
use Rattle.remquo.specs.Nearest.{goes_up, counted, left_over, Divides}
use Rattle.fmt_decode.specs.Significand.{Normalised, units_at, InRange}
use Rattle.fmt_decode.proofs.Significands.{normal_is}
use Rattle.remquo.proofs.Nearest.{value-by-division, quotient_by_division, left_below_infinity}

-- two finite nonzero numbers, unpacked
pub record Operands (p e x y sx sy : ℕ) (ex ey : ℤ) (nx ny : Bool) : Type 0 where
  pub wide : Fits p e
  pub pattern : Pattern (format p e) x
  pub some_x : 0 < magnitude (format p e) x
  pub below_x : magnitude (format p e) x < inf (format p e)
  pub some_y : 0 < magnitude (format p e) y
  pub below_y : magnitude (format p e) y < inf (format p e)
  pub taken_x : Normalised (format p e) x sx ex nx
  pub taken_y : Normalised (format p e) y sy ey ny

-- what the end of a division requires and gives
pub record Settles (p e x y rem div quo : ℕ) (exp : ℤ) : Type 0 where
  pub rest : rem < div
  pub room : div < 2 ^ (p + 2)
  pub range : InRange (format p e) exp
  pub finite : units_at (format p e) (left_over rem div quo) exp < units (format p e) (inf (format p e))
  pub value : signed (format p e) (unlike (minus (format p e) x) (goes_up rem div quo)) (exactly (format p e) (units_at (format p e) (left_over rem div quo) exp)) ≡ remquo_of (format p e) x y
  pub quotient : with_sign (unlike (minus (format p e) x) (minus (format p e) y)) (counted rem div quo % 2 ^ 31) ≡ quotient_of (format p e) x y

-- what is rounded exactly has room for the sign above it
pub exactly_fits : (f : Format) (u : ℕ) → exactly f u < top f
exactly_fits f u = omega (arith, rounded_le f even (ratio u 1), inf_below_top f)

-- the same with the signs as computed
pub settled_is : {p e x y rem div quo : ℕ} {exp : ℤ} → Settles p e x y rem div quo exp → (s t : Bool) → s ≡ minus (format p e) x → t ≡ minus (format p e) y → (v : ℕ) (q : ℤ)
    → v ≡ signed (format p e) (unlike s (goes_up rem div quo)) (exactly (format p e) (units_at (format p e) (left_over rem div quo) exp)) → q ≡ with_sign (unlike s t) (counted rem div quo % 2 ^ 31)
    → Divides (format p e) x y v q
settled_is {p} {e} {x} {y} {rem} {div} {quo} {exp} z s t i j v q h k =
    let f = format p e in
    let u = units_at f (left_over rem div quo) exp in
    record {
      value = h ∙ ap (λ b. signed f (unlike b (goes_up rem div quo)) (exactly f u)) i ∙ z.value;
      quotient = k ∙ ap₂ (λ a b. with_sign (unlike a b) (counted rem div quo % 2 ^ 31)) i j ∙ z.quotient;
      pattern = subst (Pattern f) (sym h) (pattern_signed f (unlike s (goes_up rem div quo)) (exactly f u) (exactly_fits f u));
    }

-- ---- one operand
record Placed (f : Format) (x s at : ℕ) (exp : ℤ) : Type 0 where
  least : 2 ^ f.frac ≤ s
  most : s < 2 * 2 ^ f.frac
  exponent : exp ≡ pos at -ℤ pos (f.frac + low f)
  counts : units f (magnitude f x) * 2 ^ f.frac ≡ s * 2 ^ at
  range : InRange f exp

at_exponent : {p e : ℕ} → Fits p e → (x s : ℕ) (exp : ℤ) (neg : Bool) → 0 < magnitude (format p e) x → Normalised (format p e) x s exp neg → (at : ℕ) × Placed (format p e) x s at exp
at_exponent {p} {e} w x s exp neg l (i, j, k, g) =
    let f = format p e in
    let (at, n) = normal_is f w.fair x l in (
      at,
      record {
        least = omega (arith, i, n.least);
        most = omega (arith, i, n.most);
        exponent = j ∙ n.exponent;
        counts = n.counts ∙ ap (λ t. t * 2 ^ at) (sym i);
        range = g;
      },
    )

units_some : (f : Format) (m : ℕ) → 0 < m → 0 < units f m
units_some f m l = omega (arith, units_lt f l, units_zero f)

above_up : (z : ℤ) → above z ≡ up z
above_up (pos n) = refl
above_up (negsuc n) = refl

-- ---- both
module _ {p e x y sx sy : ℕ} {ex ey : ℤ} {nx ny : Bool} (o : Operands p e x y sx sy ex ey nx ny) where
  abbrev f : Format
  f = format p e

  abbrev u : ℕ
  u = units f (magnitude f x)

  -- the units of y, less one
  abbrev v : ℕ
  v = units f (magnitude f y) - 1

  a : (at : ℕ) × Placed f x sx at ex
  a = at_exponent o.wide x sx ex nx o.some_x o.taken_x

  b : (at : ℕ) × Placed f y sy at ey
  b = at_exponent o.wide y sy ey ny o.some_y o.taken_y

  units_y : suc v ≡ units f (magnitude f y)
  units_y = omega (arith, units_some f (magnitude f y) o.some_y)

  is_x : kind f x ≡ finite u
  is_x = kind_finite f x o.below_x

  is_y : kind f y ≡ finite (suc v)
  is_y = kind_finite f y o.below_y ∙ ap finite (sym units_y)

  far_is : (n : ℕ) → n ≡ above (ex -ℤ ey +ℤ pos 2) → n ≡ a.0 + 2 - b.0
  far_is n h =
      let z = ex -ℤ ey in
      let w = z +ℤ pos 2 in
      omega
      (arith, above_up w, add_z z (pos 2), sub_z ex ey, sub_z (pos a.0) (pos (p + low f)), sub_z (pos b.0) (pos (p + low f)), eq_z_fact a.1.exponent, eq_z_fact b.1.exponent, one_z w)

  pub significands_room : (sx < 2 * sy) × (sy < 2 ^ 62)
  significands_room =
      let w = o.wide in
      (omega (arith, a.1.most, b.1.least), omega (arith, b.1.most, pow_mono {i = p} {j = 61} (omega (arith, w.word, w.fair.expo_two))))

  -- both significands at one exponent, divided
  settles : (c d at rem quo : ℕ) (exp : ℤ) → exp ≡ pos at -ℤ pos (p + low f) → InRange f exp → 0 < d → d < 2 ^ (p + 2) → u * 2 ^ p ≡ c * 2 ^ at → suc v * 2 ^ p ≡ d * 2 ^ at → rem ≡ c % d → quo ≡ c / d % 2 ^ 32
      → Settles p e x y rem d quo exp
  settles c d at rem quo exp j range some room first second r q =
      record {
        rest = omega (arith, r, div_mod c d some);
        room = room;
        range = range;
        finite = subst (λ z. units_at f (left_over rem d quo) z < units f (inf f)) (sym j) (left_below_infinity f x y u v is_x is_y c d at rem quo some first second r q (units_lt f o.below_x));
        value =
            ap (λ z. signed f (unlike (minus f x) (goes_up rem d quo)) (exactly f (units_at f (left_over rem d quo) z))) j
            ∙ value-by-division f x y u v is_x is_y c d at rem quo some first second r q;
        quotient = quotient_by_division f x y u v is_x is_y c d at rem quo some first second r q;
      }

  -- y is more than twice x
  pub all_left : (n : ℕ) → n ≡ above (ex -ℤ ey +ℤ pos 2) → n ≡ 0 → Divides f x y x (pos 0)
  all_left n h z =
      let l : a.0 + 2 ≤ b.0 = omega (arith, far_is n h) in
      let (r, q) = (remquo_rows f).below_half_y x y u v o.pattern is_x is_y half in
      record { value = sym r; quotient = sym q; pattern = o.pattern }
    where
      half : 2 * u ≤ suc v
      half =
          let l : a.0 + 2 ≤ b.0 = omega (arith, far_is n h) in
          let g : 4 * 2 ^ a.0 ≤ 2 ^ b.0 = omega (arith, pow-add 2 a.0 2, pow_mono {i = a.0 + 2} {j = b.0} l) in
          let m : sx ≤ 2 * 2 ^ p = omega (arith, a.1.most) in
          mul_le_cancel (2 * u) (suc v) (2 ^ p) (pow_pos p)
          (omega (arith, a.1.counts, b.1.counts, times (2 ^ p) units_y, times_le (2 ^ a.0) m, times_le (2 ^ p) g, times_le (2 ^ b.0) b.1.least))

  -- y doubled to the exponent of x
  pub one_below : (n : ℕ) → n ≡ above (ex -ℤ ey +ℤ pos 2) → n ≡ 1 → Settles p e x y sx (sy * 2) 0 ex
  one_below n h z =
      let l : b.0 ≡ suc a.0 = omega (arith, far_is n h) in
      let (q, r) = div_is sx (sy * 2) 0 sx (omega (arith, significands_room)) (omega arith) in
      settles sx (sy * 2) a.0 sx 0 ex a.1.exponent a.1.range (omega (arith, b.1.least, pow_pos p)) (omega (arith, b.1.most, pow-add 2 p 2)) a.1.counts
      (ap (λ t. t * 2 ^ p) units_y ∙ b.1.counts ∙ ap (λ k. sy * 2 ^ k) l ∙ omega (arith, times sy (two-pow-succ a.0)))
      (sym r) (omega (arith, q))

  pub not_below : (n rem quo : ℕ) → n ≡ above (ex -ℤ ey +ℤ pos 2) → 2 ≤ n → rem ≡ sx * 2 ^ (n - 2) % sy → quo ≡ sx * 2 ^ (n - 2) / sy % 2 ^ 32 → {d : ℕ} → d ≡ sy → Settles p e x y rem d quo ey
  not_below n rem quo h l r q i =
      let g : b.0 ≤ a.0 = omega (arith, far_is n h) in
      let k : a.0 - b.0 ≡ n - 2 = omega (arith, far_is n h) in
      subst (λ d. Settles p e x y rem d quo ey) (sym i)
      (settles (sx * 2 ^ (n - 2)) sy b.0 rem quo ey b.1.exponent b.1.range (omega (arith, b.1.least, pow_pos p)) (omega (arith, b.1.most, pow-add 2 p 2))
      (a.1.counts ∙ omega (arith, times sx (pow_diff g)) ∙ ap (λ i. sx * 2 ^ i * 2 ^ b.0) k)
      (ap (λ t. t * 2 ^ p) units_y ∙ b.1.counts) r q)
