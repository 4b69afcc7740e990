-- remquo of two numbers by whole numbers at one exponent: their division gives the remainder and the quotient. Assumes nothing.
use Rattle.std.proofs.Common.{◌≡◌, ℕ, suc, ◌+◌, ◌-◌, ◌*◌, ◌/◌, ◌%◌, ◌^◌, ◌<◌, ◌≤◌, Bool, true, false, cond, not, ◌&&◌, ◌||◌, eqb, ltb, pos, ◌-ℤ◌, sym, refl, ap, ◌∙◌, arith, pow_pos, le-ltb, lt-ltb}
use Rattle.algebra.proofs.Products.{times, times_le, mul_le_cancel, mul_lt_cancel}
use Rattle.algebra.proofs.Quotients.{div_mod}
use Rattle.ieee.specs.Format.{Format, low, units, inf}
use Rattle.ieee.specs.Pattern.{minus, signed, unlike, with_sign, kind, finite}
use Rattle.ieee.specs.Round.{even, exactly}
use Rattle.ieee.specs.Whole.{whole}
use Rattle.ieee.specs.Remquo.{rest, remquo_of, quotient_of}
use Rattle.ieee.proofs.Remquos.{remquo_finite, quotient_finite}
use Rattle.remquo.specs.Nearest.{goes_up, counted, left_over}
use Rattle.remquo.proofs.Middles.{left_at_most_rest}
use Rattle.fmt_decode.specs.Significand.{units_at}
use Rattle.fmt_decode.proofs.InUnits.{units_exact}
use Rattle.remquo.proofs.Ratios.{ratio_parts, nearest_alike}

-- ---- the remainder, in units: the multiple q * v is at most u, and the next one exceeds it
module _ (f : Format) (s : Bool) (u v a d at : ℕ) (some : 0 < d) (first : u * 2 ^ f.frac ≡ a * 2 ^ at) (second : v * 2 ^ f.frac ≡ d * 2 ^ at) where
  parts : (u / v ≡ a / d) × (u % v * 2 ^ f.frac ≡ a % d * 2 ^ at)
  parts = ratio_parts u v a d (2 ^ f.frac) (2 ^ at) (pow_pos f.frac) (pow_pos at) some first second

  some_units : 0 < v
  some_units = mul_lt_cancel 0 v (2 ^ f.frac) (omega (arith, second, times_le (2 ^ at) some, pow_pos at))

  -- the distance in units, by that of the whole numbers
  in_units : (r t : ℕ) → r * 2 ^ f.frac ≡ t * 2 ^ at → r ≡ units_at f t (pos at -ℤ pos (f.frac + low f))
  in_units r t e = sym (units_exact f f.frac at t r e)

  rest_of : (b : Bool) (n : ℕ) → n ≡ a / d + cond b 1 0 → rest f s u (n * v) ≡ signed f (unlike s b) (exactly f (units_at f (cond b (d - a % d) (a % d)) (pos at -ℤ pos (f.frac + low f))))
  rest_of true n e =
      let (q, r) = parts in
      let (c, l) = div_mod u v some_units in
      let m : n * v ≡ u / v * v + v = omega (arith, times v e, times v q) in
      let k : (n * v - u) * 2 ^ f.frac ≡ (d - a % d) * 2 ^ at =
      let w : n * v - u + u % v ≡ v = omega arith in
      let z : d - a % d + a % d ≡ d = omega (arith, div_mod a d some) in
      omega (arith, times (2 ^ f.frac) w, times (2 ^ at) z, r, second) in
      ap (λ t. cond t (signed f (not s) (exactly f (n * v - u))) (signed f s (exactly f (u - n * v)))) (lt-ltb u (n * v) (omega arith))
      ∙ ap (λ t. signed f (not s) (exactly f t)) (in_units (n * v - u) (d - a % d) k)
      ∙ ap (λ t. signed f t (exactly f (units_at f (d - a % d) (pos at -ℤ pos (f.frac + low f))))) (turned s)
    where
      turned : (t : Bool) → not t ≡ unlike t true
      turned true = refl
      turned false = refl
  rest_of false n e =
      let (q, r) = parts in
      let (c, l) = div_mod u v some_units in
      let m : n * v ≡ u / v * v = omega (arith, times v e, times v q) in
      let k : u - n * v ≡ u % v = omega arith in
      ap (λ t. cond t (signed f (not s) (exactly f (n * v - u))) (signed f s (exactly f (u - n * v)))) (le-ltb u (n * v) (omega arith))
      ∙ ap (λ t. signed f s (exactly f t)) (in_units (u - n * v) (a % d) (ap (λ t. t * 2 ^ f.frac) k ∙ r))
      ∙ ap (λ t. signed f t (exactly f (units_at f (a % d) (pos at -ℤ pos (f.frac + low f))))) (kept s)
    where
      kept : (t : Bool) → t ≡ unlike t false
      kept true = refl
      kept false = refl

  -- in both cases the format's units count it exactly
  counts : (b : Bool) → (r : ℕ) × (r * 2 ^ f.frac ≡ cond b (d - a % d) (a % d) * 2 ^ at)
  counts true =
      let (q, r) = parts in
      let (c, l) = div_mod u v some_units in
      let w : v - u % v + u % v ≡ v = omega arith in
      let z : d - a % d + a % d ≡ d = omega (arith, div_mod a d some) in
      (v - u % v, omega (arith, times (2 ^ f.frac) w, times (2 ^ at) z, r, second))
  counts false = (u % v, parts.1)

  -- where it is at most the remainder, it is at most u
  left_within : (b : Bool) → cond b (d - a % d) (a % d) ≤ a % d → units_at f (cond b (d - a % d) (a % d)) (pos at -ℤ pos (f.frac + low f)) ≤ u
  left_within b l =
      let (r, e) = counts b in
      let t : cond b (d - a % d) (a % d) ≤ a = omega (arith, l, div_mod a d some) in
      let k : r ≤ u = mul_le_cancel r u (2 ^ f.frac) (pow_pos f.frac) (omega (arith, e, first, times_le (2 ^ at) t)) in
      omega (arith, in_units r (cond b (d - a % d) (a % d)) e)

-- ---- a quotient of which 32 bits are kept: its last bit, and its last 31 bits with b added, are those of the whole quotient, whether or not the sum wraps
tie_alike : (r d q : ℕ) → goes_up r d (q % 2 ^ 32) ≡ goes_up r d q
tie_alike r d q = let e : q % 2 ^ 32 % 2 ≡ q % 2 = omega arith in ap (λ t. ltb d (2 * r) || (eqb (2 * r) d && eqb t 1)) e

kept_alike : (q k b n : ℕ) → k ≡ q % 2 ^ 32 → n ≡ q + b → (k + b) % 2 ^ 31 ≡ n % 2 ^ 31
kept_alike q k b n e h = omega arith

-- ---- remquo, where x is a and y is d at the exponent `at`, and rem and quo are from their division
module _ (f : Format) (x y u w : ℕ) (is_x : kind f x ≡ finite u) (is_y : kind f y ≡ finite (suc w)) where
  module _ (a d at rem quo : ℕ) (some : 0 < d) (first : u * 2 ^ f.frac ≡ a * 2 ^ at) (second : suc w * 2 ^ f.frac ≡ d * 2 ^ at) (is-rem : rem ≡ a % d) (is-quo : quo ≡ a / d % 2 ^ 32) where
    up_alike : goes_up rem d quo ≡ goes_up (a % d) d (a / d)
    up_alike = (λ i. goes_up (is-rem i) d (is-quo i)) ∙ tie_alike (a % d) d (a / d)

    left_alike : left_over rem d quo ≡ cond (goes_up rem d quo) (d - a % d) (a % d)
    left_alike = (λ i. cond (goes_up rem d quo) (d - is-rem i) (is-rem i))

    number : whole even u (suc w) ≡ a / d + cond (goes_up rem d quo) 1 0
    number =
        nearest_alike u (suc w) a d (2 ^ f.frac) (2 ^ at) (pow_pos f.frac) (pow_pos at) some first second
        ∙ ap (λ b. a / d + cond b 1 0) (sym up_alike)

    pub value-by-division :
        signed f (unlike (minus f x) (goes_up rem d quo)) (exactly f (units_at f (left_over rem d quo) (pos at -ℤ pos (f.frac + low f)))) ≡ remquo_of f x y
    value-by-division =
        ap (λ t. signed f (unlike (minus f x) (goes_up rem d quo)) (exactly f (units_at f t (pos at -ℤ pos (f.frac + low f))))) left_alike
        ∙ sym (rest_of f (minus f x) u (suc w) a d at some first second (goes_up rem d quo) (whole even u (suc w)) number)
        ∙ sym (remquo_finite f x y u w is_x is_y)

    pub quotient_by_division : with_sign (unlike (minus f x) (minus f y)) (counted rem d quo % 2 ^ 31) ≡ quotient_of f x y
    quotient_by_division =
        ap (with_sign (unlike (minus f x) (minus f y))) (kept_alike (a / d) quo (cond (goes_up rem d quo) 1 0) (whole even u (suc w)) is-quo number) ∙ sym (quotient_finite f x y u w is_x is_y)

    pub left_below_infinity : u < units f (inf f) → units_at f (left_over rem d quo) (pos at -ℤ pos (f.frac + low f)) < units f (inf f)
    left_below_infinity l =
        let h = left_within f (minus f x) u (suc w) a d at some first second (goes_up rem d quo) (omega (arith, left_alike, is-rem, left_at_most_rest rem d quo)) in
        omega (arith, ap (λ t. units_at f t (pos at -ℤ pos (f.frac + low f))) left_alike)
