-- Choices by the point of a pattern. Assumes nothing.
use Rattle.std.proofs.Common.{◌≡◌, ℕ, suc, ◌+◌, ◌-◌, ◌*◌, ◌/◌, ◌%◌, ◌^◌, ◌<◌, ◌≤◌, ltb, sym, refl, ap, ◌∙◌, mod-eq_of_lt, arith, pow_pos, pow_mono, pow-add, le-ltb, lt-ltb}
use Rattle.algebra.proofs.Products.{order, times, times_le, mul_le_cancel, mul_lt_cancel}
use Rattle.algebra.proofs.Quotients.{div_mod, mod_is}
use Rattle.ieee.specs.Format.{Format, top, bias, inf, canonical}
use Rattle.ieee.specs.Pattern.{magnitude, field}
use Rattle.ieee.proofs.Fields.{magnitude_fields, field_finite}
use Rattle.ieee.proofs.Patterns.{inf_below_top}
use Rattle.fmt_fields.specs.Width.{format, Fits}
use Rattle.fmt_fields.proofs.Decoded.{field_in_word}
use Rattle.integral.specs.Point.{exponent_of, behind_of, by_point, tail_of, one_nan, Tail}
use Rattle.integral.proofs.Masks.{behind_part}

module _ (f : Format) (x a b c : ℕ) where
  pub at_below : field f x < bias f → by_point f x a b c ≡ a
  unfolding by_point
  at_below h = rw (lt-ltb (field f x) (bias f) h)

  pub at_part : bias f ≤ field f x → field f x < bias f + f.frac → by_point f x a b c ≡ b
  unfolding by_point
  at_part l h = rw (le-ltb (field f x) (bias f) l) (rw (lt-ltb (field f x) (bias f + f.frac) h))

  pub at_whole : bias f + f.frac ≤ field f x → by_point f x a b c ≡ c
  unfolding by_point
  at_whole h = rw (le-ltb (field f x) (bias f) (omega arith)) (rw (le-ltb (field f x) (bias f + f.frac) h))

-- the three cases
pub by_cases : (f : Format) (x : ℕ) {G : Type 0} → (field f x < bias f → G) → (bias f ≤ field f x → field f x < bias f + f.frac → G) → (bias f + f.frac ≤ field f x → G) → G
by_cases f x a b c = order (bias f) (field f x) (λ l. order (bias f + f.frac) (field f x) c (b l)) a

pub past_infinity : (f : Format) (x : ℕ) → inf f < magnitude f x → one_nan f x ≡ canonical f
unfolding one_nan
past_infinity f x h = rw (lt-ltb (inf f) (magnitude f x) h)

pub not_past : (f : Format) (x : ℕ) → magnitude f x ≤ inf f → one_nan f x ≡ x
unfolding one_nan
not_past f x h = rw (le-ltb (inf f) (magnitude f x) h)

-- numbers are told by the exponent field
pub number_by_field : (f : Format) (x : ℕ) → ltb (field f x) (2 ^ f.expo - 1) ≡ ltb (magnitude f x) (inf f)
number_by_field f x =
    order (2 ^ f.expo - 1) (field f x)
    (λ l. le-ltb (field f x) (2 ^ f.expo - 1) l ∙ sym (le-ltb (magnitude f x) (inf f) (omega (arith, magnitude_fields f x, times_le (2 ^ f.frac) l))))
    (λ l. lt-ltb (field f x) (2 ^ f.expo - 1) l ∙ sym (lt-ltb (magnitude f x) (inf f) (field_finite f x l)))

-- ---- in words
module _ {p e : ℕ} (w : Fits p e) where
  bias_small : bias (format p e) < 2 ^ 16
  bias_small = omega (arith, pow_mono {i = e - 1} {j = 16} (omega (arith, w.small)))

  -- from 1 on the exponent does not wrap
  pub exponent_at : (x : ℕ) → bias (format p e) ≤ field (format p e) x → field (format p e) x ≡ bias (format p e) + exponent_of (format p e) x
  exponent_at x l = omega (arith, bias_small, field_in_word w x)

  -- the point stands within the fraction exactly where the exponent is below its number of bits
  pub exponent_part : (x : ℕ) → exponent_of (format p e) x < p → field (format p e) x ≡ bias (format p e) + exponent_of (format p e) x
  exponent_part x l = omega (arith, bias_small, field_in_word w x, w.word)

  -- so the choice of masks is a mask
  pub tail_is : (x : ℕ) → Tail (format p e) x (tail_of (format p e) x)
  tail_is x =
      let f = format p e in
      let a = top f - 1 in
      let n = exponent_of f x in
      let b = behind_of p n in
      by_cases f x
      (λ h. record {
        mask = (p + e, omega (arith, at_below f x a b 0 h, pow_pos (p + e)));
        below = λ l. refl;
        part = λ l g. absurd (omega arith);
        whole = λ l. absurd (omega arith);
      })
      (λ l h.
      let i = exponent_at x l in
      record {
        mask = (p - n, ap suc (at_part f x a b 0 l h) ∙ behind_part p n (omega (arith, w.word, w.fair.expo_two)) (omega arith));
        below = λ g. absurd (omega arith);
        part = λ g o. omega arith;
        whole = λ g. absurd (omega arith);
      })
      (λ h. record { mask = (0, omega (arith, at_whole f x a b 0 h)); below = λ l. absurd (omega arith); part = λ l g. absurd (omega arith); whole = λ l. refl })

  -- the sign shifted out, in a word of 64 bits
  abbrev room : ℕ
  room = 64 - (p + e)

  full : 2 ^ (p + e) * 2 ^ room ≡ 2 ^ 64
  full = let a : p + e + room ≡ 64 = omega (arith, w.word) in sym (pow-add 2 (p + e) room) ∙ ap (λ n. 2 ^ n) a

  pub sign_out : (x : ℕ) → x * 2 ^ room % 2 ^ 64 ≡ magnitude (format p e) x * 2 ^ room
  sign_out x =
      let (d, l) = div_mod x (2 ^ (p + e)) (pow_pos (p + e)) in
      mod_is (x * 2 ^ room) (2 ^ 64) (x / 2 ^ (p + e)) (magnitude (format p e) x * 2 ^ room) (omega (arith, times_le (2 ^ room) l, full, pow_pos room)) (omega (arith, times (2 ^ room) d, times (x / 2 ^ (p + e)) full))

  -- infinity has no sign to shift out
  inf_out : (i j : ℕ) → i ≡ inf (format p e) → j ≡ magnitude (format p e) i * 2 ^ room → j ≡ inf (format p e) * 2 ^ room
  inf_out i j a b = b ∙ times (2 ^ room) (ap (magnitude (format p e)) a ∙ mod-eq_of_lt (inf_below_top (format p e)))

  pub past_is_nan : (x i j : ℕ) → i ≡ inf (format p e) → j ≡ magnitude (format p e) i * 2 ^ room → j < magnitude (format p e) x * 2 ^ room → one_nan (format p e) x ≡ canonical (format p e)
  past_is_nan x i j a b h = past_infinity (format p e) x (mul_lt_cancel (inf (format p e)) (magnitude (format p e) x) (2 ^ room) (omega (arith, inf_out i j a b)))

  pub rest_stays : (x i j : ℕ) → i ≡ inf (format p e) → j ≡ magnitude (format p e) i * 2 ^ room → magnitude (format p e) x * 2 ^ room ≤ j → one_nan (format p e) x ≡ x
  rest_stays x i j a b h = not_past (format p e) x (mul_le_cancel (magnitude (format p e) x) (inf (format p e)) (2 ^ room) (pow_pos room) (omega (arith, inf_out i j a b)))

  -- shifted magnitudes lie as the magnitudes do
  pub number_out : (x i j : ℕ) → i ≡ inf (format p e) → j ≡ magnitude (format p e) i * 2 ^ room → magnitude (format p e) x * 2 ^ room < j → magnitude (format p e) x < inf (format p e)
  number_out x i j a b h = mul_lt_cancel (magnitude (format p e) x) (inf (format p e)) (2 ^ room) (omega (arith, inf_out i j a b))

  pub rest_out : (x i j : ℕ) → i ≡ inf (format p e) → j ≡ magnitude (format p e) i * 2 ^ room → j ≤ magnitude (format p e) x * 2 ^ room → inf (format p e) ≤ magnitude (format p e) x
  rest_out x i j a b h = mul_le_cancel (inf (format p e)) (magnitude (format p e) x) (2 ^ room) (pow_pos room) (omega (arith, inf_out i j a b))

  -- a shifted magnitude is 0 exactly where the magnitude is
  pub none_out : (x : ℕ) → magnitude (format p e) x * 2 ^ room ≡ 0 → magnitude (format p e) x ≡ 0
  none_out x z = omega (arith, mul_le_cancel (magnitude (format p e) x) 0 (2 ^ room) (pow_pos room) (omega (arith, z)))
