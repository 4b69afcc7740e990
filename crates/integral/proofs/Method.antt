-- The code computes trunc, over the format; and where the point stands within the fraction. Assumes nothing.
use Rattle.std.proofs.Common.{◌≡◌, ℕ, suc, ◌+◌, ◌-◌, ◌*◌, ◌/◌, ◌^◌, ◌<◌, ◌≤◌, sym, refl, ap, ◌∙◌, subst, arith, pow_pos}
use Rattle.algebra.proofs.Quotients.{div_mod}
use Rattle.ieee.specs.Format.{Format, Fair, top, bias, inf}
use Rattle.ieee.specs.Pattern.{Pattern, field}
use Rattle.ieee.specs.Round.{toward_zero}
use Rattle.ieee.specs.Whole.{trunc_of}
use Rattle.ieee.proofs.Fields.{magnitude_fields, fraction_small}
use Rattle.fmt_fields.specs.Width.{format, Fits}
use Rattle.integral.specs.Point.{exponent_of, behind_of, one_nan, Tail}
use Rattle.integral.proofs.Masks.{behind_part}
use Rattle.integral.proofs.Choices.{by_cases, not_past, exponent_at, exponent_part}
use Rattle.integral.proofs.WholeParts.{stays, far, shorter_all, shorter_part}

-- ---- trunc
module _ (f : Format) (g : Fair f) (x b : ℕ) (p : Pattern f x) (t : Tail f x b) where
  -- a number with bits behind the point is far from infinity, and not a NaN
  one_number : field f x < bias f + f.frac → one_nan f x ≡ x
  one_number h = not_past f x (omega (arith, far f g (field f x) h, magnitude_fields f x, fraction_small f x))

  pub trunc_by_tail : one_nan f x / suc b * suc b ≡ trunc_of f x
  unfolding trunc_of
  trunc_by_tail =
      by_cases f x
      (λ h.
      let d : suc b ≡ top f = t.mask.1 ∙ ap (λ k. 2 ^ k) (t.below h) in
      ap (λ y. y / suc b * suc b) (one_number (omega arith))
      ∙ ap (λ d. x / d * d) d
      ∙ omega (arith, div_mod x (top f) (pow_pos (f.frac + f.expo)))
      ∙ sym (shorter_all f g toward_zero x p refl h))
      (λ l h.
      let e = t.part l h in
      ap (λ y. y / suc b * suc b) (one_number h)
      ∙ ap (λ d. x / d * d) t.mask.1
      ∙ sym (shorter_part f g toward_zero x t.mask.0 p refl l (omega arith) e))
      (λ h.
      let z : b ≡ 0 = omega (arith, t.mask.1, ap (λ k. 2 ^ k) (t.whole h)) in
      ap (λ d. one_nan f x / suc d * suc d) z ∙ omega arith ∙ sym (stays f g toward_zero x p h))

-- where the point stands within the fraction, b masks the k bits behind it
pub record Part (f : Format) (x b : ℕ) : Type 0 where
  pub k : ℕ
  pub mask : suc b ≡ 2 ^ k
  pub some : 1 ≤ k
  pub stands : field f x + k ≡ bias f + f.frac

pub part_of : {p e : ℕ} → Fits p e → (x : ℕ) → bias (format p e) ≤ field (format p e) x → field (format p e) x < bias (format p e) + p → Part (format p e) x (behind_of p (exponent_of (format p e) x))
part_of {p} {e} w x l h =
    let i = exponent_at w x l in
    let n = exponent_of (format p e) x in
    record { k = p - n; mask = behind_part p n (omega (arith, w.word, w.fair.expo_two)) (omega arith); some = omega arith; stands = omega arith }

-- the mask b of an exponent n below the bits of the fraction
pub part_within : {p e : ℕ} → Fits p e → (x n b : ℕ) → n ≡ exponent_of (format p e) x → n < p → b ≡ behind_of p n → (bias (format p e) ≤ field (format p e) x) × Part (format p e) x b
part_within {p} {e} w x n b i h m =
    let f = format p e in
    let at = exponent_part w x (omega arith) in
    let l : bias f ≤ field f x = omega arith in
    (l, subst (Part f x) (sym (m ∙ ap (behind_of p) i)) (part_of w x l (omega arith)))

pub one_below_infinity : (f : Format) → Fair f → bias f * 2 ^ f.frac < inf f
one_below_infinity f g = omega (arith, far f g (bias f) (omega (arith, g.frac_pos)), pow_pos f.frac)
