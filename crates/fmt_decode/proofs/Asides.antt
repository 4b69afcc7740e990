-- Zeros, infinities and NaNs by magnitude, and the one comparison that finds them. Assumes nothing.
use Rattle.std.proofs.Common.{◌≡◌, ℕ, zero, suc, ◌-◌, ◌^◌, ◌<◌, ◌≤◌, true, false, eqb, sym, refl, ap, ◌∙◌, true≢false, arith, pow_pos, ne_eqb}
use Rattle.algebra.proofs.Products.{order, times, times_le, mul_lt_cancel}
use Rattle.ieee.specs.Format.{Format, inf, units}
use Rattle.ieee.specs.Pattern.{magnitude, field, fraction, finite}
use Rattle.ieee.proofs.Units.{units_zero, units_lt}
use Rattle.ieee.proofs.Patterns.{kind_nan, kind_infinite, kind_finite}
use Rattle.ieee.proofs.Fields.{magnitude_fields, field_finite}
use Rattle.fmt_decode.specs.Aside.{aside_by, aside}

module _ (f : Format) (x : ℕ) where
  pub aside_zero : 0 < inf f → magnitude f x ≡ 0 → aside f x ≡ true
  unfolding aside
  aside_zero some e = rw (kind_finite f x (omega arith) ∙ ap finite (ap (units f) e ∙ units_zero f)) refl

  pub aside_high : inf f ≤ magnitude f x → aside f x ≡ true
  unfolding aside
  aside_high l = order (magnitude f x) (inf f) (λ h. rw (kind_infinite f x (omega arith)) refl) (λ h. rw (kind_nan f x h) refl)

  pub aside_not : 0 < magnitude f x → magnitude f x < inf f → aside f x ≡ false
  unfolding aside
  aside_not p l = rw (kind_finite f x l) (go (units f (magnitude f x)) (omega (arith, units_lt f p, units_zero f)))
    where
      go : (u : ℕ) → 0 < u → aside_by (finite u) ≡ false
      go zero l = absurd (omega arith)
      go (suc u) l = refl

  -- the converse
  pub record Ordinary : Type 0 where
    pub least : 0 < magnitude f x
    pub most : magnitude f x < inf f

  pub ordinary : 0 < inf f → aside f x ≡ false → Ordinary
  ordinary some e =
      order (inf f) (magnitude f x)
      (λ l. absurd (true≢false (sym (aside_high l) ∙ e)))
      (λ l. order (magnitude f x) 0
      (λ h. absurd (true≢false (sym (aside_zero some (omega arith)) ∙ e)))
      (λ h. record { least = h; most = l }))

  pub set_aside_lem : aside f x ≡ true → {G : Type 0} → (magnitude f x ≡ 0 → G) → (inf f ≤ magnitude f x → G) → G
  set_aside_lem e none high =
      order (inf f) (magnitude f x) high
      (λ l. order (magnitude f x) 0 (λ h. none (omega arith)) (λ h. absurd (true≢false (sym e ∙ aside_not h l))))

  -- by the exponent field and the fraction
  pub field_some : 0 < field f x → 0 < magnitude f x
  field_some l = omega (arith, magnitude_fields f x, times_le (2 ^ f.frac) l, pow_pos f.frac)

  pub fraction_alone : field f x ≡ 0 → fraction f x ≡ magnitude f x
  fraction_alone e = omega (arith, magnitude_fields f x, times (2 ^ f.frac) e)

  pub field_last : 2 ^ f.expo - 1 ≤ field f x → inf f ≤ magnitude f x
  field_last l = omega (arith, magnitude_fields f x, times_le (2 ^ f.frac) l)

  pub aside_normal : 0 < field f x → field f x < 2 ^ f.expo - 1 → false ≡ aside f x
  aside_normal p l = sym (aside_not (field_some p) (field_finite f x l))

  pub aside_subnormal : 0 < inf f → field f x ≡ 0 → eqb (fraction f x) 0 ≡ aside f x
  aside_subnormal some e =
      let m = fraction_alone e in
      let small : magnitude f x < inf f = field_finite f x (omega (arith, e, fields_some)) in
      order 1 (fraction f x)
      (λ l. ne_eqb (fraction f x) 0 (omega arith) ∙ sym (aside_not (omega (arith, m)) small))
      (λ l. let z : fraction f x ≡ 0 = omega arith in ap (λ n. eqb n 0) z ∙ sym (aside_zero some (omega (arith, m))))
    where
      fields_some : 0 < 2 ^ f.expo - 1
      fields_some = mul_lt_cancel 0 (2 ^ f.expo - 1) (2 ^ f.frac) (omega (arith, some))
