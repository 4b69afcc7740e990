-- The units of a number by its fields, which fit in a word. Assumes nothing.
use Rattle.std.proofs.Common.{◌≡◌, ℕ, zero, suc, ◌+◌, ◌-◌, ◌*◌, ◌^◌, ◌<◌, ap, ◌∙◌, arith, pow_mono}
use Rattle.ieee.specs.Format.{Format, units, fields}
use Rattle.ieee.specs.Pattern.{magnitude, field, fraction}
use Rattle.ieee.proofs.Fields.{units_of_fields, fraction_small, field_small}
use Rattle.fmt_fields.specs.Width.{format, Fits}
use Rattle.fmt_fields.proofs.Widths.{fields_small}

pub units_subnormal : (f : Format) (x : ℕ) → field f x ≡ 0 → units f (magnitude f x) ≡ fraction f x
units_subnormal f x h = units_of_fields f x ∙ ap (λ q. fields (2 ^ f.frac) q (fraction f x)) h

pub fields_normal : (f : Format) (q r : ℕ) → 0 < q → fields (2 ^ f.frac) q r ≡ (2 ^ f.frac + r) * 2 ^ (q - 1)
fields_normal f zero r l = absurd (omega arith)
fields_normal f (suc q) r l = ap (λ j. (2 ^ f.frac + r) * 2 ^ j) (omega arith)

pub units_normal : (f : Format) (x : ℕ) → 0 < field f x → units f (magnitude f x) ≡ (2 ^ f.frac + fraction f x) * 2 ^ (field f x - 1)
units_normal f x l = units_of_fields f x ∙ fields_normal f (field f x) (fraction f x) l

module _ {p e : ℕ} (w : Fits p e) (x : ℕ) where
  pub significand_room : 2 ^ p + fraction (format p e) x < 2 ^ 63
  significand_room = omega (arith, fraction_small (format p e) x, pow_mono {i = p} {j = 61} (omega (arith, w.word, w.fair.expo_two)))

  pub field_in_word : field (format p e) x < 2 ^ 16
  field_in_word = omega (arith, field_small (format p e) x, fields_small w)
