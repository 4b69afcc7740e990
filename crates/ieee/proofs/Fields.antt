-- A pattern by its exponent field and its fraction: its magnitude, its units, its kind. Assumes nothing.
use Prim.Native.Nat.{ℕ, ◌+◌, ◌-◌, ◌*◌, ◌/◌, ◌%◌, ◌^◌, ◌<◌}
use mathlib.Core.Path.{◌≡◌, ap, ◌∙◌}
use native.Mathlib.Nat.{mod-lt}
use native.Mathlib.Omega.{arith}
use lib.Arith.{digits_lt}
use lib.Pow.{pow_pos, mod-pow-add}
use Rattle.algebra.proofs.Products.{times}
use Rattle.ieee.specs.Format.{Format, inf, units, fields}
use Rattle.ieee.specs.Pattern.{magnitude, field, fraction, nan, infinite, finite, kind}
use Rattle.ieee.proofs.Units.{units_at_lem}
use Rattle.ieee.proofs.Patterns.{kind_nan, kind_infinite, kind_finite}

module _ (f : Format) (x : ℕ) where
  pub magnitude_fields : magnitude f x ≡ field f x * 2 ^ f.frac + fraction f x
  magnitude_fields = ap (λ n. x % 2 ^ n) (omega arith) ∙ mod-pow-add x f.expo f.frac

  pub fraction_small : fraction f x < 2 ^ f.frac
  fraction_small = mod-lt x (pow_pos f.frac)

  pub field_small : field f x < 2 ^ f.expo
  field_small = mod-lt (x / 2 ^ f.frac) (pow_pos f.expo)

  pub units_of_fields : units f (magnitude f x) ≡ fields (2 ^ f.frac) (field f x) (fraction f x)
  units_of_fields = ap (units f) magnitude_fields ∙ units_at_lem f (field f x) (fraction f x) fraction_small

  pub field_finite : field f x < 2 ^ f.expo - 1 → magnitude f x < inf f
  field_finite h = omega (arith, magnitude_fields, digits_lt h fraction_small)

  pub kind_by_field : field f x < 2 ^ f.expo - 1 → kind f x ≡ finite (units f (magnitude f x))
  kind_by_field h = kind_finite f x (field_finite h)

  pub infinite_by_field : field f x ≡ 2 ^ f.expo - 1 → fraction f x ≡ 0 → kind f x ≡ infinite
  infinite_by_field h e = kind_infinite f x (omega (arith, magnitude_fields, times (2 ^ f.frac) h))

  pub nan_by_field : field f x ≡ 2 ^ f.expo - 1 → 0 < fraction f x → kind f x ≡ nan
  nan_by_field h l = kind_nan f x (omega (arith, magnitude_fields, times (2 ^ f.frac) h))
