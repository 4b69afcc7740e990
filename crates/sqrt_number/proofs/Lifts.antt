-- An exponent lifted: no step wraps, and the sum is not negative, since the fraction has fewer bits than the bias. Assumes nothing.
use Rattle.std.proofs.Common.{ℕ, ◌+◌, ◌^◌, ◌≤◌, ◌<◌, ◌≡◌, ap, ◌∙◌, arith, ℤ, pos, nat_abs, ◌+ℤ◌, w32, SFits, to_z}
use mir.Facts.{to_z_pos}
use Rattle.algebra.proofs.Integers.{up, dn, add_z, abs_z, eq_z, sfits_z}
use Rattle.ieee.specs.Format.{low}
use Rattle.fmt_fields.specs.Width.{format, Fits}
use Rattle.fmt_fields.proofs.Widths.{fields_small}
use Rattle.fmt_decode.specs.Significand.{InRange}
use Rattle.fmt_decode.proofs.Ranges.{low_small, range_bounds, range_fits}
use Rattle.sqrt_number.specs.Split.{lift}
use Rattle.sqrt_number.proofs.Splits.{fields_twice}

module _ {p e : ℕ} (w : Fits p e) (z : ℤ) (r : InRange (format p e) z) (q : ℕ) (is : q ≡ 2 ^ e) where
  abbrev pub more : ℤ
  more = pos q +ℤ pos p

  abbrev pub sum : ℤ
  sum = z +ℤ more

  pub exp_fits : SFits w32 z
  exp_fits = range_fits w z r

  fields_few : q ≤ 2 ^ 16
  fields_few = omega (arith, is, fields_small w)

  pub fields_pos : to_z w32 q ≡ pos q
  fields_pos = to_z_pos w32 (omega (arith, fields_few))

  pub fraction_pos : to_z w32 p ≡ pos p
  fraction_pos = to_z_pos w32 (omega (arith, w.word))

  pub more_fits : SFits w32 more
  more_fits = sfits_z w32 more (omega (arith, fields_few, w.word)) (omega arith)

  added : up sum + dn z ≡ dn sum + up z + (q + p)
  added = omega (arith, add_z z more)

  size : (up z < 2 ^ 17) × (dn z ≤ low (format p e) + p)
  size = range_bounds w z r

  pub sum_fits : SFits w32 sum
  sum_fits = sfits_z w32 sum (omega (arith, added, size, fields_few, w.word)) (omega (arith, added, size, low_small w, w.word))

  pub sum_natural : dn sum ≡ 0
  sum_natural = omega (arith, added, abs_z sum, size, is, fields_twice (format p e) w.fair, w.fair.frac_fits)

  pub lifted : pos (nat_abs sum) ≡ z +ℤ pos (lift (format p e))
  lifted = eq_z (pos (nat_abs sum)) sum (omega (arith, abs_z sum, sum_natural)) ∙ ap (λ n. z +ℤ pos (n + p)) is
