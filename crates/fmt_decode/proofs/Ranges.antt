-- How far exponents go, as the fields give them and normalised: no step of the code wraps. Assumes nothing.
use Rattle.std.proofs.Common.{◌≡◌, ℕ, ◌+◌, ◌-◌, ◌^◌, ◌<◌, ◌≤◌, ℤ, pos, ◌+ℤ◌, neg_ℤ, sym, ◌∙◌, arith, pow_pos, pow_mono, w32, SFits}
use lib.Signed.{mag}
use Rattle.algebra.proofs.Integers.{up, dn, add_z, sub_z, neg_z, one_z, eq_z_fact, le_z_of, le_z_fact, mag_z, mag_z_fact, sfits_z}
use Rattle.ieee.specs.Format.{Format, low}
use Rattle.ieee.specs.Pattern.{magnitude}
use Rattle.fmt_fields.specs.Width.{format, Fits}
use Rattle.fmt_fields.proofs.Decoded.{field_in_word}
use Rattle.fmt_fields.proofs.Widths.{fields_small}
use Rattle.fmt_decode.specs.Significand.{units_exp, exponent, exp_of, InRange}
use Rattle.fmt_decode.proofs.Significands.{normal_is, exponent_is}

-- the exponent of the smallest unit is small
pub low_small : {p e : ℕ} → Fits p e → low (format p e) < 2 ^ 16
low_small {p} {e} w = omega (arith, pow_mono {i = e - 1} {j = 15} (omega (arith, w.small)), w.word, w.fair.frac_pos)

pub low_fits : {p e : ℕ} → Fits p e → (z : ℤ) → z ≡ pos (low (format p e)) → SFits w32 z
low_fits w z e = sfits_z w32 z (omega (arith, eq_z_fact e, low_small w)) (omega (arith, eq_z_fact e))

-- an exponent in smallest units
pub units_fit : {p e : ℕ} → Fits p e → (n z : ℤ) → mag n < 2 ^ 20 → z ≡ pos (low (format p e)) → SFits w32 (n +ℤ z)
units_fit w n z l e =
    let m = mag_z_fact n l in
    sfits_z w32 (n +ℤ z) (omega (arith, add_z n z, eq_z_fact e, low_small w)) (omega (arith, add_z n z, eq_z_fact e))

module _ {p e : ℕ} (w : Fits p e) where
  abbrev f : Format
  f = format p e

  -- at least -(low + frac), and below 2 ^ 16
  in_range : (z : ℤ) → up z < 2 ^ 16 → dn z ≤ low f + p → InRange f z
  in_range z l h =
      record {
        least = le_z_of (neg_ℤ (pos (low f + p))) z (omega (arith, neg_z (pos (low f + p))));
        small = mag_z z (2 ^ 17) (omega arith) (omega (arith, low_small w, w.word));
      }

  -- and what follows from it
  pub range_bounds : (z : ℤ) → InRange f z → (up z < 2 ^ 17) × (dn z ≤ low f + p)
  range_bounds z r =
      let l = le_z_fact (neg_ℤ (pos (low f + p))) z r.least in
      let m = mag_z_fact z r.small in
      omega (arith, neg_z (pos (low f + p)), one_z z)

  pub range_fits : (z : ℤ) → InRange f z → SFits w32 z
  range_fits z r = let m = mag_z_fact z r.small in sfits_z w32 z (omega arith) (omega arith)

  module _ (x : ℕ) where
    pub exponent_in_range : {z : ℤ} → z ≡ exponent f x → InRange f z
    exponent_in_range {z} i =
        let s = sub_z (pos (units_exp f x)) (pos (low f)) in
        let e = eq_z_fact (i ∙ sym (exponent_is f x)) in
        in_range z (omega (arith, field_in_word w x, one_z z)) (omega (arith, one_z z))

    pub exp_in_range : 0 < magnitude f x → {z : ℤ} → z ≡ exp_of f x → InRange f z
    exp_in_range some {z} i =
        let (at, n) = normal_is f w.fair x some in
        let s = sub_z (pos at) (pos (p + low f)) in
        let e = eq_z_fact (i ∙ n.exponent) in
        let b = n.below_all in
        in_range z (omega (arith, fields_small w, one_z z, w.word, pow_pos p)) (omega (arith, one_z z))
