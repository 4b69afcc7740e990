-- The two parts of modf by where the point stands in a pattern, over the format. Assumes nothing.
use Rattle.std.proofs.Common.{◌≡◌, ℕ, suc, ◌+◌, ◌-◌, ◌*◌, ◌/◌, ◌%◌, ◌^◌, ◌<◌, ◌≤◌, sym, refl, ap, ◌∙◌, mod-lt, mod-eq_of_lt, arith, pow_pos, pow_mono, pow-add}
use native.Mathlib.Omega.{both_ways}
use lib.Pow.{mod-pow-add}
use Rattle.algebra.proofs.Products.{order, times, times_le}
use Rattle.algebra.proofs.Quotients.{div_mod, mod_is}
use Rattle.algebra.proofs.Powers.{pow_diff}
use Rattle.ieee.specs.Format.{Format, Fair, top, bias, low, inf, canonical, units, fields}
use Rattle.ieee.specs.Pattern.{Pattern, minus, magnitude, field, fraction, signed}
use Rattle.ieee.specs.Round.{even, exactly, toward_zero}
use Rattle.ieee.specs.Whole.{trunc_of}
use Rattle.ieee.specs.Modf.{modf_of, modf_whole}
use Rattle.ieee.proofs.Units.{units_lt}
use Rattle.ieee.proofs.Fields.{magnitude_fields, fraction_small, units_of_fields}
use Rattle.ieee.proofs.Patterns.{inf_below_top, signed_is, kind_nan, kind_infinite, kind_finite}
use Rattle.ieee.proofs.Fixed.{fixed_whole}
use Rattle.ieee.proofs.WholeParts.{nan_canonical}
use Rattle.ieee.proofs.Modfs.{modf_nan, modf_infinite, modf_finite, modf_none}
use Rattle.fmt_decode.proofs.Packs.{exactly_below}
use Rattle.integral.proofs.Choices.{not_past}
use Rattle.integral.proofs.Method.{Part}
use Rattle.integral.proofs.WholeParts.{two_le, fields_multiple, below_one_lem, far, part_bits, stays, shorter_all, shorter_part}

abbrev pub Parts : Format → ℕ → ℕ → ℕ → Type 0
Parts f x r w = (r ≡ modf_of f x) × (w ≡ modf_whole f x)

module _ (f : Format) (g : Fair f) (x : ℕ) (p : Pattern f x) where
  -- below 1 all of it is behind the point
  pub parts_below : field f x < bias f → Parts f x x (signed f (minus f x) 0)
  unfolding modf_whole trunc_of
  parts_below h =
      let t = magnitude_fields f x in
      let r = fraction_small f x in
      let l : magnitude f x < bias f * 2 ^ f.frac = omega (arith, times_le (2 ^ f.frac) h) in
      let i = far f g (field f x) (omega arith) in
      let u = mod-eq_of_lt (below_one_lem f g (magnitude f x) l) in
      let e = ap (exactly f) u ∙ fixed_whole f even (magnitude f x) (omega arith) in (
        sym (modf_finite f x (units f (magnitude f x)) (kind_finite f x (omega arith)) ∙ ap (signed f (minus f x)) e ∙ signed_is f x p),
        omega (arith, signed_is f x p) ∙ sym (shorter_all f g toward_zero x p refl h),
      )

  -- without bits behind the point
  pub parts_whole : bias f + f.frac ≤ field f x → magnitude f x ≤ inf f → Parts f x (signed f (minus f x) 0) x
  unfolding modf_whole trunc_of
  parts_whole h l = (
    sym (order (inf f) (magnitude f x)
        (λ i. modf_infinite f x (kind_infinite f x (both_ways (magnitude f x) (inf f) l i)))
        (λ i.
        let (k, e) = fields_multiple f g (field f x) (fraction f x) h in
        modf_none f x (units f (magnitude f x)) (kind_finite f x i) (mod_is (units f (magnitude f x)) (2 ^ low f) k 0 (pow_pos (low f)) (omega (arith, units_of_fields f x))))),
    sym (stays f g toward_zero x p h ∙ not_past f x l),
  )

  pub parts_nan : inf f < magnitude f x → Parts f x (canonical f) (canonical f)
  unfolding modf_whole trunc_of
  parts_nan l = let h = kind_nan f x l in (sym (modf_nan f x h), sym (nan_canonical f toward_zero x h))

  -- the bits behind a point within the fraction, which b masks, are a significand with the exponent of x
  module _ (b : ℕ) (q : Part f x b) (l : bias f ≤ field f x) where
    abbrev up : ℕ
    up = field f x - 1

    one_scaled : 2 ^ low f ≡ 2 ^ q.k * 2 ^ up
    one_scaled = ap (λ n. 2 ^ n) (omega (arith, two_le f g, q.stands)) ∙ pow-add 2 q.k up

    few : q.k ≤ f.frac
    few = part_bits f g x q.k l q.stands

    fraction_tail : fraction f x ≡ x / 2 ^ q.k % 2 ^ (f.frac - q.k) * 2 ^ q.k + x % 2 ^ q.k
    fraction_tail = ap (λ n. x % 2 ^ n) (omega (arith, few)) ∙ mod-pow-add x (f.frac - q.k) q.k

    units_significand : units f (magnitude f x) ≡ (2 ^ f.frac + fraction f x) * 2 ^ up
    units_significand = let e : field f x ≡ suc up = omega (arith, two_le f g) in units_of_fields f x ∙ ap (λ n. fields (2 ^ f.frac) n (fraction f x)) e

    tail_behind : units f (magnitude f x) % 2 ^ low f ≡ x % suc b * 2 ^ up
    tail_behind =
        let h : ℕ = 2 ^ (f.frac - q.k) + x / 2 ^ q.k % 2 ^ (f.frac - q.k) in
        mod_is (units f (magnitude f x)) (2 ^ low f) h (x % 2 ^ q.k * 2 ^ up) (omega (arith, one_scaled, times_le (2 ^ up) (mod-lt x (pow_pos q.k)), pow_pos up))
        (omega (arith, units_significand, times h one_scaled, times (2 ^ up) fraction_tail, times (2 ^ up) (pow_diff few)))
        ∙ ap (λ d. x % d * 2 ^ up) (sym q.mask)

    number : magnitude f x < inf f
    number = omega (arith, far f g (field f x) (omega (arith, q.stands, q.some)), magnitude_fields f x, fraction_small f x)

    pub parts_within : Parts f x (signed f (minus f x) (exactly f (x % suc b * 2 ^ up))) (x / suc b * suc b)
    unfolding modf_whole trunc_of
    parts_within = (
      ap (λ n. signed f (minus f x) (exactly f n)) (sym tail_behind) ∙ sym (modf_finite f x (units f (magnitude f x)) (kind_finite f x number)),
      ap (λ d. x / d * d) q.mask ∙ sym (shorter_part f g toward_zero x q.k p refl l q.some q.stands),
    )

    pub tail_few : x % suc b < 2 ^ f.frac
    tail_few = omega (arith, div_mod x (suc b) (omega arith), q.mask, pow_mono few)

    pub tail_finite : x % suc b * 2 ^ up < units f (inf f)
    tail_finite = omega (arith, tail_behind, div_mod (units f (magnitude f x)) (2 ^ low f) (pow_pos (low f)), units_lt f number)

    pub tail_packed : exactly f (x % suc b * 2 ^ up) < top f
    tail_packed = omega (arith, exactly_below f (x % suc b) up (omega (arith, tail_few)) tail_finite, inf_below_top f)
