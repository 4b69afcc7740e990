-- The rows of remquo that need no division: the canonical NaN where there is no remainder, and x itself for an infinite y or a zero x. Assumes nothing.
use Rattle.std.proofs.Common.{◌≡◌, ℕ, suc, ◌-◌, ◌*◌, ◌%◌, ◌^◌, ◌<◌, true, false, pos, sym, ap, ◌∙◌, arith}
use Rattle.ieee.specs.Format.{Format, inf, canonical, units}
use Rattle.ieee.specs.Pattern.{Pattern, minus, magnitude, kind, finite, unlike, with_sign}
use Rattle.ieee.specs.Round.{even}
use Rattle.ieee.specs.Whole.{whole}
use Rattle.ieee.specs.Remquo.{rest, remquo_of, quotient_of}
use Rattle.ieee.proofs.Units.{units_lt, units_zero}
use Rattle.ieee.proofs.Patterns.{canonical_pattern, kind_finite, kind_infinite}
use Rattle.remquo.specs.Nearest.{Divides}
use Rattle.ieee.proofs.Remquos.{remquo_rows}
use Rattle.fmt_decode.specs.Rows.{no_remainder}
use Rattle.fmt_decode.proofs.Sorts.{no_remainder_none, Remains, remains}

module _ (f : Format) (x y : ℕ) where
  pub none_left : no_remainder f x y ≡ true → Divides f x y (canonical f) (pos 0)
  unfolding remquo_of quotient_of
  none_left e = record {
    value = sym (no_remainder_none _ _ (λ u v. rest f (minus f x) u (whole even u v * v)) f x y e);
    quotient = sym (no_remainder_none _ _ (λ u v. with_sign (unlike (minus f x) (minus f y)) (whole even u v % 2 ^ 31)) f x y e);
    pattern = canonical_pattern f;
  }

  module _ (positive : 0 < inf f) (some : no_remainder f x y ≡ false) where
    pub here : Remains f positive x y
    here = remains f positive x y some

    is_x : kind f x ≡ finite (units f (magnitude f x))
    is_x = kind_finite f x here.below

    pub by_infinite : Pattern f x → magnitude f y ≡ inf f → Divides f x y x (pos 0)
    by_infinite p e =
        let (r, q) = (remquo_rows f).infinite_y x y (units f (magnitude f x)) is_x (kind_infinite f y e) in
        record { value = sym r; quotient = sym q; pattern = p }

    -- x by a finite y
    module _ (other : magnitude f y ≡ inf f → ⊥) where
      pub y_below : magnitude f y < inf f
      y_below = omega (arith, here.most, other)

      pub of_zero : Pattern f x → magnitude f x ≡ 0 → Divides f x y x (pos 0)
      of_zero p z =
          let m = units_lt f here.least in
          let e : units f (magnitude f y) ≡ suc (units f (magnitude f y) - 1) = omega arith in
          let (r, q) = (remquo_rows f).zero_x x y (units f (magnitude f y) - 1) p (is_x ∙ ap (λ k. finite (units f k)) z ∙ ap finite (units_zero f)) (kind_finite f y y_below ∙ ap finite e) in
          record { value = sym r; quotient = sym q; pattern = p }
