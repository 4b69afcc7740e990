-- The flags of a pattern x that was sent to r, by its magnitude; and those of trunc, floor and ceil. Assumes nothing.
use Rattle.std.proofs.Common.{◌≡◌, ℕ, ◌<◌, ◌≤◌, Bool, true, false, not, eqb, sym, ap, ◌∙◌}
use native.Mathlib.Omega.{both_ways}
use Rattle.algebra.proofs.Products.{order}
use Rattle.ieee.specs.Format.{Format, inf}
use Rattle.ieee.specs.Pattern.{magnitude, kind}
use Rattle.ieee.specs.Flags.{nan_flags, only_inexact, signals}
use Rattle.ieee.specs.Whole.{whole_flags_by, whole_flags_in, trunc_of, trunc_flags, floor_of, floor_flags, ceil_of, ceil_flags}
use Rattle.ieee.proofs.Patterns.{kind_finite, kind_infinite, kind_nan}
use Rattle.ieee.proofs.Signals.{infinite_silent}
use Rattle.integral.specs.Directed.{directed, directed_flags}

module _ (f : Format) (x r : ℕ) where
  pub number_flags : magnitude f x < inf f → only_inexact (not (eqb r x)) ≡ whole_flags_by f x r (kind f x)
  unfolding whole_flags_by
  number_flags l = sym (ap (whole_flags_by f x r) (kind_finite f x l))

  pub rest_flags : inf f ≤ magnitude f x → nan_flags (signals f x) ≡ whole_flags_by f x r (kind f x)
  unfolding whole_flags_by
  rest_flags h =
      order (magnitude f x) (inf f)
      (λ l. let k = kind_infinite f x (both_ways (magnitude f x) (inf f) l h) in ap nan_flags (infinite_silent f x k) ∙ sym (ap (whole_flags_by f x r) k))
      (λ l. sym (ap (whole_flags_by f x r) (kind_nan f x l)))

  pub trunc_raises : r ≡ trunc_of f x → whole_flags_by f x r (kind f x) ≡ trunc_flags f x
  unfolding trunc_of trunc_flags whole_flags_in
  trunc_raises e = ap (λ y. whole_flags_by f x y (kind f x)) e

  pub directed_raises : (up : Bool) → r ≡ directed f up x → whole_flags_by f x r (kind f x) ≡ directed_flags f up x
  unfolding ceil_of ceil_flags floor_of floor_flags whole_flags_in
  directed_raises true e = ap (λ y. whole_flags_by f x y (kind f x)) e
  directed_raises false e = ap (λ y. whole_flags_by f x y (kind f x)) e
