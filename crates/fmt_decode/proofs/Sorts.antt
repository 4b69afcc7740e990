-- Operands that have no remainder, by magnitude, and the answer of a remainder there. Assumes nothing.
use Rattle.std.proofs.Common.{◌≡◌, ℕ, zero, suc, ◌+◌, ◌%◌, ◌^◌, ◌<◌, ◌≤◌, true, false, leb, sym, refl, ap, ◌∙◌, true≢false, arith, le-leb}
use borrow.Author.Tests.{lt-leb}
use Rattle.algebra.proofs.Products.{order}
use Rattle.ieee.specs.Format.{Format, top, inf, units}
use Rattle.ieee.specs.Pattern.{magnitude, Kind, nan, infinite, finite, kind}
use Rattle.ieee.specs.Fmod.{divide}
use Rattle.ieee.proofs.Units.{units_zero, units_lt}
use Rattle.ieee.proofs.Remainders.{divide_by_nan, divide_by_zero}
use Rattle.ieee.proofs.Patterns.{inf_below_top, kind_nan, kind_infinite, kind_finite}
use Rattle.fmt_decode.specs.Rows.{no_remainder}

-- ---- by magnitudes
module _ (f : Format) (some : 0 < inf f) (x y : ℕ) where
  pub x_without : inf f ≤ magnitude f x → no_remainder f x y ≡ true
  unfolding no_remainder divide
  x_without l = order (magnitude f x) (inf f) (λ h. rw (kind_infinite f x (omega arith)) refl) (λ h. rw (kind_nan f x h) refl)

  pub y_nan : inf f < magnitude f y → no_remainder f x y ≡ true
  unfolding no_remainder
  y_nan l = rw (kind_nan f y l) (divide_by_nan true false (λ u v. false) (kind f x))

  pub y_zero : magnitude f y ≡ 0 → no_remainder f x y ≡ true
  unfolding no_remainder
  y_zero e = rw (kind_finite f y (omega arith) ∙ ap finite (ap (units f) e ∙ units_zero f)) (divide_by_zero true false (λ u v. false) (kind f x))

  pub both_with : magnitude f x < inf f → 0 < magnitude f y → magnitude f y ≤ inf f → no_remainder f x y ≡ false
  unfolding no_remainder divide
  both_with l p h =
      order (suc (magnitude f y)) (inf f)
      (λ b. rw (kind_finite f x l, kind_finite f y b) (go (units f (magnitude f x)) (units f (magnitude f y)) (omega (arith, units_lt f p, units_zero f))))
      (λ b. rw (kind_finite f x l, kind_infinite f y (omega arith)) refl)
    where
      go : (u v : ℕ) → 0 < v → divide true false (λ u v. false) (finite u) (finite v) ≡ false
      go u zero l = absurd (omega arith)
      go u (suc v) l = refl

  -- the converse
  pub record Remains : Type 0 where
    pub below : magnitude f x < inf f
    pub least : 0 < magnitude f y
    pub most : magnitude f y ≤ inf f

  pub remains : no_remainder f x y ≡ false → Remains
  remains e =
      order (inf f) (magnitude f x)
      (λ l. absurd (true≢false (sym (x_without l) ∙ e)))
      (λ l.
      order (magnitude f y) 0
      (λ h. absurd (true≢false (sym (y_zero (omega arith)) ∙ e)))
      (λ h.
      order (magnitude f y) (inf f)
      (λ b. record { below = l; least = h; most = b })
      (λ b. absurd (true≢false (sym (y_nan b) ∙ e)))))

  -- in words: a zero less one wraps to the largest word w, so that one comparison finds zeros and NaNs
  pub y_test : (i w m : ℕ) → i ≡ inf f → m ≡ magnitude f y → (w + 1) % 2 ^ 64 ≡ m → w < 2 ^ 64 → top f < 2 ^ 64 → magnitude f x < inf f → leb i w ≡ no_remainder f x y
  y_test i w m a b e l g h =
      order i w
      (λ p. le-leb i w p ∙ sym (order (magnitude f y) 0 (λ q. y_zero (omega arith)) (λ q. y_nan (omega arith))))
      (λ p. lt-leb i w p ∙ sym (both_with h (omega (arith, inf_below_top f)) (omega (arith, inf_below_top f))))

-- ---- by kinds: the answer of any remainder where there is none
pub divide_none : {A : Type 0} (none same : A) (r : ℕ → ℕ → A) (k l : Kind) → divide true false (λ u v. false) k l ≡ true → divide none same r k l ≡ none
unfolding divide
divide_none none same r nan l e = refl
divide_none none same r infinite l e = refl
divide_none none same r (finite u) nan e = refl
divide_none none same r (finite u) infinite e = absurd (true≢false (sym e))
divide_none none same r (finite u) (finite zero) e = refl
divide_none none same r (finite u) (finite (suc v)) e = absurd (true≢false (sym e))

pub no_remainder_none : {A : Type 0} (none same : A) (r : ℕ → ℕ → A) (f : Format) (x y : ℕ) → no_remainder f x y ≡ true → divide none same r (kind f x) (kind f y) ≡ none
unfolding no_remainder
no_remainder_none none same r f x y e = divide_none none same r (kind f x) (kind f y) e
