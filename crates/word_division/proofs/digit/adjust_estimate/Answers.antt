-- `word_division::digit::adjust_estimate` meets its contract: the comparison tells whether the digit is too large, and is skipped where it cannot be. Assumes nothing.
use Rattle.std.proofs.Common.{◌≡◌, ℕ, ◌+◌, ◌-◌, ◌*◌, ◌/◌, ◌%◌, ◌^◌, ◌<◌, ◌≤◌, max, refl, arith}
use native.Mathlib.Omega.{both_ways}
use Rattle.algebra.proofs.Products.{diff}
use Rattle.word_division.proofs.Digits.{step_stays, step_down, product_fits, large_rest, not_too_large, too_large}
use Rattle.word_division.specs.Estimates.{divided}
use Rattle.word_division.specs.declared.digit.Estimate.{Estimate}
use Rattle.word_division.proofs.digit.adjust_estimate.Goals as goal

abbrev B : ℕ
B = 4294967296

module _ (e : Estimate) (l d : ℕ) (h : (2 ^ 63 ≤ d) × (l < 2 ^ 32) × (divided e d < d) × ((divided e d * 2 ^ 32 + l) / d ≤ e.digit)) where
  -- the right digit
  abbrev right : ℕ
  right = (divided e d * B + l) / d

  normal : B ≤ 2 * (d / B)
  normal = omega (arith, h.0)

  stays : e.digit * (d % B) ≤ e.rest * B + l → e.digit ≡ max right (e.digit - 1)
  stays i = step_stays right e.digit (both_ways e.digit right (not_too_large B d l normal h.1 e.digit e.rest i) h.3)

  below : e.rest * B + l < e.digit * (d % B) → right < e.digit
  below = too_large B d l normal h.1 e.digit e.rest

  large : B ≤ e.rest → e.digit * (d % B) ≤ e.rest * B + l
  large = large_rest B d l normal h.1 e.digit e.rest h.2

  fits : e.digit * (d % B) < B * B
  fits = product_fits B d l normal h.1 e.digit e.rest h.2

pub returns-then-rest-ge4294967296 : goal.returns-then-rest-ge4294967296
returns-then-rest-ge4294967296 c = let a = c.args in (stays a.e a.l a.d c.requires (large a.e a.l a.d c.requires (omega arith)), refl)

pub overflow_mul-q : goal.overflow_mul-q
overflow_mul-q c = let a = c.args in record { fits = fits a.e a.l a.d c.requires }

pub returns-then-q-d : goal.returns-then-q-d
returns-then-q-d c = let a = c.args in (stays a.e a.l a.d c.requires (omega arith), refl)

pub overflow_sub-result : goal.overflow_sub-result
overflow_sub-result c = let a = c.args in omega (arith, below a.e a.l a.d c.requires (omega arith))

pub returns : goal.returns
returns c =
    let a = c.args in
    let h = below a.e a.l a.d c.requires (omega arith) in
    (step_down (right a.e a.l a.d c.requires) a.e.digit h, omega (arith, diff {a = a.e.digit} {b = 1} (a.d / B) (omega arith)))
