-- `word_division::digit::quotient_digit` meets its contract: the first estimate is at most two too large, two steps bring it to the digit, and the remainder is one word.
-- Assumes nothing.
use Rattle.std.proofs.Common.{◌≡◌, ℕ, ◌+◌, ◌-◌, ◌*◌, ◌/◌, ◌%◌, ◌^◌, ◌<◌, ◌≤◌, max, refl, ap, ◌∙◌, mod-lt, div-add-mod', arith}
use native.Mathlib.Nat.{le-max_left}
use Rattle.word_division.proofs.Digits.{two_steps_end, product_fits, estimate_ge, estimate_two, rest_unwraps}
use Rattle.word_division.specs.Estimates.{divided}
use Rattle.word_division.specs.declared.digit.Estimate.{Estimate}
use Rattle.word_division.proofs.digit.quotient_digit.Goals as goal

abbrev B : ℕ
B = 4294967296

module _ (h l d : ℕ) (r : (2 ^ 63 ≤ d) × (l < 2 ^ 32) × (h < d)) where
  -- the first estimate, and what it divides
  abbrev q : ℕ
  q = h / (d / B)

  abbrev rest : ℕ
  rest = h % (d / B)

  abbrev upper : ℕ
  upper = q * (d / B) + rest

  upper_is : upper ≡ h
  upper_is = div-add-mod' h (d / B)

  normal : B ≤ 2 * (d / B)
  normal = omega (arith, r.0)

  -- the digit, given the upper part
  abbrev digit-of : ℕ → ℕ
  digit-of x = (x * B + l) / d

  low : digit-of upper ≤ q
  low = estimate_ge B d l normal r.1 upper q rest refl (mod-lt h (omega (arith, normal)))

  high : q ≤ digit-of upper + 2
  high = estimate_two B d l normal r.1 upper q rest (omega (arith, upper_is, r.2)) refl

  -- after the first step: the upper part is the same, and the digit is no less than the right one
  module _ (s : Estimate) (i : (s.digit ≡ max (digit-of upper) (q - 1)) × (divided s d ≡ upper)) where
    second-upper : divided s d ≡ h
    second-upper = i.1 ∙ upper_is

    second-low : digit-of (divided s d) ≤ s.digit
    second-low = let e = ap digit-of i.1 in omega (arith, i.0, le-max_left (digit-of upper) (q - 1))

    -- after the second step: the digit is right
    module _ (t : Estimate) (j : (t.digit ≡ max (digit-of (divided s d)) (s.digit - 1)) × (divided t d ≡ divided s d)) where
      third-upper : divided t d ≡ h
      third-upper = j.1 ∙ second-upper

      third-right : t.digit ≡ digit-of h
      third-right =
          two_steps_end (digit-of upper) q s.digit t.digit low high i.0 (j.0 ∙ ap (λ x. max (digit-of x) (s.digit - 1)) i.1) ∙ ap digit-of upper_is

      product : t.digit * (d % B) < B * B
      product = product_fits B d l normal r.1 t.digit t.rest (omega (arith, third-upper, r.2))

pub adjust_estimate-second-requires : goal.adjust_estimate-second-requires
adjust_estimate-second-requires c =
    let a = c.args in
    (c.requires.0, c.requires.1, omega (arith, upper_is a.h a.l a.d c.requires, c.requires.2), low a.h a.l a.d c.requires)

pub adjust_estimate-third-requires : goal.adjust_estimate-third-requires
adjust_estimate-third-requires c =
    let a = c.args in
    let s = c.adjust_estimate-second in
    (c.requires.0, c.requires.1, omega (arith, second-upper a.h a.l a.d c.requires s.result s.ensures, c.requires.2), second-low a.h a.l a.d c.requires s.result s.ensures)

pub returns : goal.returns
returns c =
    let a = c.args in
    let s = c.adjust_estimate-second in
    let t = c.adjust_estimate-third in
    rest_unwraps B a.d a.l (normal a.h a.l a.d c.requires) c.requires.1 a.h t.result.digit t.result.rest _ (omega arith)
    (third-upper a.h a.l a.d c.requires s.result s.ensures t.result t.ensures) (third-right a.h a.l a.d c.requires s.result s.ensures t.result t.ensures) (omega arith)
    (omega (arith, product a.h a.l a.d c.requires s.result s.ensures t.result t.ensures))
