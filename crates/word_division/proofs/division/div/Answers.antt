-- `word_division::division::div` meets its contract: the two digits of the scaled numbers' quotient are the quotient of the numbers themselves. Assumes nothing.
use Rattle.std.proofs.Common.{◌≡◌, ℕ, ◌*◌, ◌/◌, ◌%◌, ◌^◌, ◌<◌, mod-lt, arith, pow_pos}
use Rattle.algebra.proofs.Quotients.{mod_is}
use Rattle.word_division.proofs.Digits.{quotient_is_digit}
use Rattle.word_division.proofs.LongDivision.{scaled_upper_below, quotient_of_digits}
use Rattle.word_wide.specs.Value.{value}
use Rattle.word_division.proofs.division.div.Goals as goal
use Rattle.word_division.proofs.division.div.Goals.{After-quotient_digit-two}

-- no bit of the scaled divisor passes the word
kept : (d s : ℕ) → d * 2 ^ s < 2 ^ 64 → d * 2 ^ s % 2 ^ 64 ≡ d * 2 ^ s
kept d s l = mod_is (d * 2 ^ s) (2 ^ 64) 0 (d * 2 ^ s) l (omega arith)

-- each digit is below the base
digits : (c : After-quotient_digit-two) → (c.quotient_digit-one.result.quotient < 2 ^ 32) × (c.quotient_digit-two.result.quotient < 2 ^ 32)
digits c =
    let a = c.args.a in
    let w = c.shl-w in
    let s = c.normal_shift-s in
    let upper = scaled_upper_below (2 ^ 64) c.args.d (2 ^ s.result) a.hi a.lo c.requires (omega arith) w.result.hi w.result.lo (pow_pos s.result) w.ensures in (
      quotient_is_digit (2 ^ 32) _ w.result.hi (w.result.lo / 2 ^ 32) _ _ (omega (arith, kept c.args.d s.result s.ensures.2)) (omega arith) c.quotient_digit-one.ensures.0,
      quotient_is_digit (2 ^ 32) _ c.quotient_digit-one.result.remainder (w.result.lo % 2 ^ 32) _ _ c.quotient_digit-one.ensures.1 (mod-lt w.result.lo (pow_pos 32)) c.quotient_digit-two.ensures.0,
    )

pub overflow_add-result : goal.overflow_add-result
overflow_add-result c = let d = digits (goal.at.overflow_add-result c).After-quotient_digit-two in omega (arith, d.0, d.1)

pub returns : goal.returns
returns c =
    let m = 2 ^ c.normal_shift-s.result in
    quotient_of_digits (2 ^ 32) c.args.d m _ _ _ _ _ _ c.shl-w.result.lo (value c.args.a) (pow_pos c.normal_shift-s.result)
    (kept c.args.d c.normal_shift-s.result c.normal_shift-s.ensures.2) c.quotient_digit-one.ensures.0 c.quotient_digit-two.ensures.0 c.shl-w.ensures c.quotient_digit-two.ensures.1
