use Rattle.std.proofs.Common.{◌≡◌, ℕ, ◌+◌, ◌*◌, min, drop, sym, ap, ◌∙◌, arith}
use Rattle.std.proofs.Common.{Some}
use Rattle.text_numbers.specs.Digits.{read_on, capped}
use Rattle.text_numbers.proofs.Reading.{read_digit, read_other, read_end, cap_early}
use Rattle.text_numbers.proofs.digits.read_decimal.Goals as goal

pub returns-in_err-digit : goal.returns-in_err-digit
returns-in_err-digit c =
    let e = ap (capped 4294967296) (read_other 10 c.loop-b.value c.args.s.now c.loop-b.b-index c.loop-b-test.true c.in_err-digit.ensures) in
    cc c.from_residual.ensures

pub loop-b-preserved : goal.loop-b-preserved
loop-b-preserved c =
    let next : ℕ = c.loop-b.value * 10 + c.in_ok-digit.field-0 in
    record {
      within = omega (arith, c.min-value.ensures);
      rest = c.loop-b.invariant.rest
          ∙ ap (capped 4294967296) (read_digit 10 c.loop-b.value c.args.s.now c.loop-b.b-index _ (sym c.in_ok-digit.ensures.1) c.loop-b-test.true (omega (arith, c.in_ok-digit.ensures)))
          ∙ sym (cap_early 10 4294967296 (omega arith) next (drop (c.loop-b.b-index + 1) c.args.s.now))
          ∙ ap (λ (n : ℕ). capped 4294967296 (read_on 10 n (drop (c.loop-b.b-index + 1) c.args.s.now))) (sym c.min-value.ensures);
    }

pub returns : goal.returns
returns c =
    let v : ℕ = c.loop-b.value in
    let e : min v 4294967296 ≡ v = omega arith in
    sym (c.loop-b.invariant.rest ∙ ap (capped 4294967296) (read_end 10 v c.args.s.now c.loop-b.b-index (omega arith)) ∙ ap Some e)
