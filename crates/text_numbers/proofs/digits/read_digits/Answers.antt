use Rattle.std.proofs.Common.{◌+◌, ◌*◌, ◌^◌, ◌<◌, sym, ◌∙◌, arith}
use Rattle.text_numbers.proofs.Reading.{grown, fits, read_digit, read_other, read_end}
use Rattle.text_numbers.proofs.digits.read_digits.Goals as goal

pub overflow_mul-value : goal.overflow_mul-value
overflow_mul-value c = record { fits = fits (c.loop-b.b-index + 1) (omega arith) (omega (arith, grown {d = 0} c.loop-b.b-index c.requires.base c.loop-b.invariant.small (omega arith))) }

-- the value with the digit just read has one more digit
bound : (c : goal.In_ok-value) → c.loop-b.value * c.args.base + c.in_ok-value.field-0 < 16 ^ (c.loop-b.b-index + 1)
bound c = grown c.loop-b.b-index c.requires.base c.loop-b.invariant.small (omega (arith, c.in_ok-value.ensures))

pub overflow_add-value : goal.overflow_add-value
overflow_add-value c = record { fits = fits (c.loop-b.b-index + 1) (omega arith) (bound c) }

pub returns-in_err-value : goal.returns-in_err-value
returns-in_err-value c =
    let e = read_other c.args.base c.loop-b.value c.args.s.now c.loop-b.b-index c.loop-b-test.true c.in_err-value.ensures in
    cc c.from_residual.ensures

pub loop-b-preserved : goal.loop-b-preserved
loop-b-preserved c =
    record {
      small = bound c;
      rest = c.loop-b.invariant.rest
          ∙ read_digit _ c.loop-b.value c.args.s.now c.loop-b.b-index _ (sym c.in_ok-value.ensures.1) c.loop-b-test.true (omega (arith, c.in_ok-value.ensures));
    }

pub returns : goal.returns
returns c = sym (c.loop-b.invariant.rest ∙ read_end _ c.loop-b.value c.args.s.now c.loop-b.b-index (omega arith))
