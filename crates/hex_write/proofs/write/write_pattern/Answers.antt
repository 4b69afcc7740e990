-- By the fields (Texts): the answer for a text that is the pattern's (Answers). Assumes nothing.
use Rattle.std.proofs.Common.{arith}
use Rattle.ieee.proofs.Fields.{field_small}
use Rattle.fmt_fields.specs.Layout.{format_of}
use Rattle.hex_write.proofs.Answers.{wrote_text}
use Rattle.hex_write.proofs.Texts.{taken, text_aside, text_normal, text_subnormal, text_zero}
use Rattle.hex_write.proofs.write.write_pattern.Goals as goal

pub returns-then-field-pow : goal.returns-then-field-pow
returns-then-field-pow c =
    let w = taken (format_of c.args.fmt) c.args.x c.is_negative-neg.ensures c.exponent_field-field.ensures c.fraction_field-t.ensures in
    wrote_text (format_of c.args.fmt) c.args.x c.args.out.now _ (text_aside w (omega (arith, c.if-field-pow.true, c.pow.ensures))) c.write_aside.ensures

pub returns-then-field-gt0 : goal.returns-then-field-gt0
returns-then-field-gt0 c =
    let w = taken (format_of c.args.fmt) c.args.x c.is_negative-neg.ensures c.exponent_field-field.ensures c.fraction_field-t.ensures in
    let below = field_small (format_of c.args.fmt) c.args.x in
    wrote_text (format_of c.args.fmt) c.args.x c.args.out.now _
    (text_normal w c.if-field-gt0.true (omega (arith, c.exponent_field-field.ensures, c.pow.ensures, c.if-field-pow.false)) c.fraction_part.ensures c.exponent_part.ensures)
    c.write_number.ensures

pub returns-then-t-gt0 : goal.returns-then-t-gt0
returns-then-t-gt0 c =
    let w = taken (format_of c.args.fmt) c.args.x c.is_negative-neg.ensures c.exponent_field-field.ensures c.fraction_field-t.ensures in
    wrote_text (format_of c.args.fmt) c.args.x c.args.out.now _
    (text_subnormal w c.args.fmt.fits.fair.expo_two (omega arith) c.if-t-gt0.true c.fraction_part-then-t-gt0.ensures c.exponent_part-then-t-gt0.ensures)
    c.write_number-then-t-gt0.ensures

pub returns : goal.returns
returns c =
    let w = taken (format_of c.args.fmt) c.args.x c.is_negative-neg.ensures c.exponent_field-field.ensures c.fraction_field-t.ensures in
    wrote_text (format_of c.args.fmt) c.args.x c.args.out.now _ (text_zero w c.args.fmt.fits.fair.expo_two (omega arith) (omega arith)) c.write_number-2.ensures
