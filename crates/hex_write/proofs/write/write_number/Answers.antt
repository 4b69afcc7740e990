-- The parts are put one behind the other (Puts), and the answer is that of the definition (Answers). Assumes nothing.
use Rattle.std.proofs.Common.{arith}
use Rattle.ieee_numeral_laws.proofs.Spellings.{digits_length}
use Rattle.hex_write.specs.Parts.{parts_text}
use Rattle.hex_write.proofs.Answers.{refused, written}
use Rattle.hex_write.proofs.Puts.{put_parts, put_first}
use Rattle.hex_write.proofs.Sizes.{parts_size}
use Rattle.hex_write.proofs.write.write_number.Goals as goal

pub put_exponent-requires : goal.put_exponent-requires
put_exponent-requires c = omega (arith, c.behind_size.ensures.size c.args.f.digits, digits_length 10 c.args.e.count c.args.e.size)

pub returns-then-out-length : goal.returns-then-out-length
returns-then-out-length c =
    let a = c.args in
    refused (parts_text a.neg a.lead a.f.count a.f.digits a.e.below a.e.count a.e.size) a.out.now
    (omega (arith, parts_size a.neg a.lead a.f.count a.f.digits a.e.below a.e.count a.e.size, c.behind_size.ensures.size a.f.digits))

pub returns-else-out-length : goal.returns-else-out-length
unfolding parts_text
returns-else-out-length c =
    let a = c.args in
    let size = parts_size a.neg a.lead a.f.count a.f.digits a.e.below a.e.count a.e.size in
    let behind = c.behind_size.ensures.size a.f.digits in
    let tail = digits_length 10 a.e.count a.e.size in
    let (i, n) = put_first (put_parts (omega arith) c.put_sign-head.ensures c.put_head-behind.ensures c.put_fraction-tail.ensures c.put_exponent.ensures) in
    written (parts_text a.neg a.lead a.f.count a.f.digits a.e.below a.e.count a.e.size) a.out.now (omega arith) i n
