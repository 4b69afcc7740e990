-- Two bytes and the digits, one behind the other (Puts). Assumes nothing.
use Rattle.std.proofs.Common.{◌∷◌, ap, arith}
use Rattle.text_numbers.specs.Digits.{digits_of}
use Rattle.ieee_numeral_laws.proofs.Spellings.{digits_length}
use Rattle.hex_write.proofs.Puts.{put_as, put_behind, put_placed}
use Rattle.hex_write.proofs.put.put_exponent.Goals as goal

pub returns : goal.returns
returns c =
    let digits = digits_length 10 c.args.e.count c.args.e.size in
    put_as (ap (λ i. 112 ∷ i ∷ digits_of 10 c.args.e.count c.args.e.size) c.exponent_sign.ensures)
    (put_behind (omega arith) (put_behind (omega arith) c.put_byte-sign.ensures c.put_byte-first.ensures) (put_placed (omega arith) c.write_digits.ensures))
