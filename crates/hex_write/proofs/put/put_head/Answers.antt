-- Three bytes, one behind the other (Puts). Assumes nothing.
use Rattle.std.proofs.Common.{[], ◌∷◌, ap, arith}
use Rattle.hex_write.proofs.Puts.{put_as, put_behind, lead_glyph}
use Rattle.hex_write.proofs.put.put_head.Goals as goal

pub returns : goal.returns
returns c =
    put_as (ap (λ g. 48 ∷ 120 ∷ g ∷ []) (lead_glyph c.args.lead c.requires.lead))
    (put_behind (omega arith) (put_behind (omega arith) c.put_byte-letter.ensures c.put_byte-digit.ensures) c.put_byte.ensures)
