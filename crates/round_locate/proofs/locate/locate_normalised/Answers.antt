-- The branches are the cases of an alignment (round_laws: Alignments), and a format has at least four exponent fields (fmt_fields: Widths). Assumes nothing.
use Rattle.std.proofs.Common.{◌≡◌, ℕ, ◌+◌, ◌-◌, ◌*◌, ◌/◌, ◌%◌, ◌^◌, ◌<◌, ◌≤◌, Bool, false, sym, ap, ◌∙◌, arith, pow_pos}
use Rattle.ieee.specs.Format.{inf}
use Rattle.fmt_fields.specs.Layout.{format_of}
use Rattle.fmt_fields.specs.Width.{format, Fits}
use Rattle.fmt_fields.proofs.Numbers.{infinity_some}
use Rattle.fmt_fields.proofs.Widths.{four_fields, fields_small, field_room}
use Rattle.round_laws.specs.Location.{below, location, high, beyond, inside_at, part, high_part}
use Rattle.round_laws.specs.Aligned.{filled_at, Stands}
use Rattle.round_laws.proofs.Alignments.{stands_nothing, stands_low, stands_normal, lies_over, normal_inside, last_field_outside, subnormal_outside}
use Rattle.round_laws.proofs.Insides.{low_outside, largest_outside}
use Rattle.round_locate.proofs.locate.locate_normalised.Goals as goal

-- where one stands, its bits fit, and what is shifted out is located
module _ {p e s at t up k : ℕ} (w : Fits p e) (i : Stands p e s at t up k) where
  room : up * 2 ^ p + t / 2 ^ k < 2 ^ 63
  room = field_room w up (t / 2 ^ k) i.fields i.kept

  fits : (p < 63) × (1 ≤ k) × (k ≤ 64) × (up * 2 ^ p + t / 2 ^ k < 2 ^ 63)
  fits = (omega (arith, w.word, w.fair.expo_two), i.least, i.most, room)

  lies : {m l : ℕ} {h b c d : Bool} → d ≡ inside_at (format p e) (up * 2 ^ p + t / 2 ^ k) → (m ≡ up * 2 ^ p + t / 2 ^ k) × (l ≡ part (t % 2 ^ k) (2 ^ k)) × (h ≡ high_part (t % 2 ^ k) (2 ^ k)) × (b ≡ false) × (c ≡ d)
      → ((m ≡ below (format p e) (filled_at s at)) × (l ≡ location (format p e) (filled_at s at)) × (h ≡ high (format p e) (filled_at s at)) × (b ≡ beyond (format p e) (filled_at s at))) × (c ≡ inside_at (format p e) m)
  lies o (a, b, c, d, g) = ((a ∙ i.lower, b ∙ i.part_is, c ∙ i.high_is, d ∙ i.beyond_is), g ∙ o ∙ ap (inside_at (format p e)) (sym a))

-- the exponent field of a normal number, in a word of 32 bits
abbrev up_of : ℕ → ℕ → ℕ
up_of p at = (at + (4294967296 - (2097152 - (63 - p)))) % 4294967296

module _ {p e s at q : ℕ} (w : Fits p e) (least : 2 ^ 63 ≤ s) (room : s < 2 ^ 64) (small : at < 2 ^ 22) (fields : q ≡ 2 ^ e) where
  normal : up_of p at ≤ q - 3 → Stands p e s at s (up_of p at) (63 - p)
  normal l = stands_normal w s at least room (up_of p at) (omega (arith, l, fields, fields_small w)) (omega (arith, l, fields, four_fields w))

pub shift_out_under-requires : goal.shift_out_under-requires
shift_out_under-requires c = fits c.args.fmt.fits (normal c.args.fmt.fits c.requires.0 (omega arith) c.requires.1 c.pow-last.ensures (omega arith))

pub returns-then-up-last : goal.returns-then-up-last
returns-then-up-last c =
    let w = c.args.fmt.fits in
    lies w (normal w c.requires.0 (omega arith) c.requires.1 c.pow-last.ensures (omega arith))
    (normal_inside w c.args.sig c.args.at c.requires.0 (omega arith) (up_of c.args.fmt.frac c.args.at) (omega (arith, c.if-up-last.true, c.pow-last.ensures, four_fields w)))
    c.shift_out_under.ensures

pub shift_out_under-requires-then-up-last-2 : goal.shift_out_under-requires-then-up-last-2
shift_out_under-requires-then-up-last-2 c = fits c.args.fmt.fits (normal c.args.fmt.fits c.requires.0 (omega arith) c.requires.1 c.pow-last.ensures (omega arith))

pub returns-then-up-last-2 : goal.returns-then-up-last-2
returns-then-up-last-2 c =
    let w = c.args.fmt.fits in
    lies w (normal w c.requires.0 (omega arith) c.requires.1 c.pow-last.ensures (omega arith))
    (last_field_outside w c.args.sig c.args.at c.requires.0 (omega arith) (up_of c.args.fmt.frac c.args.at) (omega (arith, c.if-up-last-2.true, c.pow-last.ensures, four_fields w)))
    c.shift_out_under-then-up-last-2.ensures

pub overflow_sub-result : goal.overflow_sub-result
overflow_sub-result c = omega (arith, c.infinity.ensures, infinity_some c.args.fmt.fits)

pub returns-then-at-least : goal.returns-then-at-least
returns-then-at-least c =
    let w = c.args.fmt.fits in
    let f = format_of c.args.fmt in
    let last : c.infinity.result - 1 ≡ inf f - 1 = ap (λ n. n - 1) c.infinity.ensures in
    let (a, b, h, d) =
    lies_over w c.args.sig c.args.at c.requires.0 (omega arith) (c.args.at + (63 - c.args.fmt.frac) - 2097152) (omega arith)
    (omega (arith, c.pow-last.ensures, four_fields w)) in
    ((last ∙ sym a, sym b, sym h, sym d), largest_outside f ∙ ap (inside_at f) (sym last))

pub returns-then-at-lt-LIFT : goal.returns-then-at-lt-LIFT
returns-then-at-lt-LIFT c =
    lies c.args.fmt.fits (stands_nothing c.args.fmt.fits c.args.sig c.args.at c.requires.0 (omega arith) (omega arith))
    (low_outside (format_of c.args.fmt) (0 * 2 ^ c.args.fmt.frac + 1 / 2 ^ 64) (omega (arith, pow_pos c.args.fmt.frac))) c.shift_out_under-then-at-lt-LIFT.ensures

pub shift_out_under-requires-2 : goal.shift_out_under-requires-2
shift_out_under-requires-2 c = fits c.args.fmt.fits (stands_low c.args.fmt.fits c.args.sig c.args.at c.requires.0 (omega arith) (omega arith) (omega arith))

pub returns : goal.returns
returns c =
    let w = c.args.fmt.fits in
    lies w (stands_low w c.args.sig c.args.at c.requires.0 (omega arith) (omega arith) (omega arith))
    (subnormal_outside w c.args.sig c.args.at c.requires.0 (omega arith) (2 ^ 21 - c.args.at) (omega arith)) c.shift_out_under-2.ensures
