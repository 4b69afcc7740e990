-- The number fits in a word (Tables). Assumes nothing.
use Rattle.std.proofs.Common.{◌+◌, ◌-◌, ◌*◌, ◌/◌, ◌<◌, ◌^◌, false, ap₂, arith, pow_mono}
use Rattle.ieee.specs.Round.{way_of}
use Rattle.fmt_fields.specs.Layout.{format_of}
use Rattle.fmt_fields.specs.Raised.{attribute_of}
use Rattle.sqrt_number.proofs.Splits.{fraction_few}
use Rattle.sqrt_number.proofs.Tables.{rounded_room}
use Rattle.sqrt_number.proofs.near.round_near.Goals as goal

pub is_exact-exact-requires : goal.is_exact-exact-requires
is_exact-exact-requires c = omega (arith, c.requires.most, pow_mono {i = c.args.fmt.frac} {j = 58} (fraction_few c.args.fmt.fits))

pub to_whole-whole-requires : goal.to_whole-whole-requires
to_whole-whole-requires c =
    (omega (arith, c.requires.most, pow_mono {i = c.args.fmt.frac} {j = 58} (fraction_few c.args.fmt.fits)), c.is_exact-exact.ensures)

room : (c : goal.After-pow) → (c.args.up / 2 - 2) * c.pow.result + c.to_whole-whole.result < 2 ^ 64
room c =
    let f = c.args.fmt in
    let number = ap₂ (λ u n. (c.args.up / 2 - 2) * u + n) c.pow.ensures c.to_whole-whole.ensures in
    let most = rounded_room (format_of f) c.args.near.root c.args.up c.requires (way_of (attribute_of c.args.attribute) false) c.args.near.rem in
    omega (arith, number, most, pow_mono {i = f.frac + f.expo} {j = 63} f.fits.word)

pub overflow_mul-result : goal.overflow_mul-result
overflow_mul-result c = record { fits = omega (arith, room c) }

pub overflow_add-result : goal.overflow_add-result
overflow_add-result c = record { fits = omega (arith, room c) }
