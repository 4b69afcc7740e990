-- The root of the radicand, rounded, is the answer (Halves). Assumes nothing.
use Rattle.std.proofs.Common.{◌≡◌, ◌+◌, ◌*◌, subst, eqb, arith}
use Rattle.fmt_fields.specs.Layout.{format_of}
use Rattle.sqrt_digits.specs.Floor.{FloorRoot, pairs}
use Rattle.sqrt_number.proofs.Halves.{led, up_small, root_fits, rounded_answers}
use Rattle.sqrt_number.proofs.Splits.{fraction_few, parts}
use Rattle.sqrt_number.proofs.sqrt_by_digits.Goals as goal

pub word-requires : goal.word-requires
word-requires c =
    let f = c.args.fmt in
    led f.fits c.args.x c.requires _ _ (parts (format_of f) c.args.x c.of-parts.ensures.sig c.of-parts.ensures.up c.norm_of.ensures.0 c.norm_of.ensures.1)

pub floor_root-whole-requires : goal.floor_root-whole-requires
floor_root-whole-requires c = omega (arith, fraction_few c.args.fmt.fits)

pub round_root-requires : goal.round_root-requires
round_root-requires c =
    let f = c.args.fmt in
    let h = parts (format_of f) c.args.x c.of-parts.ensures.sig c.of-parts.ensures.up c.norm_of.ensures.0 c.norm_of.ensures.1 in
    let i = subst (λ m. FloorRoot (pairs m (f.frac + 2)) c.floor_root-whole.result.root) c.word.ensures c.floor_root-whole.ensures.0 in
    (root_fits f.fits c.args.x c.requires _ _ h c.floor_root-whole.result.root i, omega (arith, up_small f.fits c.args.x c.requires _ _ h))

pub returns : goal.returns
returns c =
    let f = c.args.fmt in
    let r = c.floor_root-whole.result in
    let h = parts (format_of f) c.args.x c.of-parts.ensures.sig c.of-parts.ensures.up c.norm_of.ensures.0 c.norm_of.ensures.1 in
    let i = subst (λ m. FloorRoot (pairs m (f.frac + 2)) r.root × (r.exact ≡ eqb (r.root * r.root) (pairs m (f.frac + 2)))) c.word.ensures c.floor_root-whole.ensures in
    rounded_answers f.fits c.args.x c.requires _ _ h r.root r.exact i c.round_root.result c.round_root.ensures
