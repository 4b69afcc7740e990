-- The normalised word has the neighbour and the location of the value (round_laws: Alignments), and a zero is its own (round_laws: Stretched). Assumes nothing.
use Rattle.std.proofs.Common.{false, sym, ◌∙◌, subst, arith, pow_pos, to_z-of_z}
use Rattle.round_laws.specs.Location.{stretched}
use Rattle.fmt_fields.specs.Layout.{format_of}
use Rattle.round_laws.proofs.Locations.{Lies}
use Rattle.round_laws.proofs.Stretched.{stretched_zero}
use Rattle.round_laws.proofs.Insides.{low_outside}
use Rattle.round_laws.proofs.Alignments.{Filled, filled, filled_lies}
use Rattle.round_locate.proofs.locate.locate.Goals as goal

known : (c : goal.After-normalise-n) → Filled c.args.sig c.args.exp c.normalise-n.result.sig c.normalise-n.result.at
known c = filled _ _ _ _ (omega arith) (omega arith) c.requires c.normalise-n.ensures.0 (simp (to_z-of_z, c.ranges.exp) at c.normalise-n.ensures.1)

pub returns-then-sig-eq0 : goal.returns-then-sig-eq0
returns-then-sig-eq0 c =
    let f = format_of c.args.fmt in
    let (m, p, h, b) : Lies f (stretched c.args.sig c.args.exp) 0 0 false false =
    subst (λ u. Lies f (stretched u c.args.exp) 0 0 false false) (sym c.if-sig-eq0.true) (stretched_zero f c.args.fmt.fits.fair c.args.exp) in
    ((sym m, sym p, sym h, sym b), low_outside f 0 (pow_pos c.args.fmt.frac))

pub locate_normalised-requires : goal.locate_normalised-requires
locate_normalised-requires c = let i = known c in (i.least, i.small)

pub returns : goal.returns
returns c =
    let (m, q, h, b) = filled_lies (format_of c.args.fmt) (known c.before) in
    let ((i, j, k, l), o) = c.locate_normalised.ensures in
    ((i ∙ sym m, j ∙ sym q, k ∙ sym h, l ∙ sym b), o)
