-- The difference of the exponents distinguishes the three cases (Apart), each with the end that it needs. Assumes nothing.
use Rattle.std.proofs.Common.{arith, to_z-of_z, w32, SFits}
use Rattle.fmt_decode.proofs.Ranges.{range_fits}
use Rattle.remquo.proofs.Apart.{Operands, significands_room, all_left, one_below, not_below, settled_is}
use Rattle.remquo.proofs.remquo.remquo_numbers.Goals as goal
use Rattle.remquo.proofs.remquo.remquo_numbers.Goals.{After-exponent_lead-far}

operands : (c : After-exponent_lead-far) → let r = c.norm_of-a.result in let t = c.norm_of-b.result in
    Operands c.args.fmt.frac c.args.fmt.expo c.args.x c.args.y r.sig t.sig r.exp t.exp r.neg t.neg
operands c =
    record {
      wide = c.args.fmt.fits;
      pattern = c.requires.0;
      some_x = c.requires.1;
      below_x = c.requires.2;
      some_y = c.requires.3;
      below_y = c.requires.4;
      taken_x = c.norm_of-a.ensures;
      taken_y = c.norm_of-b.ensures;
    }

fits : (c : After-exponent_lead-far) → SFits w32 c.norm_of-a.result.exp × SFits w32 c.norm_of-b.result.exp
fits c = (range_fits c.args.fmt.fits c.norm_of-a.result.exp c.norm_of-a.ensures.3, range_fits c.args.fmt.fits c.norm_of-b.result.exp c.norm_of-b.ensures.3)

pub returns-then-far-eq0 : goal.returns-then-far-eq0
returns-then-far-eq0 c = all_left (operands (goal.at.returns-then-far-eq0 c).After-exponent_lead-far) c.exponent_lead-far.result c.exponent_lead-far.ensures c.if-far-eq0.true

-- one below
pub overflow_mul-d : goal.overflow_mul-d
overflow_mul-d c = record { fits = omega (arith, significands_room (operands (goal.at.overflow_mul-d c).After-exponent_lead-far)) }

pub invariant_of-d : goal.invariant_of-d
invariant_of-d c = let (m, n) = significands_room (operands (goal.at.invariant_of-d c).After-exponent_lead-far) in record { below = omega arith; small = omega arith }

pub settle-requires : goal.settle-requires
settle-requires c =
    let o = (goal.at.settle-requires c).After-exponent_lead-far in
    let z = one_below (operands o) c.exponent_lead-far.result c.exponent_lead-far.ensures c.if-far-eq1.true in
    let (m, n) = fits o in
    simp (to_z-of_z, m) (z.room, z.range, z.finite)

pub returns-then-far-eq1 : goal.returns-then-far-eq1
returns-then-far-eq1 c =
    let o = (goal.at.returns-then-far-eq1 c).After-exponent_lead-far in
    let z = one_below (operands o) c.exponent_lead-far.result c.exponent_lead-far.ensures c.if-far-eq1.true in
    let (m, n) = fits o in
    let e = simp (to_z-of_z, m) at c.settle.ensures in
    settled_is z c.norm_of-a.result.neg c.norm_of-b.result.neg c.norm_of-a.ensures.2 c.norm_of-b.ensures.2 c.settle.result.value c.settle.result.quotient e.0 e.1

-- not below
pub long_divide-d-requires : goal.long_divide-d-requires
long_divide-d-requires c = let (m, n) = significands_room (operands (goal.at.long_divide-d-requires c).After-exponent_lead-far) in (m, omega arith)

pub settle-requires-2 : goal.settle-requires-2
settle-requires-2 c =
    let o = (goal.at.settle-requires-2 c).After-exponent_lead-far in
    let d = c.long_divide-d in
    let z = not_below (operands o) c.exponent_lead-far.result d.result.rem d.result.quo c.exponent_lead-far.ensures (omega arith) d.ensures.0 d.ensures.1 d.ensures.2 in
    let (m, n) = fits o in
    simp (to_z-of_z, n) (z.room, z.range, z.finite)

pub returns : goal.returns
returns c =
    let o = (goal.at.returns c).After-exponent_lead-far in
    let d = c.long_divide-d in
    let z = not_below (operands o) c.exponent_lead-far.result d.result.rem d.result.quo c.exponent_lead-far.ensures (omega arith) d.ensures.0 d.ensures.1 d.ensures.2 in
    let (m, n) = fits o in
    let e = simp (to_z-of_z, n) at c.settle-2.ensures in
    settled_is z c.norm_of-a.result.neg c.norm_of-b.result.neg c.norm_of-a.ensures.2 c.norm_of-b.ensures.2 c.settle-2.result.value c.settle-2.result.quotient e.0 e.1
