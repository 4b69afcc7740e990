-- No step wraps, and the sum is the exponent lifted (Lifts). Assumes nothing.
use Rattle.std.proofs.Common.{arith, to_z-of_z}
use Rattle.algebra.proofs.Integers.{abs_z, mag_z_fact, non_neg_z}
use Rattle.sqrt_number.proofs.Lifts.{sum, exp_fits, fields_pos, fraction_pos, more_fits, sum_fits, sum_natural, lifted}
use Rattle.sqrt_number.proofs.split.lift_exponent.Goals as goal

pub overflow_cast-result-3 : goal.overflow_cast-result-3
overflow_cast-result-3 c =
    let w = c.args.fmt.fits in
    let z = c.args.n.exp in
    let r = c.requires in
    let q = c.pow.result in
    let i = c.pow.ensures in
    let m = mag_z_fact (sum w z r q i) (sum_fits w z r q i).sfits in
    let n = sum_natural w z r q i in
    simp (to_z-of_z, exp_fits w z r q i, fields_pos w z r q i, fraction_pos w z r q i, more_fits w z r q i, sum_fits w z r q i)
    (non_neg_z (sum w z r q i) (omega arith), record { fits = omega (arith, abs_z (sum w z r q i)) })

pub returns : goal.returns
returns c =
    let w = c.args.fmt.fits in
    let z = c.args.n.exp in
    let r = c.requires in
    let q = c.pow.result in
    let i = c.pow.ensures in
    simp (to_z-of_z, exp_fits w z r q i, fields_pos w z r q i, fraction_pos w z r q i, more_fits w z r q i, sum_fits w z r q i) (lifted w z r q i)
