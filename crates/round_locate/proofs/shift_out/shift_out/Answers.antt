-- The kept bits and the location, in halves of the last kept bit (round_laws: Halves). Assumes nothing.
use Rattle.std.proofs.Common.{◌+◌, ◌-◌, ◌*◌, ◌/◌, ◌%◌, ap, ◌∙◌, arith}
use Rattle.round_laws.proofs.Halves.{shed_kept, shed_location, high_bits}
use Rattle.round_locate.proofs.shift_out.shift_out.Goals as goal

pub returns : goal.returns
returns c =
    let a = c.args in
    let d = c.pow-half.result in (
      shed_kept a.s (a.k - 1) a.k d c.pow-half.ensures (omega arith),
      ap (λ n. 2 * (a.s / d % 2) + n) c.sticky_bit.ensures ∙ shed_location a.s (a.k - 1) a.k d c.pow-half.ensures (omega arith),
      high_bits a.s a.k (omega arith),
    )
