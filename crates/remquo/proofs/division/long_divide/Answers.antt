-- The dividend is doubled at each turn, and the quotient gains a bit (Doubling). Assumes nothing.
use Rattle.std.proofs.Common.{◌≡◌, ◌+◌, ◌*◌, ◌/◌, ◌%◌, ◌^◌, ap, ◌∙◌, arith, pow-add}
use Rattle.algebra.proofs.Products.{times}
use Rattle.remquo.proofs.Doubling.{doubled_remainder, doubled_quotient}
use Rattle.remquo.proofs.division.long_divide.Goals as goal

pub loop-preserved : goal.loop-preserved
loop-preserved c =
    let s = c.args in
    let l = c.loop in
    let next = c.divide_bit-d-in-loop.ensures in
    let e : s.num * 2 ^ l.counter * 2 ≡ s.num * 2 ^ (l.counter + 1) = omega (arith, times s.num (pow-add 2 l.counter 1)) in (
      next.0 ∙ doubled_remainder (s.num * 2 ^ l.counter) s.div l.d.rem l.d.quo (omega arith) l.invariant.0 l.invariant.1 ∙ ap (λ a. a % s.div) e,
      next.1 ∙ doubled_quotient (s.num * 2 ^ l.counter) s.div l.d.rem l.d.quo (omega arith) l.invariant.0 l.invariant.1 ∙ ap (λ a. a / s.div % 2 ^ 32) e,
      next.2,
    )
