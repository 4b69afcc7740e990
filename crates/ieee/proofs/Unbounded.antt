-- Overflow and tininess as though the exponent range were unbounded. Assumes nothing.
use Rattle.ieee.specs.Format.{Format, Fair}
use Rattle.ieee.specs.Exact.{Value, absolute}
use Rattle.ieee.specs.Round.{Way}
use Rattle.ieee.specs.FlagsRule.{Unbounded}
use Rattle.ieee.proofs.Decide.{holds, is_true}
use Rattle.ieee.proofs.Signs.{sound}
use Rattle.ieee.proofs.Verdicts.{overflows_unbounded, tiny_unbounded, beyond_reads, tiny_twice}
use Rattle.ieee.proofs.WideEnough.{wide_enough}
use Rattle.ieee.proofs.InRange.{in_range}

pub unbounded : (f : Format) → Fair f → (w : Way) (v : Value) → Unbounded f w (absolute v)
unbounded f g w v =
    let x = absolute v in
    let s = sound v in
    let o = beyond_reads f g w x s in
    let t = tiny_twice f g w x s in
    record {
      overflow_alike = λ k l. overflows_unbounded f g k l w x s;
      tiny_alike = λ k l. tiny_unbounded f g k l w x s;
      enough = wide_enough f g x s;
      overflow_is = (holds o, is_true o);
      tiny_is = (holds t, is_true t);
      in_range = λ o t k l. in_range f g k l w x s o t;
    }
