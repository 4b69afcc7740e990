-- The dividend so far, doubled at each turn, is divided.
use Rattle.std.proofs.Common.{◌≡◌, ◌*◌, ◌/◌, ◌%◌, ◌^◌}
use Rattle.remquo.proofs.division.long_divide.Given as goal

abbrev pub invariant-loop : goal.invariant-loop
invariant-loop l = (l.d.rem ≡ l.num * 2 ^ l.counter % l.div) × (l.d.quo ≡ l.num * 2 ^ l.counter / l.div % 2 ^ 32) × (l.d.div ≡ l.div)
