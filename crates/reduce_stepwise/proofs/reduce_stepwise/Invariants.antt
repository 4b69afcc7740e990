-- The carried number has the remainder of x times 2 to the steps done, and is below twice y.
use Rattle.std.proofs.Common.{◌≡◌, ◌*◌, ◌%◌, ◌<◌, ◌^◌}
use Rattle.reduce_stepwise.proofs.reduce_stepwise.Given as goal

abbrev pub invariant-loop : goal.invariant-loop
invariant-loop l = (l.r % l.y ≡ l.x * 2 ^ l.counter % l.y) × (l.r < 2 * l.y)
