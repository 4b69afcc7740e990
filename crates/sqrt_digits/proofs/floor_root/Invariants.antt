-- The invariant: the root of the pairs already read, its residual, and the rest of the word (Digits). Assumes nothing.
use Rattle.std.proofs.Common.{◌≡◌, ◌+◌, ◌*◌, ◌%◌, ◌^◌}
use Rattle.sqrt_digits.specs.Floor.{FloorRoot, pairs}
use Rattle.sqrt_digits.proofs.floor_root.Given as goal

abbrev pub invariant-loop : goal.invariant-loop
invariant-loop l =
    (l.rest ≡ l.m * 2 ^ (2 * l.counter) % 2 ^ 64) × FloorRoot (pairs l.m l.counter) l.root × (l.rem + l.root * l.root ≡ pairs l.m l.counter)
