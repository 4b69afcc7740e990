-- The square of 2 root + 1 is that of 2 root plus the trial; after the next digit the residual is below the next trial. Assumes nothing.
use native.Mathlib.Omega.{arith}
use Rattle.sqrt_digits.proofs.next_digit.Goals as goal

pub returns-then-trial-rem : goal.returns-then-trial-rem
returns-then-trial-rem c = (record { low = omega arith; high = omega arith }, omega arith)

pub returns : goal.returns
returns c = (record { low = omega arith; high = omega arith }, omega arith)
