-- `reduce_modular::start::start_short` meets its contract: two divisions by y give the division by m (reduce_laws: Starts). Assumes nothing.
use Prim.Native.Nat.{ℕ, ◌*◌, ◌^◌, ◌≤◌, ◌<◌}
use native.Mathlib.Nat.{mul-le-mul}
use native.Mathlib.Omega.{arith}
use Rattle.reduce_laws.proofs.Starts.{short_fits, short_divides, short_leaves}
use Rattle.reduce_modular.proofs.start.start_short.Goals as goal

short : (y : ℕ) → y < 2 ^ 31 → 2 * (y * y) ≤ 2 ^ 63
short y h = let l : y ≤ 2 ^ 31 = omega arith in omega (arith, mul-le-mul l l)

pub overflow_add-result : goal.overflow_add-result
overflow_add-result c =
    let n = c.args.n in
    record { fits = short_fits 64 n.y n.s (omega arith) (short n.y c.requires) n.above n.below (omega (arith, n.few)) }

pub returns : goal.returns
returns c =
    let n = c.args.n in (
      short_divides 64 n.y n.s (omega arith) (short n.y c.requires) n.above n.below (omega (arith, n.few)),
      short_leaves 64 n.y n.s (omega arith) (short n.y c.requires) n.above n.below (omega (arith, n.few)),
    )
