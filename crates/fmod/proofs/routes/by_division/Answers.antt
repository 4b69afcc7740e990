-- The two words are x times 2^e, and the upper one is below y, so the division gives the remainder (Reductions). Assumes nothing.
use Prim.Native.Nat.{ℕ, ◌*◌, ◌^◌}
use native.Mathlib.Omega.{arith}
use Rattle.fmod.proofs.Reductions.{upper_below, words_leave}
use Rattle.fmod.proofs.routes.by_division.Goals as goal

-- The facts of `c` have numbers that exceed omega's bound: `c` is shadowed, so that omega reads only the goal and the fact before it.
pub returns : goal.returns
returns c =
    let a = c.args in
    let d = c.div-d.ensures in
    let left =
    words_leave (2 ^ 64) (a.x * 2 ^ a.e) a.y _ _ c.div-d.result.quotient c.div-d.result.remainder (let e = c.shl_carry.ensures in let c : ℕ = 0 in omega arith) (let c : ℕ = 0 in omega arith) d.0 d.1 in
    let c : ℕ = 0 in
    let d : ℕ = 0 in
    omega (arith, left)

pub div-d-requires : goal.div-d-requires
div-d-requires c = omega (arith, c.shl_carry.ensures, upper_below 64 c.args.x c.args.e c.args.y c.requires.0 c.requires.1)
