-- Where x times 2^e is a word it is divided as it stands. Otherwise the number passed on is below twice y and has the remainders of x (Reductions). Assumes nothing.
use Prim.Native.Nat.{◌%◌}
use mathlib.Core.Path.{ap}
use native.Mathlib.Nat.{mod-eq_of_lt}
use native.Mathlib.Omega.{arith}
use Rattle.fmod.proofs.Reductions.{shifted_fits, near_is}
use Rattle.fmod.proofs.routes.reduction64.Goals as goal

pub returns-then-d-lt12 : goal.returns-then-d-lt12
returns-then-d-lt12 c = let d = c.args.d in ap (λ t. t % d.by) (mod-eq_of_lt (shifted_fits 64 53 d.sig d.shift c.requires.0 (omega arith)))

pub returns-then-d-lt64 : goal.returns-then-d-lt64
returns-then-d-lt64 c =
    let d = c.args.d in
    let r = c.below_twice-near in
    omega (arith, c.by_division.ensures, (near_is d.sig d.by d.some r.result r.ensures).1 d.shift)

pub returns : goal.returns
returns c =
    let d = c.args.d in
    let r = c.below_twice-near in
    omega (arith, c.linear_mul_reduction.ensures, (near_is d.sig d.by d.some r.result r.ensures).1 d.shift)
