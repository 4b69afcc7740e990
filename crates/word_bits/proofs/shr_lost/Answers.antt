-- A shift by a word or more drops the whole number. Assumes nothing.
use mathlib.Core.Path.{sym, ap}
use Prim.Native.Nat.{◌^◌}
use native.Mathlib.Omega.{arith}
use lib.Dec.{ltb}
use lib.Pow.{pow_mono}
use Rattle.algebra.proofs.Quotients.{div_is}
use Rattle.word_bits.proofs.shr_lost.Goals as goal

pub returns-then-k-ge64 : goal.returns-then-k-ge64
returns-then-k-ge64 c =
    let l = pow_mono {i = 64} {j = c.args.k} (omega arith) in
    let (q, r) = div_is c.args.a (2 ^ c.args.k) 0 c.args.a (omega arith) (omega arith) in
    (omega arith, ap (ltb 0) (sym r))
