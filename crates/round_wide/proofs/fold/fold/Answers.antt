-- One word stays; shifted left by its leading zeros, the high word has room for the carry of the low one, and the rest of the low word is lost (Folds). Assumes nothing.
use Prim.Native.Nat.{◌+◌, ◌*◌, ◌%◌, ◌^◌}
use mathlib.Core.Path.{refl, sym, ap, ◌∙◌}
use native.Mathlib.Omega.{arith}
use lib.Count.{count_leading_zeros}
use Rattle.algebra.proofs.Leading.{leading_fills}
use Rattle.round_wide.proofs.Folds.{folded_fits, folded_is, one_word}
use Rattle.round_wide.proofs.fold.fold.Goals as goal

pub returns-then-w-eq0 : goal.returns-then-w-eq0
returns-then-w-eq0 c =
    let (k, s) = one_word c.args.w.hi c.args.w.lo c.if-w-eq0.true in
    (sym s, sym k)

pub overflow_add-kept : goal.overflow_add-kept
overflow_add-kept c =
    let w = c.args.w in
    record {
      fits = folded_fits 64 w.hi w.lo _ (leading_fills 64 w.hi (omega arith) (omega arith)) _ (omega arith)
          (ap (λ x. w.hi * 2 ^ count_leading_zeros 64 w.hi % 2 ^ 64 + x) c.shl_carry.ensures);
    }

pub returns : goal.returns
returns c =
    let w = c.args.w in
    (c.set_sticky.ensures ∙ folded_is 64 w.hi w.lo _ (leading_fills 64 w.hi (omega arith) (omega arith)) _ (ap (λ x. w.hi * 2 ^ count_leading_zeros 64 w.hi % 2 ^ 64 + x) c.shl_carry.ensures), refl)
