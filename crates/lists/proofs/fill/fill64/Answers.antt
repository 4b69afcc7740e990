-- Each operation by its number, at every place (Operations, Filling). Assumes nothing.
use Rattle.std.proofs.Common.{sym, ap, ◌∙◌, arith}
use Rattle.ieee.specs.Format.{b64}
use Rattle.ieee.specs.Lists.{operation}
use Rattle.lists.specs.Operations.{operation_number}
use Rattle.lists.proofs.Filling.{each_filled, all_left}
use Rattle.lists.proofs.Operations.{one_is_sqrt, two_is_floor, three_is_trunc, unknown_leave}
use Rattle.lists.proofs.fill.fill64.Goals as goal

pub returns-in-Ok-Sqrt : goal.returns-in-Ok-Sqrt
returns-in-Ok-Sqrt c =
    each_filled (operation b64 c.args.op) c.args.xs.now c.fill.new.ys (omega arith)
    (λ k h. c.fill.ensures k (omega arith) ∙ one_is_sqrt b64 c.args.op _ (sym c.in-Ok-Sqrt.ensures ∙ ap operation_number c.in-Ok-Sqrt.field-0-is))

pub returns-in-Ok-Floor : goal.returns-in-Ok-Floor
returns-in-Ok-Floor c =
    each_filled (operation b64 c.args.op) c.args.xs.now c.fill-in-Ok-Floor.new.ys (omega arith)
    (λ k h. c.fill-in-Ok-Floor.ensures k (omega arith) ∙ two_is_floor b64 c.args.op _ (sym c.in-Ok-Floor.ensures ∙ ap operation_number c.in-Ok-Floor.field-0-is))

pub returns-in-Ok-Trunc : goal.returns-in-Ok-Trunc
returns-in-Ok-Trunc c =
    each_filled (operation b64 c.args.op) c.args.xs.now c.fill-in-Ok-Trunc.new.ys (omega arith)
    (λ k h. c.fill-in-Ok-Trunc.ensures k (omega arith) ∙ three_is_trunc b64 c.args.op _ (sym c.in-Ok-Trunc.ensures ∙ ap operation_number c.in-Ok-Trunc.field-0-is))

pub returns-in-Err : goal.returns-in-Err
returns-in-Err c =
    c.copy_from_slice.ensures.after ∙ all_left (operation b64 c.args.op) (λ x. unknown_leave b64 c.args.op x c.in-Err.ensures.1) c.args.xs.now
