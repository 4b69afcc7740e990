-- The refusal decides the answer and the output (Numbers). Assumes nothing.
use Rattle.std.proofs.Common.{refl, ◌∙◌}
use Rattle.std.proofs.lemmas.Result.{err_from_is_err_and}
use Rattle.ieee.specs.Format.{b64}
use Rattle.lists.proofs.Numbers.{refusal_some, accepted_alike, refused_leaves, done_fills}
use Rattle.lists.proofs.call.list64.Goals as goal

pub returns-in_err-list_refusal-clause-answer : goal.returns-in_err-list_refusal-clause-answer
returns-in_err-list_refusal-clause-answer c =
    let p = err_from_is_err_and c.from_residual.result c.from_residual.ensures.1 in
    rw (p.1, p.2) (refused_leaves b64 c.args.op c.args.xs.now c.args.ys.now (c.in_err-list_refusal.ensures c.args.xs.now c.args.ys.now refl refl) (refusal_some c.in_err-list_refusal.field-0.0)).0

pub returns-in_err-list_refusal-clause-output : goal.returns-in_err-list_refusal-clause-output
returns-in_err-list_refusal-clause-output c =
    (refused_leaves b64 c.args.op c.args.xs.now c.args.ys.now (c.in_err-list_refusal.ensures c.args.xs.now c.args.ys.now refl refl) (refusal_some c.in_err-list_refusal.field-0.0)).1

pub fill64-requires : goal.fill64-requires
fill64-requires c = accepted_alike b64 c.args.op c.args.xs.now c.args.ys.now (c.in_ok-list_refusal.ensures c.args.xs.now c.args.ys.now refl refl)

pub returns-clause-answer : goal.returns-clause-answer
returns-clause-answer c = (done_fills b64 c.args.op c.args.xs.now c.args.ys.now (c.in_ok-list_refusal.ensures c.args.xs.now c.args.ys.now refl refl)).0

pub returns-clause-output : goal.returns-clause-output
returns-clause-output c =
    c.fill64.ensures
    ∙ (done_fills b64 c.args.op c.args.xs.now c.args.ys.now (c.in_ok-list_refusal.ensures c.args.xs.now c.args.ys.now refl refl)).1
