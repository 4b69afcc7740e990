-- `reduce::words::reduce_by` meets its contract: what is not refused is within the limits, and has the remainder for its value (Numbers). Assumes nothing.
use mathlib.Core.Path.{sym, ap, ◌∙◌}
use native.Mathlib.Omega.{arith}
use Rattle.ieee.specs.Refusal.{done}
use Rattle.reduce.proofs.Numbers.{within_limits, answer_done, value_done, value_below}
use Rattle.reduce.proofs.words.reduce_by.Goals as goal

pub by-requires : goal.by-requires
by-requires g c =
    let a = c.args in
    let (l, m, n) = within_limits a.bits a.x a.e a.y (omega (arith, c.requires.most)) (sym c.in_ok-refusal_of.ensures) in
    c.requires.may l m (omega arith)

pub returns-clause-answer : goal.returns-clause-answer
returns-clause-answer g c =
    let a = c.args in
    ap done (c.requires.gives _ c.by.ensures) ∙ answer_done a.bits a.x a.e a.y (sym c.in_ok-refusal_of.ensures)

pub returns-clause-below : goal.returns-clause-below
returns-clause-below g c =
    let a = c.args in
    let is = c.requires.gives _ c.by.ensures ∙ value_done a.bits a.x a.e a.y (sym c.in_ok-refusal_of.ensures) in
    omega (arith, is, value_below a.bits a.x a.e a.y)
