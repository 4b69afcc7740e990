use Rattle.std.proofs.Common.{◌≡◌, ◌∙◌, length, arith, sym}
use mathlib.Core.Bool.{and-false, true≢false}
use Rattle.std.proofs.lemmas.Bool.{eqb-true}
use borrow.Author.Tests.{eq-eqb, ne_eqb}
use Rattle.text_lines.proofs.Scanning.{blank_twice, blank_on, blank_end, blanks_of_none, blanks_of_some}
use Rattle.text_lines.proofs.scan.has_blank_too_many.Goals as goal
use Rattle.text_lines.proofs.scan.has_blank_too_many.Goals.{else-is_blank-via-then-is_blank+else-after_blank, else-is_blank-via-else-is_blank}

pub returns-then-after_blank : goal.returns-then-after_blank
returns-then-after_blank c =
    let s = c.args.s.now in
    let some : length s ≡ 0 → ⊥ = λ e. omega arith in
    blank_twice s c.loop-c.c-index c.loop-c.after_blank (omega arith) c.if-after_blank.true (eq-eqb _ _ c.if-is_blank.true)
    ∙ c.loop-c.invariant
    ∙ blanks_of_some s some

pub returns-then-not-is_empty : goal.returns-then-not-is_empty
returns-then-not-is_empty c =
    let s = c.args.s.now in
    let some : length s ≡ 0 → ⊥ = λ e. absurd (true≢false (sym (eq-eqb (length s) 0 e) ∙ sym c.is_empty.ensures ∙ c.if-not-is_empty.true)) in
    blank_end s c.loop-c.c-index c.loop-c.after_blank (omega arith) ∙ c.loop-c.invariant ∙ blanks_of_some s some

pub returns-else-not-is_empty : goal.returns-else-not-is_empty
returns-else-not-is_empty c = rw c.if-not-is_empty.false (blanks_of_none c.args.s.now (eqb-true _ _ (sym c.if-not-is_empty.ensures)))

pub loop-c-preserved : goal.loop-c-preserved
loop-c-preserved c =
    let on = blank_on c.args.s.now c.loop-c.c-index c.loop-c.after_blank (omega arith) in
    elim c.else-is_blank.branch [
      | else-is_blank-via-then-is_blank+else-after_blank w ↦ on (let e = w.if-after_blank.false in rw e)
      | else-is_blank-via-else-is_blank w ↦ on (let e = ne_eqb _ _ w.if-is_blank.false in rw e (and-false c.loop-c.after_blank))
    ]
    ∙ c.loop-c.invariant
