-- The digits read whole are all of the text (Exponents). Assumes nothing.
use Rattle.std.proofs.Common.{◌≤◌, length, sym, ◌∙◌, ap, Some, arith}
use Rattle.std.proofs.lemmas.Bool.{eqb-true}
use mir.Syntax.{w32}
use mir.Val.{SFits}
use mir.ValLaws.{to_z-of_z}
use Rattle.ieee.specs.Pattern.{with_sign}
use Rattle.hex_read.proofs.Exponents.{few_none, few_long, few_some, few_wrong, few_small}
use Rattle.hex_read.proofs.exponent.read_few.Goals as goal
use Rattle.hex_read.proofs.exponent.read_few.Goals.{then-is_empty-via-then-is_empty, then-is_empty-via-else-is_empty+then-s-gt-MOST}

pub returns-then-is_empty-clause-value : goal.returns-then-is_empty-clause-value
returns-then-is_empty-clause-value c =
    let a = c.args in
    elim c.then-is_empty.branch [
      | then-is_empty-via-then-is_empty w ↦ sym (few_none (with_sign a.neg) a.s.now (eqb-true _ _ (sym c.is_empty.ensures ∙ w.if-is_empty.true)))
      | then-is_empty-via-else-is_empty+then-s-gt-MOST w ↦ sym (few_long (with_sign a.neg) a.s.now w.if-s-gt-MOST.true)
    ]

pub returns-in_err-read_digits-clause-value : goal.returns-in_err-read_digits-clause-value
returns-in_err-read_digits-clause-value c = rw c.from_residual.ensures (sym (few_wrong (with_sign c.args.neg) c.args.s.now (sym c.in_err-read_digits.ensures)))

pub signed-requires : goal.signed-requires
signed-requires c = few_small c.args.s.now _ c.if-s-gt-MOST.false c.in_ok-read_digits.ensures

pub returns-clause-value : goal.returns-clause-value
returns-clause-value c =
    let some : 1 ≤ length c.args.s.now = grind (arith, c.is_empty.ensures) in
    let fits : SFits w32 c.signed.result = record { sfits = omega (arith, c.signed.ensures.small) } in
    ap Some (to_z-of_z w32 _ fits ∙ c.signed.ensures.value) ∙ few_some (with_sign c.args.neg) c.args.s.now _ some c.if-s-gt-MOST.false c.in_ok-read_digits.ensures
