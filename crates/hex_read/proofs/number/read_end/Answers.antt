-- Each test by its law, and the number from the digits and the exponent (Numbers, Texts). Assumes nothing.
use Rattle.std.proofs.Common.{◌≡◌, ◌+◌, ◌*◌, ◌≤◌, get_or, arith, pos, ◌+ℤ◌, ◌-ℤ◌, Some, None}
use Rattle.std.proofs.lemmas.Int.{ints}
use mir.Syntax.{w32}
use mir.Val.{to_z, of_z}
use Rattle.hex_read.proofs.Texts.{end_none, end_short, end_other}
use Rattle.hex_read.proofs.Numbers.{end_with, number_made}
use Rattle.hex_read.proofs.number.read_end.Goals as goal

pub returns-in_default : goal.returns-in_default
returns-in_default c neg d h = rw (end_short neg d c.args.n c.args.k c.args.s.now c.in_default.len_below)

pub returns-in_default-2 : goal.returns-in_default-2
returns-in_default-2 c neg d h = rw (end_other neg d c.args.n c.args.k c.args.s.now (λ e. absurd (omega arith)))

pub returns-then-n-eq0 : goal.returns-then-n-eq0
returns-then-n-eq0 c neg d h = rw (end_none neg d c.args.n c.args.k c.args.s.now c.if-n-eq0.true)

pub returns-in_err-exp : goal.returns-in_err-exp
returns-in_err-exp c neg d h =
    let some : 1 ≤ c.args.n = omega arith in
    let letter : get_or c.args.s.now 0 0 ≡ 112 = omega arith in
    rw (c.from_residual.ensures, end_with neg d c.args.n c.args.k c.args.s.now None c.in-112.len_at_least some letter c.in_err-exp.ensures.value)

pub returns : goal.returns
returns c neg d h =
    let a = c.args in
    let some : 1 ≤ a.n = omega arith in
    let letter : get_or a.s.now 0 0 ≡ 112 = omega arith in
    let exp : to_z w32 (of_z w32 c.power_of.result) ≡ c.in_ok-exp.exp +ℤ pos (4 * a.lead.extra) -ℤ pos (4 * a.k + 1) = omega (arith, ints, c.power_of.ensures, c.in_ok-exp.ensures.small) in
    rw (end_with neg d a.n a.k a.s.now (Some c.in_ok-exp.exp) c.in-112.len_at_least some letter c.in_ok-exp.ensures.value)
    (number_made neg d a.k c.in_ok-exp.exp _ h c.requires.extra c.requires.behind c.in_ok-exp.ensures.small c.marked.ensures exp)
