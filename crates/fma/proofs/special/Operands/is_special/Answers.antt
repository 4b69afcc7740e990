-- z is told by its exponent field (Rows). Assumes nothing.
use Prim.Native.Nat.{◌-◌}
use mathlib.Core.Path.{sym, ap₂, ◌∙◌}
use mathlib.Core.Bool.{true, cond}
use lib.Dec.{leb, eqb}
use Rattle.ieee.specs.Format.{inf}
use Rattle.ieee.specs.Pattern.{magnitude}
use Rattle.fmt_fields.specs.Layout.{format_of}
use Rattle.fma.proofs.Rows.{last_is_high}
use Rattle.fma.proofs.special.Operands.is_special.Goals as goal

pub returns : goal.returns
returns c =
    let f = format_of c.args.self.fmt in
    ap₂ (λ a b. eqb a (b - 1)) c.exponent_field.ensures c.pow.ensures
    ∙ last_is_high f c.args.self.x c.args.self.y c.args.self.z
    ∙ ap₂ (λ a b. cond a true (cond b true (leb (inf f) (magnitude f c.args.self.z)))) (sym c.if-is_zero_nan_inf.false ∙ c.is_zero_nan_inf.ensures) (sym c.if-is_zero_nan_inf-2.false ∙ c.is_zero_nan_inf-2.ensures)
