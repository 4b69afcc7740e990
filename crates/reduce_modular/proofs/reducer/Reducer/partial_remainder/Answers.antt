-- `reduce_modular::reducer::Reducer::partial_remainder` meets its contract (reduce_laws: Widths). Assumes nothing.
use mathlib.Core.Path.{refl, ◌∙◌}
use native.Mathlib.Omega.{arith}
use Rattle.reduce_laws.proofs.Widths.{upper_leaves_room, held_by_upper}
use Rattle.reduce_modular.proofs.reducer.Reducer.partial_remainder.Goals as goal

pub returns : goal.returns
returns c =
    let p = c.args.self.product in
    c.mul_hi.ensures ∙ held_by_upper (omega arith) c.args.self.reduces p.hi p.lo refl (omega arith)

pub overflow_add-self : goal.overflow_add-self
overflow_add-self c =
    let p = c.args.self.product in
    record { fits = upper_leaves_room (omega arith) c.args.self.reduces p.hi p.lo refl }
