-- The state after the steps done: it holds what is left of x times 2 to 63 bits for each (reduce_laws: Rounds).
use Rattle.std.proofs.Common.{◌*◌}
use Rattle.word_wide.specs.Value.{value}
use Rattle.reduce_laws.proofs.Rounds.{After}
use Rattle.reduce_modular.proofs.modular.by_words.Given as goal

abbrev pub invariant-loop : goal.invariant-loop
invariant-loop l = After 64 l.n l.x (63 * l.counter) l.state.m l.state.r (value l.state.product)
