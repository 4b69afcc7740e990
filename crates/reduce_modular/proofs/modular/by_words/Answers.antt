-- The reducer holds the remainder of x times the part of 2^e that is done (reduce_laws: Rounds). Assumes nothing.
use mathlib.Core.Path.{ap, ◌∙◌, subst}
use Prim.Native.Nat.{ℕ, ◌%◌}
use native.Mathlib.Omega.{arith}
use Rattle.word_wide.specs.Value.{value}
use Rattle.reduce_laws.proofs.Rounds.{After, after_start, after_step, left_at_last, state_below}
use Rattle.reduce_modular.specs.declared.reducer.Reducer.{Reducer}
use Rattle.reduce_modular.proofs.modular.by_words.Goals as goal
use Rattle.reduce_modular.proofs.modular.by_words.Goals.{After-shift_reduce-last}

-- the state after i bits of the shift
abbrev At : ℕ → ℕ → ℕ → Reducer → Type 0
At n x i s = After 64 n x i s.m s.r (value s.product)

-- after the last step, by the rest of the shift
last : (c : After-shift_reduce-last) → At c.args.n c.args.x c.args.e c.shift_reduce-last.result.state
last c =
    subst (λ i. At c.args.n c.args.x i c.shift_reduce-last.result.state) (omega arith)
    (after_step (omega arith) c.loop.invariant c.shift_reduce-last.ensures)

pub loop-init : goal.loop-init
loop-init c = after_start (omega arith) c.new-state.ensures

pub loop-preserved : goal.loop-preserved
loop-preserved c =
    subst (λ i. At c.args.n c.args.x i c.word_reduce.result.state) (omega arith)
    (after_step (omega arith) c.loop.invariant c.word_reduce.ensures)

pub subtract_once-requires : goal.subtract_once-requires
subtract_once-requires c =
    omega (arith, c.partial_remainder.ensures, state_below (last (goal.at.subtract_once-requires c).After-shift_reduce-last).state)

pub returns : goal.returns
returns c =
    c.subtract_once.ensures ∙ ap (λ h. h % c.args.n) c.partial_remainder.ensures
    ∙ left_at_last (omega arith) (last (goal.at.returns c).After-shift_reduce-last).left
