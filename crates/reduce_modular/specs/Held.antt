-- The laws' state (reduce_laws: Reducer) at the reducer's words of 64 bits. Assumes nothing.
use Rattle.std.specs.Prelude.{ℕ, ◌+◌, ◌-◌, ◌*◌, ◌^◌, ◌<◌, ◌≡◌}
use Rattle.word_division.specs.declared.digit.Divided.{Divided}
use Rattle.word_wide.specs.Value.{value}
use Rattle.reduce_laws.specs.Reducer as laws
use Rattle.reduce_modular.specs.declared.reducer.Reducer.{Reducer}

-- holds x, for the divisor n
abbrev pub Holds : ℕ → ℕ → Reducer → Type 0
Holds n x s = laws.Holds 64 n x s.m s.r (value s.product)

abbrev pub held : Reducer → ℕ
held s = laws.held_of 64 s.m (value s.product)

-- a step by 2 ^ k, with the quotient a
abbrev pub Stepped : ℕ → Reducer → ℕ → Reducer → Type 0
Stepped k s a z = laws.Stepped 64 k s.m s.r (value s.product) a z.m z.r (value z.product)

-- the division with which a reducer for n starts: R (R / 2 - m) by m, where R is 2 ^ 64 and m is 2 n
abbrev pub Starts : ℕ → Divided → Type 0
Starts n d = (d.quotient * (2 * n) + d.remainder ≡ (2 ^ 63 - 2 * n) * 2 ^ 64) × (d.remainder < 2 * n)
