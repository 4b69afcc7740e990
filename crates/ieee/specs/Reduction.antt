-- The reduction, (x times 2 ^ e) mod y, on words of w bits. Assumes nothing.
use Rattle.std.specs.Prelude.{ℕ, zero, suc, ◌-◌, ◌*◌, ◌%◌, ◌^◌, ◌||◌, List, [], ◌∷◌, leb, ltb}
use Rattle.ieee.specs.Refusal.{Refusal, given, Answer, done, refused}

-- the greatest shift
abbrev pub shift_limit : ℕ
shift_limit = 4096

-- the greatest divisor, in words of w bits
abbrev pub divisor_limit : ℕ → ℕ
divisor_limit w = 2 ^ (w - 2) - 1

abbrev pub reduce_refusals : ℕ → ℕ → ℕ → ℕ → List Refusal
reduce_refusals w x e y =
    record { number = 4; reason = ltb (divisor_limit w) y || leb (2 * y) x }
    ∷ record { number = 5; reason = ltb shift_limit e }
    ∷ []

-- by the refusal's number
unfoldable pub reduce_by : ℕ → ℕ → ℕ → ℕ → Answer
reduce_by x e y zero = done (x * 2 ^ e % y)
reduce_by x e y (suc k) = refused (suc k)

unfoldable pub reduce_of : ℕ → ℕ → ℕ → ℕ → Answer
unfolding reduce_by
reduce_of w x e y = reduce_by x e y (given (reduce_refusals w x e y))
