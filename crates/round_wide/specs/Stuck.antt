-- A number without its last bits, with a sticky mark. Assumes nothing.
use Rattle.std.specs.Prelude.{ℕ, ◌+◌, ◌*◌, ◌/◌, ◌%◌, ◌^◌, cond, eqb}

-- v without its last k bits; the last remaining bit is 1 where any of these was 1
unfoldable pub stuck : ℕ → ℕ → ℕ
stuck v k = cond (eqb (v % 2 ^ k) 0) (v / 2 ^ k) (v / 2 ^ k / 2 * 2 + 1)
