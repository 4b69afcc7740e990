-- The patterns that are set aside before an operand is unpacked. Assumes nothing.
use Rattle.std.specs.Prelude.{ℕ, zero, suc, Bool, true, false}
use Rattle.ieee.specs.Format.{Format}
use Rattle.ieee.specs.Pattern.{Kind, nan, infinite, finite, kind}

-- a zero, an infinity or a NaN
abbrev pub aside_by : Kind → Bool
aside_by nan = true
aside_by infinite = true
aside_by (finite zero) = true
aside_by (finite (suc u)) = false

unfoldable pub aside : Format → ℕ → Bool
unfolding kind
aside f x = aside_by (kind f x)
