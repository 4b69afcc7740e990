-- Operands of fma that have a row of their own. Assumes nothing.
use Rattle.std.specs.Prelude.{ℕ, Bool, true, false, cond, leb}
use Rattle.ieee.specs.Format.{Format, inf}
use Rattle.ieee.specs.Pattern.{magnitude, Kind, nan, infinite, finite, kind}
use Rattle.ieee.specs.Fma.{times, against}
use Rattle.fmt_decode.specs.Aside.{aside}

-- x or y is a zero, an infinity or a NaN, or z is an infinity or a NaN
abbrev pub special : Format → ℕ → ℕ → ℕ → Bool
special f x y z = cond (aside f x) true (cond (aside f y) true (leb (inf f) (magnitude f z)))

-- an infinite product meets an infinite z, and b says that it is of the other sign
abbrev pub opposes : Bool → Kind → Kind → Bool
opposes b nan l = false
opposes b infinite nan = false
opposes b infinite infinite = b
opposes b infinite (finite w) = false
opposes b (finite p) l = false

abbrev pub opposed : Format → ℕ → ℕ → ℕ → Bool
opposed f x y z = opposes (against f x y z) (times (kind f x) (kind f y)) (kind f z)
