-- The part of a list after its first elements is all that follows them. Assumes nothing.
use mathlib.Core.Path.{◌≡◌}
use mathlib.Core.List.{List}
use Prim.Native.Nat.{ℕ, ◌-◌}
use native.Mathlib.Omega.{arith}
use lib.ListN.{length, take, drop, length-drop}
use lib.Seq.{take_all}

pub rest_whole : (n : ℕ) (s : List ℕ) → take (length s - n) (drop n s) ≡ drop n s
rest_whole n s = take_all (length s - n) (drop n s) (omega (arith, length-drop n s))
