-- The numbers of binary64 and binary32, of the flags and of the limits. Assumes nothing.
use Rattle.std.specs.Prelude.{ℕ, ◌+◌, ◌-◌, ◌*◌, ◌^◌, ◌≡◌, true, false}
use Rattle.ieee.specs.Format.{Format, b64, b32, bias, low, units, canonical}
use Rattle.ieee.specs.Rule.{halfway}
use Rattle.ieee.specs.Flags.{none, only_invalid, only_inexact, judged, flag_word, largest, least_normal}
use Rattle.ieee.specs.Reduction.{shift_limit, divisor_limit}
use Rattle.ieee.specs.Lists.{list_limit}

-- fraction bits, bias, the exponent of the smallest unit, the halfway point to infinity, the canonical NaN; 1 is 2 ^ low smallest units
pub record Numbers (f : Format) (frac-is bias-is low_is halfway-is nan_is one : ℕ) : Type 0 where
  pub fraction : f.frac ≡ frac-is
  pub offset : bias f ≡ bias-is
  pub smallest : (low f ≡ low_is) × (units f 1 ≡ 1) × (units f one ≡ 2 ^ low f)
  pub overflow : halfway f ≡ 2 * (halfway-is * 2 ^ low f)
  pub quiet : canonical f ≡ nan_is

abbrev pub Numbers64 : Type 0
Numbers64 = Numbers b64 52 1023 1074 (2 ^ 1024 - 2 ^ 970) 0x7ff8000000000000 0x3ff0000000000000

abbrev pub Numbers32 : Type 0
Numbers32 = Numbers b32 23 127 149 (2 ^ 128 - 2 ^ 103) 0x7fc00000 0x3f800000

-- a number for each flag, and for flags together their sum
pub record FlagNumbers : Type 0 where
  pub nothing : flag_word none ≡ 0
  pub invalid : flag_word only_invalid ≡ 1
  pub division_by_zero : flag_word (record { invalid = false; division_by_zero = true; overflow = false; underflow = false; inexact = false }) ≡ 4
  pub overflow : flag_word (judged true false true) ≡ 8 + 32
  pub underflow : flag_word (judged false true true) ≡ 16 + 32
  pub inexact : flag_word (only_inexact true) ≡ 32

-- the ends that flags are judged by: the largest finite number and the least normal one, as patterns
pub record Ends : Type 0 where
  pub largest64 : largest b64 ≡ 0x7fefffffffffffff
  pub normal64 : least_normal b64 ≡ 0x0010000000000000
  pub largest32 : largest b32 ≡ 0x7f7fffff
  pub normal32 : least_normal b32 ≡ 0x00800000

-- places of a list; the divisor and the shift of a reduction
pub record Limits : Type 0 where
  pub places : list_limit ≡ 8192
  pub divisor64 : divisor_limit 64 ≡ 2 ^ 62 - 1
  pub divisor32 : divisor_limit 32 ≡ 2 ^ 30 - 1
  pub shift : shift_limit ≡ 4096
