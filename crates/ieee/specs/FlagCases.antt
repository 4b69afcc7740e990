-- Worked cases of the flags and the attributes. Assumes nothing.
use Rattle.std.specs.Prelude.{◌≡◌, true, false, pos, negsuc}
use Rattle.ieee.specs.Format.{Format, Fair, b64}
use Rattle.ieee.specs.Flags.{none, only_invalid, only_inexact, judged}
use Rattle.ieee.specs.Sqrt.{sqrt_flags}
use Rattle.ieee.specs.Whole.{floor_flags, trunc_flags}
use Rattle.ieee.specs.Rounded.{answered, sqrt_rounded, fma_rounded, scalbn_rounded}

-- one fraction bit and two exponent bits; three and three
abbrev pub one_two : Format
one_two = record { frac = 1; expo = 2 }

abbrev pub three_three : Format
three_three = record { frac = 3; expo = 3 }

-- the attributes are 0 to the nearest even, 1 toward zero, 2 down, 3 up, 4 to the nearest away from zero; judged has overflow, tininess and inexact
pub record FlagCases : Type 0 where
  pub root_of_two : (sqrt_rounded b64 0 0x4000000000000000 ≡ answered 0x3ff6a09e667f3bcd (only_inexact true)) × (sqrt_rounded b64 2 0x4000000000000000 ≡ answered 0x3ff6a09e667f3bcc (only_inexact true))
  pub root_of_four : sqrt_rounded b64 3 0x4010000000000000 ≡ answered 0x4000000000000000 none
  -- -1 and -infinity are below zero, and -0 is not
  pub root_below_zero : (sqrt_flags b64 0xbff0000000000000 ≡ only_invalid) × (sqrt_flags b64 0xfff0000000000000 ≡ only_invalid) × (sqrt_flags b64 0x8000000000000000 ≡ none) × (sqrt_flags b64 0x7ff0000000000000 ≡ none)
  -- (2 - 2 ^ -52) times 2 ^ -1023 lies midway between the largest subnormal number and the least normal one: tiny, though the answer may be normal
  pub tiny_normal : (scalbn_rounded b64 0 0x3fffffffffffffff (negsuc 1022) ≡ answered 0x0010000000000000 (judged false true true))
      × (scalbn_rounded b64 1 0x3fffffffffffffff (negsuc 1022) ≡ answered 0x000fffffffffffff (judged false true true))
  -- an exact subnormal number raises nothing
  pub exact_subnormal : scalbn_rounded b64 0 0x3ff0000000000000 (negsuc 1073) ≡ answered 1 none
  -- the largest number and half the way to the next: toward zero no overflow; the nearest even is infinity
  pub midway : (fma_rounded b64 1 0x7fefffffffffffff 0x3ff0000000000000 0x7c90000000000000 ≡ answered 0x7fefffffffffffff (only_inexact true))
      × (fma_rounded b64 0 0x7fefffffffffffff 0x3ff0000000000000 0x7c90000000000000 ≡ answered 0x7ff0000000000000 (judged true false true))
  -- twice the largest number overflows, down to the largest number
  pub twice_largest : scalbn_rounded b64 2 0x7fefffffffffffff (pos 1) ≡ answered 0x7fefffffffffffff (judged true false true)
  -- 1 - 1
  pub zero_sum : (fma_rounded b64 2 0x3ff0000000000000 0x3ff0000000000000 0xbff0000000000000 ≡ answered 0x8000000000000000 none)
      × (fma_rounded b64 3 0x3ff0000000000000 0x3ff0000000000000 0xbff0000000000000 ≡ answered 0 none)
  -- 1 times infinity less infinity
  pub infinities : fma_rounded b64 0 0x3ff0000000000000 0x7ff0000000000000 0xfff0000000000000 ≡ answered 0x7ff8000000000000 only_invalid
  -- zero times infinity plus a quiet NaN is invalid; a quiet NaN alone is not, a signalling one is
  pub clash : fma_rounded b64 0 0 0x7ff0000000000000 0x7ff8000000000000 ≡ answered 0x7ff8000000000000 only_invalid
  pub quiet : fma_rounded b64 0 0 0 0x7ff8000000000000 ≡ answered 0x7ff8000000000000 none
  pub signalling : fma_rounded b64 0 0 0 0x7ff0000000000001 ≡ answered 0x7ff8000000000000 only_invalid
  pub root_of_nan : (sqrt_flags b64 0x7ff8000000000000 ≡ none) × (sqrt_flags b64 0xfff8000000000001 ≡ none) × (sqrt_flags b64 0x7ff0000000000001 ≡ only_invalid)
  pub whole_of_nan : (floor_flags b64 0x7ff8000000000000 ≡ none) × (floor_flags b64 0x7ff0000000000001 ≡ only_invalid) × (trunc_flags b64 0x7ff8000000000000 ≡ none) × (trunc_flags b64 0x7ff0000000000001 ≡ only_invalid)
  pub floor_of_half : (floor_flags b64 0x3fe0000000000000 ≡ only_inexact true) × (trunc_flags b64 0x3fe0000000000000 ≡ only_inexact true) × (floor_flags b64 0x4000000000000000 ≡ none)
  -- fair formats whose smallest number, 2 ^ -1 and 2 ^ -5, has a root that underflows
  pub root_underflows : Fair one_two × Fair three_three × (sqrt_rounded one_two 0 1 ≡ answered 1 (judged false true true)) × (sqrt_rounded three_three 0 1 ≡ answered 6 (judged false true true))
