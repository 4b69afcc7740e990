-- Fifteen worked cases, with the flags of those operations that raise any. Assumes nothing.
use Rattle.std.specs.Prelude.{◌≡◌, true, false, pos, negsuc}
use Rattle.ieee.specs.Format.{b64, b32}
use Rattle.ieee.specs.Flags.{none, only_inexact, judged}
use Rattle.ieee.specs.Sqrt.{sqrt_of, sqrt_flags}
use Rattle.ieee.specs.Fma.{fma_of, fma_flags}
use Rattle.ieee.specs.Scalbn.{scalbn_of, scalbn_flags}
use Rattle.ieee.specs.Whole.{floor_of, floor_flags, trunc_of, trunc_flags}
use Rattle.ieee.specs.Fmod.{fmod_of}
use Rattle.ieee.specs.Remquo.{remquo_of, quotient_of}

-- judged has overflow, tininess and inexact
pub record Cases : Type 0 where
  pub sqrt_two : (sqrt_of b64 0x4000000000000000 ≡ 0x3ff6a09e667f3bcd) × (sqrt_flags b64 0x4000000000000000 ≡ only_inexact true)
  pub sqrt_smallest : (sqrt_of b64 0x0000000000000001 ≡ 0x1e60000000000000) × (sqrt_flags b64 0x0000000000000001 ≡ none)
  pub sqrt_minus_zero : (sqrt_of b64 0x8000000000000000 ≡ 0x8000000000000000) × (sqrt_flags b64 0x8000000000000000 ≡ none)
  pub sqrt_two_32 : (sqrt_of b32 0x40000000 ≡ 0x3fb504f3) × (sqrt_flags b32 0x40000000 ≡ only_inexact true)
  pub floor_half : (floor_of b64 0x3fe0000000000000 ≡ 0) × (floor_flags b64 0x3fe0000000000000 ≡ only_inexact true)
  pub floor_minus_two_and_a_half : (floor_of b64 0xc004000000000000 ≡ 0xc008000000000000) × (floor_flags b64 0xc004000000000000 ≡ only_inexact true)
  pub trunc_minus_three_quarters : (trunc_of b64 0xbfe8000000000000 ≡ 0x8000000000000000) × (trunc_flags b64 0xbfe8000000000000 ≡ only_inexact true)
  pub fmod_five_and_a_half_by_two : fmod_of b64 0x4016000000000000 0x4000000000000000 ≡ 0x3ff8000000000000
  pub remquo_five_by_two : (remquo_of b64 0x4014000000000000 0x4000000000000000 ≡ 0x3ff0000000000000) × (quotient_of b64 0x4014000000000000 0x4000000000000000 ≡ pos 2)
  pub remquo_minus_seven_by_two : (remquo_of b64 0xc01c000000000000 0x4000000000000000 ≡ 0x3ff0000000000000) × (quotient_of b64 0xc01c000000000000 0x4000000000000000 ≡ negsuc 3)
  pub remquo_past_the_quotient : (remquo_of b64 0x41e0000000000000 0x3ff0000000000000 ≡ 0) × (quotient_of b64 0x41e0000000000000 0x3ff0000000000000 ≡ pos 0)
  pub scalbn_tie : (scalbn_of b64 0x3ff0000000000000 (negsuc 1074) ≡ 0) × (scalbn_flags b64 0x3ff0000000000000 (negsuc 1074) ≡ judged false true true)
  pub scalbn_past_the_tie : (scalbn_of b64 0x3ff8000000000000 (negsuc 1074) ≡ 1) × (scalbn_flags b64 0x3ff8000000000000 (negsuc 1074) ≡ judged false true true)
  pub fma_square_less : (fma_of b64 0x3ff0000000000001 0x3ff0000000000001 0xbff0000000000002 ≡ 0x3970000000000000) × (fma_flags b64 0x3ff0000000000001 0x3ff0000000000001 0xbff0000000000002 ≡ none)
  pub fma_largest : (fma_of b64 0x7fefffffffffffff 0x4000000000000000 0xffefffffffffffff ≡ 0x7fefffffffffffff) × (fma_flags b64 0x7fefffffffffffff 0x4000000000000000 0xffefffffffffffff ≡ none)
