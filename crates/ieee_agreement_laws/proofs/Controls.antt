-- The toolchain's controls that are patterns, with rustc's answers: the toolchain computes each, and by the theorems it is ours. Assumes nothing.
use mathlib.Core.Path.{◌≡◌, refl, sym, ◌∙◌}
use lib.Dec.{lit<}
use lib.Ieee.{binary32, binary64, add, sub, mul, rem, of_bits, to_bits}
use Rattle.ieee.specs.Format.{b32, b64}
use Rattle.ieee.specs.Fma.{fma_of}
use Rattle.ieee.specs.Fmod.{fmod_of}
use Rattle.ieee_agreement_laws.proofs.Operations.{mul_same, sum_same, difference_same}
use Rattle.ieee_agreement_laws.proofs.Remainders.{rem_same}

-- 0.1 + 0.2, 0.3 - 0.1, 0.1 * 0.1, 0.3 % 0.1
tenth_and_fifth : fma_of b64 0x3fb9_9999_9999_999a 0x3ff0_0000_0000_0000 0x3fc9_9999_9999_999a ≡ 0x3fd3_3333_3333_3334
unfolding add of_bits to_bits
tenth_and_fifth = sym (sum_same binary64 0x3fb9_9999_9999_999a 0x3fc9_9999_9999_999a) ∙ refl

less_a_tenth : fma_of b64 0x3fd3_3333_3333_3333 0x3ff0_0000_0000_0000 0xbfb9_9999_9999_999a ≡ 0x3fc9_9999_9999_9999
unfolding sub of_bits to_bits
less_a_tenth = sym (difference_same binary64 0x3fd3_3333_3333_3333 0x3fb9_9999_9999_999a) ∙ refl

tenth_squared : fma_of b64 0x3fb9_9999_9999_999a 0x3fb9_9999_9999_999a 0x8000_0000_0000_0000 ≡ 0x3f84_7ae1_47ae_147c
unfolding mul of_bits to_bits
tenth_squared = sym (mul_same binary64 0x3fb9_9999_9999_999a 0x3fb9_9999_9999_999a) ∙ refl

rem_of_tenths : fmod_of b64 0x3fd3_3333_3333_3333 0x3fb9_9999_9999_999a ≡ 0x3fb9_9999_9999_9998
unfolding rem of_bits to_bits
rem_of_tenths = sym (rem_same binary64 0x3fd3_3333_3333_3333 0x3fb9_9999_9999_999a (lit< tt)) ∙ refl

-- half of three smallest units is a tie, and rounds up to two; the largest number doubled is infinity
half_of_three : fma_of b32 3 0x3f00_0000 0x8000_0000 ≡ 2
unfolding mul of_bits to_bits
half_of_three = sym (mul_same binary32 3 0x3f00_0000) ∙ refl

largest_doubled : fma_of b32 0x7f7f_ffff 0x3f80_0000 0x7f7f_ffff ≡ 0x7f80_0000
unfolding add of_bits to_bits
largest_doubled = sym (sum_same binary32 0x7f7f_ffff 0x7f7f_ffff) ∙ refl
