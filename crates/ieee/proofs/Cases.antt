-- The worked cases, computed. Assumes nothing.
use mathlib.Core.Path.{refl}
use Rattle.ieee.specs.Sqrt.{sqrt_of, sqrt_flags}
use Rattle.ieee.specs.Fma.{fma_of, fma_flags}
use Rattle.ieee.specs.Scalbn.{scalbn_of, scalbn_flags}
use Rattle.ieee.specs.Whole.{floor_of, floor_flags, trunc_of, trunc_flags}
use Rattle.ieee.specs.Fmod.{fmod_of}
use Rattle.ieee.specs.Remquo.{remquo_of, quotient_of}
use Rattle.ieee.specs.Cases.{Cases}

pub cases : Cases
unfolding sqrt_of sqrt_flags floor_of floor_flags trunc_of trunc_flags fmod_of remquo_of quotient_of scalbn_of scalbn_flags fma_of fma_flags
cases =
    record {
      sqrt_two = (refl, refl);
      sqrt_smallest = (refl, refl);
      sqrt_minus_zero = (refl, refl);
      sqrt_two_32 = (refl, refl);
      floor_half = (refl, refl);
      floor_minus_two_and_a_half = (refl, refl);
      trunc_minus_three_quarters = (refl, refl);
      fmod_five_and_a_half_by_two = refl;
      remquo_five_by_two = (refl, refl);
      remquo_minus_seven_by_two = (refl, refl);
      remquo_past_the_quotient = (refl, refl);
      scalbn_tie = (refl, refl);
      scalbn_past_the_tie = (refl, refl);
      fma_square_less = (refl, refl);
      fma_largest = (refl, refl);
    }
