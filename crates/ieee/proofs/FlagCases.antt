-- The worked cases of the flags and the attributes, computed. Assumes nothing.
use mathlib.Core.Path.{refl}
use lib.Dec.{lit≤, lit<}
use Rattle.ieee.specs.Sqrt.{sqrt_flags}
use Rattle.ieee.specs.Whole.{floor_flags, trunc_flags}
use Rattle.ieee.specs.Rounded.{sqrt_rounded, fma_rounded, scalbn_rounded}
use Rattle.ieee.specs.FlagCases.{FlagCases}

pub flag_cases : FlagCases
unfolding sqrt_rounded fma_rounded scalbn_rounded sqrt_flags floor_flags trunc_flags
flag_cases =
    record {
      root_of_two = (refl, refl);
      root_of_four = refl;
      root_below_zero = (refl, refl, refl, refl);
      tiny_normal = (refl, refl);
      exact_subnormal = refl;
      midway = (refl, refl);
      twice_largest = refl;
      zero_sum = (refl, refl);
      infinities = refl;
      clash = refl;
      quiet = refl;
      signalling = refl;
      root_of_nan = (refl, refl, refl);
      whole_of_nan = (refl, refl, refl, refl);
      floor_of_half = (refl, refl, refl);
      root_underflows = (
        record { frac_pos = lit≤ tt; expo_two = lit≤ tt; frac_fits = lit< tt },
        record { frac_pos = lit≤ tt; expo_two = lit≤ tt; frac_fits = lit< tt },
        refl,
        refl,
      );
    }
