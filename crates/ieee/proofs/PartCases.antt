-- The worked cases of ceil, modf, frexp, ilogb and nextafter, computed. Assumes nothing.
use mathlib.Core.Path.{refl}
use Rattle.ieee.specs.Whole.{ceil_of, ceil_flags}
use Rattle.ieee.specs.Modf.{modf_of, modf_whole}
use Rattle.ieee.specs.Frexp.{frexp_of, frexp_exponent, ilogb_of}
use Rattle.ieee.specs.Nextafter.{nextafter_of}
use Rattle.ieee.specs.PartCases.{PartCases}

pub part_cases : PartCases
unfolding ceil_of ceil_flags modf_of modf_whole frexp_of frexp_exponent ilogb_of nextafter_of
part_cases =
    record {
      ceil_two_and_a_half = (refl, refl);
      ceil_minus_half = (refl, refl);
      ceil_smallest = (refl, refl);
      ceil_minus_three = (refl, refl);
      modf_minus_two_and_a_half = (refl, refl);
      modf_minus_infinity = (refl, refl);
      modf_last_bit = (refl, refl);
      modf_minus_whole = (refl, refl);
      frexp_eight = (refl, refl);
      frexp_smallest = (refl, refl);
      frexp_largest = (refl, refl);
      frexp_minus_zero = (refl, refl);
      ilogb_one = refl;
      ilogb_smallest = refl;
      ilogb_zero = refl;
      ilogb_infinity = refl;
      nextafter_one_up = refl;
      nextafter_zeros = refl;
      nextafter_zero_down = refl;
      nextafter_smallest_down = refl;
      nextafter_largest_up = refl;
      nextafter_infinity_down = refl;
    }
