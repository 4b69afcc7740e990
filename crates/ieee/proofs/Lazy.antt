-- Lazy answers, each at an input where the definitions say otherwise. Assumes nothing.
use mathlib.Core.Path.{refl, ap}
use native.Mathlib.Omega.{arith}
use lib.IntN.{nat_abs}
use lib.ListN.{get_or}
use Rattle.ieee.specs.Flags.{flag_word}
use Rattle.ieee.specs.Sqrt.{sqrt_of, sqrt_flags}
use Rattle.ieee.specs.Fma.{fma_of, fma_flags}
use Rattle.ieee.specs.Scalbn.{scalbn_of, scalbn_flags}
use Rattle.ieee.specs.Whole.{floor_of, trunc_of, ceil_of, floor_flags, trunc_flags, ceil_flags}
use Rattle.ieee.specs.Modf.{modf_of, modf_whole}
use Rattle.ieee.specs.Frexp.{frexp_of, frexp_exponent, ilogb_of}
use Rattle.ieee.specs.Nextafter.{nextafter_of}
use Rattle.ieee.specs.Fmod.{fmod_of}
use Rattle.ieee.specs.Remquo.{remquo_of, quotient_of}
use Rattle.ieee.specs.Reduction.{reduce_of}
use Rattle.ieee.specs.Lists.{list_of}
use Rattle.ieee.specs.Lazy.{Lazy64, Lazy32}

pub lazy64 : Lazy64
unfolding sqrt_of fma_of fmod_of remquo_of quotient_of scalbn_of floor_of trunc_of ceil_of modf_of modf_whole frexp_of frexp_exponent ilogb_of nextafter_of list_of reduce_of sqrt_flags fma_flags scalbn_flags floor_flags trunc_flags ceil_flags
lazy64 =
    record {
      sqrt_nan = λ e. omega (arith, e);
      fma_nan = λ e. omega (arith, e);
      fmod_nan = λ e. omega (arith, e);
      remquo_nan = λ e. omega (arith, e);
      scalbn_nan = λ e. omega (arith, e);
      floor_nan = λ e. omega (arith, e);
      trunc_nan = λ e. omega (arith, e);
      ceil_nan = λ e. omega (arith, e);
      modf_nan = λ e. omega (arith, e);
      modf_whole_nan = λ e. omega (arith, e);
      frexp_nan = λ e. omega (arith, e);
      nextafter_nan = λ e. omega (arith, e);
      floor_nan_kept = λ e. omega (arith, e);
      trunc_nan_kept = λ e. omega (arith, e);
      ceil_nan_kept = λ e. omega (arith, e);
      modf_nan_kept = λ e. omega (arith, e);
      modf_whole_nan_kept = λ e. omega (arith, e);
      frexp_nan_kept = λ e. omega (arith, e);
      nextafter_nan_kept = λ e. omega (arith, e);
      ceil_kept = λ e. omega (arith, e);
      modf_kept = λ e. omega (arith, e);
      modf_whole_kept = λ e. omega (arith, e);
      frexp_kept = λ e. omega (arith, e);
      nextafter_kept = λ e. omega (arith, e);
      quotient_zero = λ e. let z = ap nat_abs e in omega (arith, z);
      frexp_exponent_zero = λ e. let z = ap nat_abs e in omega (arith, z);
      ilogb_zero = λ e. let z = ap nat_abs e in omega (arith, z);
      list_refused = λ n. n refl;
      reduction_refused = λ n. n refl;
      list_untouched = λ e. let z = ap (λ l. get_or l 0 0) e in omega (arith, z);
      list_first_alone = λ r e. let z = ap (λ l. get_or l 1 0) e in omega (arith, z);
      sqrt_no_flag = λ e. let z = ap flag_word e in omega (arith, z);
      fma_no_flag = λ e. let z = ap flag_word e in omega (arith, z);
      scalbn_no_flag = λ e. let z = ap flag_word e in omega (arith, z);
      floor_no_flag = λ e. let z = ap flag_word e in omega (arith, z);
      trunc_no_flag = λ e. let z = ap flag_word e in omega (arith, z);
      ceil_no_flag = λ e. let z = ap flag_word e in omega (arith, z);
      sqrt_always_inexact = λ e. let z = ap flag_word e in omega (arith, z);
      fma_always_inexact = λ e. let z = ap flag_word e in omega (arith, z);
      scalbn_always_inexact = λ e. let z = ap flag_word e in omega (arith, z);
      floor_always_inexact = λ e. let z = ap flag_word e in omega (arith, z);
      trunc_always_inexact = λ e. let z = ap flag_word e in omega (arith, z);
      ceil_always_inexact = λ e. let z = ap flag_word e in omega (arith, z);
    }

pub lazy32 : Lazy32
unfolding sqrt_of fma_of fmod_of remquo_of quotient_of scalbn_of floor_of trunc_of ceil_of modf_of modf_whole frexp_of frexp_exponent ilogb_of nextafter_of list_of reduce_of sqrt_flags fma_flags scalbn_flags floor_flags trunc_flags ceil_flags
lazy32 =
    record {
      sqrt_nan = λ e. omega (arith, e);
      fma_nan = λ e. omega (arith, e);
      fmod_nan = λ e. omega (arith, e);
      remquo_nan = λ e. omega (arith, e);
      scalbn_nan = λ e. omega (arith, e);
      floor_nan = λ e. omega (arith, e);
      trunc_nan = λ e. omega (arith, e);
      ceil_nan = λ e. omega (arith, e);
      modf_nan = λ e. omega (arith, e);
      modf_whole_nan = λ e. omega (arith, e);
      frexp_nan = λ e. omega (arith, e);
      nextafter_nan = λ e. omega (arith, e);
      floor_nan_kept = λ e. omega (arith, e);
      trunc_nan_kept = λ e. omega (arith, e);
      ceil_nan_kept = λ e. omega (arith, e);
      modf_nan_kept = λ e. omega (arith, e);
      modf_whole_nan_kept = λ e. omega (arith, e);
      frexp_nan_kept = λ e. omega (arith, e);
      nextafter_nan_kept = λ e. omega (arith, e);
      ceil_kept = λ e. omega (arith, e);
      modf_kept = λ e. omega (arith, e);
      modf_whole_kept = λ e. omega (arith, e);
      frexp_kept = λ e. omega (arith, e);
      nextafter_kept = λ e. omega (arith, e);
      quotient_zero = λ e. let z = ap nat_abs e in omega (arith, z);
      frexp_exponent_zero = λ e. let z = ap nat_abs e in omega (arith, z);
      ilogb_zero = λ e. let z = ap nat_abs e in omega (arith, z);
      list_refused = λ n. n refl;
      reduction_refused = λ n. n refl;
      list_untouched = λ e. let z = ap (λ l. get_or l 0 0) e in omega (arith, z);
      list_first_alone = λ r e. let z = ap (λ l. get_or l 1 0) e in omega (arith, z);
      sqrt_no_flag = λ e. let z = ap flag_word e in omega (arith, z);
      fma_no_flag = λ e. let z = ap flag_word e in omega (arith, z);
      scalbn_no_flag = λ e. let z = ap flag_word e in omega (arith, z);
      floor_no_flag = λ e. let z = ap flag_word e in omega (arith, z);
      trunc_no_flag = λ e. let z = ap flag_word e in omega (arith, z);
      ceil_no_flag = λ e. let z = ap flag_word e in omega (arith, z);
      sqrt_always_inexact = λ e. let z = ap flag_word e in omega (arith, z);
      fma_always_inexact = λ e. let z = ap flag_word e in omega (arith, z);
      scalbn_always_inexact = λ e. let z = ap flag_word e in omega (arith, z);
      floor_always_inexact = λ e. let z = ap flag_word e in omega (arith, z);
      trunc_always_inexact = λ e. let z = ap flag_word e in omega (arith, z);
      ceil_always_inexact = λ e. let z = ap flag_word e in omega (arith, z);
    }
