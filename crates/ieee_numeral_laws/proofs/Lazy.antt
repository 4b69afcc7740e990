-- Lazy readers and writers, each at an input where the definitions say otherwise. Assumes nothing.
use mathlib.Core.Path.{refl, ap}
use native.Mathlib.Omega.{arith}
use lib.ListN.{get_or}
use Rattle.ieee_numeral_laws.specs.Read.{read_of, read_rounded}
use Rattle.ieee_numeral_laws.specs.Write.{write_of}
use Rattle.ieee_numeral_laws.specs.LazyNumerals.{LazyNumerals64, LazyNumerals32}

pub lazy_numerals64 : LazyNumerals64
unfolding read_of read_rounded write_of
lazy_numerals64 =
    record {
      read_refused = λ h. h refl;
      read_accepted = λ e. omega (arith, e);
      read_nan = λ e. omega (arith, e);
      read_zero = λ e. omega (arith, e);
      read_sign_lost = λ e. omega (arith, e);
      read_attribute_ignored = λ e. omega (arith, e);
      write_refused = λ h. h refl;
      write_accepted = λ e. omega (arith, e);
      write_no_length = λ e. omega (arith, e);
      write_untouched = λ e. omega (arith, ap (λ l. get_or l 0 0) e);
      write_first_alone = λ c e. omega (arith, ap (λ l. get_or l 1 0) e);
    }

pub lazy_numerals32 : LazyNumerals32
unfolding read_of read_rounded write_of
lazy_numerals32 =
    record {
      read_refused = λ h. h refl;
      read_accepted = λ e. omega (arith, e);
      read_nan = λ e. omega (arith, e);
      read_zero = λ e. omega (arith, e);
      read_sign_lost = λ e. omega (arith, e);
      read_attribute_ignored = λ e. omega (arith, e);
      write_refused = λ h. h refl;
      write_accepted = λ e. omega (arith, e);
      write_no_length = λ e. omega (arith, e);
      write_untouched = λ e. omega (arith, ap (λ l. get_or l 0 0) e);
      write_first_alone = λ c e. omega (arith, ap (λ l. get_or l 1 0) e);
    }
