-- The worked cases hold, by computation. Assumes nothing.
use mathlib.Core.Path.{refl}
use Rattle.ieee_numeral_laws.specs.NumeralCases.{NumeralCases}
use Rattle.ieee_numeral_laws.specs.Reading.{numeral_of}
use Rattle.ieee_numeral_laws.specs.Read.{read_of, read_rounded}
use Rattle.ieee_numeral_laws.specs.Write.{text_of, write_of}

pub numeral_cases : NumeralCases
unfolding numeral_of read_of read_rounded text_of write_of
numeral_cases =
    record {
      parts = refl;
      three = refl;
      point_first = refl;
      point_last = refl;
      minus_zero = refl;
      zeros_first = refl;
      zeros_behind = refl;
      huge = record { even = refl; zero = refl; down = refl; up = refl; away = refl };
      minute = record { even = refl; zero = refl; down = refl; up = refl; away = refl };
      halfway = record { even = refl; zero = refl; down = refl; up = refl; away = refl };
      below_halfway = record { even = refl; zero = refl; down = refl; up = refl; away = refl };
      half_unit = record { even = refl; zero = refl; down = refl; up = refl; away = refl };
      past_half_unit = record { even = refl; zero = refl; down = refl; up = refl; away = refl };
      tie = record { even = refl; zero = refl; down = refl; up = refl; away = refl };
      above_tie = refl;
      infinities = (refl, refl);
      nan = refl;
      no_text = refl;
      no_digit = (refl, refl);
      no_exponent = (refl, refl, refl);
      six_digits = refl;
      two_points = (refl, refl);
      upper_case = (refl, refl, refl);
      other_words = (refl, refl, refl, refl);
      blanks = (refl, refl);
      longest = refl;
      too_long = refl;
      no_attribute = refl;
      write_three = refl;
      write_one = refl;
      write_zero = refl;
      write_largest = (refl, refl);
      write_smallest = (refl, refl, refl);
      write_last_bit = (refl, refl);
      write_rest = (refl, refl, refl);
      room = (refl, refl);
      no_room = (refl, refl);
    }
