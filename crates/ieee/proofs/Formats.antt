-- The two formats are fair, and their numbers are those of the standard. Assumes nothing.
use mathlib.Core.Path.{refl}
use lib.Dec.{lit≤, lit<}
use Rattle.ieee.specs.Format.{Fair, b16, b32, b64, units}
use Rattle.ieee.specs.Numbers.{Numbers64, Numbers32, FlagNumbers, Ends, Limits}

pub fair64 : Fair b64
fair64 = record { frac_pos = lit≤ tt; expo_two = lit≤ tt; frac_fits = lit< tt }

pub fair32 : Fair b32
fair32 = record { frac_pos = lit≤ tt; expo_two = lit≤ tt; frac_fits = lit< tt }

pub fair16 : Fair b16
fair16 = record { frac_pos = lit≤ tt; expo_two = lit≤ tt; frac_fits = lit< tt }

pub numbers64 : Numbers64
unfolding units
numbers64 = record { fraction = refl; offset = refl; smallest = (refl, refl, refl); overflow = refl; quiet = refl }

pub numbers32 : Numbers32
unfolding units
numbers32 = record { fraction = refl; offset = refl; smallest = (refl, refl, refl); overflow = refl; quiet = refl }

pub flag_numbers : FlagNumbers
flag_numbers = record { nothing = refl; invalid = refl; division_by_zero = refl; overflow = refl; underflow = refl; inexact = refl }

pub ends : Ends
ends = record { largest64 = refl; normal64 = refl; largest32 = refl; normal32 = refl }

pub limits : Limits
limits = record { places = refl; divisor64 = refl; divisor32 = refl; shift = refl }
