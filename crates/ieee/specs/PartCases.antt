-- Worked cases of ceil, modf, frexp, ilogb and nextafter. Assumes nothing.
use Rattle.std.specs.Prelude.{◌≡◌, true, pos, negsuc}
use Rattle.ieee.specs.Format.{b64, b32}
use Rattle.ieee.specs.Flags.{none, only_inexact}
use Rattle.ieee.specs.Whole.{ceil_of, ceil_flags}
use Rattle.ieee.specs.Modf.{modf_of, modf_whole}
use Rattle.ieee.specs.Frexp.{frexp_of, frexp_exponent, ilogb_of}
use Rattle.ieee.specs.Nextafter.{nextafter_of}

pub record PartCases : Type 0 where
  pub ceil_two_and_a_half : (ceil_of b64 0x4004000000000000 ≡ 0x4008000000000000) × (ceil_flags b64 0x4004000000000000 ≡ only_inexact true)
  pub ceil_minus_half : (ceil_of b64 0xbfe0000000000000 ≡ 0x8000000000000000) × (ceil_flags b64 0xbfe0000000000000 ≡ only_inexact true)
  pub ceil_smallest : (ceil_of b32 0x00000001 ≡ 0x3f800000) × (ceil_flags b32 0x00000001 ≡ only_inexact true)
  pub ceil_minus_three : (ceil_of b32 0xc0400000 ≡ 0xc0400000) × (ceil_flags b32 0xc0400000 ≡ none)
  pub modf_minus_two_and_a_half : (modf_of b64 0xc004000000000000 ≡ 0xbfe0000000000000) × (modf_whole b64 0xc004000000000000 ≡ 0xc000000000000000)
  pub modf_minus_infinity : (modf_of b64 0xfff0000000000000 ≡ 0x8000000000000000) × (modf_whole b64 0xfff0000000000000 ≡ 0xfff0000000000000)
  pub modf_last_bit : (modf_of b64 0x3ff0000000000001 ≡ 0x3cb0000000000000) × (modf_whole b64 0x3ff0000000000001 ≡ 0x3ff0000000000000)
  pub modf_minus_whole : (modf_of b32 0xc0400000 ≡ 0x80000000) × (modf_whole b32 0xc0400000 ≡ 0xc0400000)
  pub frexp_eight : (frexp_of b64 0x4020000000000000 ≡ 0x3fe0000000000000) × (frexp_exponent b64 0x4020000000000000 ≡ pos 4)
  pub frexp_smallest : (frexp_of b64 0x8000000000000001 ≡ 0xbfe0000000000000) × (frexp_exponent b64 0x8000000000000001 ≡ negsuc 1072)
  pub frexp_largest : (frexp_of b32 0x7f7fffff ≡ 0x3f7fffff) × (frexp_exponent b32 0x7f7fffff ≡ pos 128)
  pub frexp_minus_zero : (frexp_of b32 0x80000000 ≡ 0x80000000) × (frexp_exponent b32 0x80000000 ≡ pos 0)
  pub ilogb_one : ilogb_of b64 0x3ff0000000000000 ≡ pos 0
  pub ilogb_smallest : ilogb_of b64 0x0000000000000001 ≡ negsuc 1073
  pub ilogb_zero : ilogb_of b32 0x00000000 ≡ negsuc 2147483647
  pub ilogb_infinity : ilogb_of b32 0xff800000 ≡ pos 2147483647
  pub nextafter_one_up : nextafter_of b64 0x3ff0000000000000 0x7ff0000000000000 ≡ 0x3ff0000000000001
  pub nextafter_zeros : nextafter_of b64 0x8000000000000000 0x0000000000000000 ≡ 0x0000000000000000
  pub nextafter_zero_down : nextafter_of b64 0x0000000000000000 0xbff0000000000000 ≡ 0x8000000000000001
  pub nextafter_smallest_down : nextafter_of b64 0x8000000000000001 0x3ff0000000000000 ≡ 0x8000000000000000
  pub nextafter_largest_up : nextafter_of b32 0x7f7fffff 0x7f800000 ≡ 0x7f800000
  pub nextafter_infinity_down : nextafter_of b32 0xff800000 0x3f800000 ≡ 0xff7fffff
