-- Worked cases of the reader and the writer. Assumes nothing.
use Rattle.std.specs.Prelude.{ℕ, ◌≡◌, true, negsuc, Some}
use Prim.Native.String.{String}
use Rattle.ieee.specs.Format.{Format, b16, b32, b64}
use Rattle.ieee.specs.Refusal.{done, refused}
use Rattle.ieee_numeral_laws.specs.Numeral.{number, bytes_of}
use Rattle.ieee_numeral_laws.specs.Reading.{numeral_of}
use Rattle.ieee_numeral_laws.specs.Read.{read_of, read_rounded}
use Rattle.ieee_numeral_laws.specs.Write.{text_of, write_of}

abbrev pub Text : Format → ℕ → String → Type 0
Text f x s = text_of f x ≡ bytes_of s

abbrev pub Value : Format → String → ℕ → Type 0
Value f s x = read_of f (bytes_of s) ≡ done x

abbrev pub Outside : Format → String → Type 0
Outside f s = read_of f (bytes_of s) ≡ refused 7

-- under the attributes by their numbers: nearest even, toward zero, down, up, nearest away
pub record Values (f : Format) (s : String) (x₀ x₁ x₂ x₃ x₄ : ℕ) : Type 0 where
  pub even : read_rounded f 0 (bytes_of s) ≡ done x₀
  pub zero : read_rounded f 1 (bytes_of s) ≡ done x₁
  pub down : read_rounded f 2 (bytes_of s) ≡ done x₂
  pub up : read_rounded f 3 (bytes_of s) ≡ done x₃
  pub away : read_rounded f 4 (bytes_of s) ≡ done x₄

pub record NumeralCases : Type 0 where
  -- ---- the parts of a text
  pub parts : numeral_of (bytes_of "-0x1.8p-3") ≡ Some (number true 24 1 (negsuc 2))
  -- ---- values
  pub three : Value b64 "0x1.8p+1" 0x4008000000000000
  pub point_first : Value b64 "+0x.8p0" 0x3fe0000000000000
  pub point_last : Value b32 "0x1.p00001" 0x40000000
  pub minus_zero : Value b64 "-0x0.000p-99999" 0x8000000000000000
  pub zeros_first : Value b64 "0x00000000000000000000000000000000000000000000000001p0" 0x3ff0000000000000
  pub zeros_behind : Value b32 "0x.000000000000000000000000000000000000000000000000001p+204" 0x3f800000
  pub huge : Values b64 "0x1p99999" 0x7ff0000000000000 0x7fefffffffffffff 0x7fefffffffffffff 0x7ff0000000000000 0x7ff0000000000000
  pub minute : Values b64 "-0x1p-99999" 0x8000000000000000 0x8000000000000000 0x8000000000000001 0x8000000000000000 0x8000000000000000
  -- halfway above the largest number, and just below
  pub halfway : Values b64 "0x1.fffffffffffff8p+1023" 0x7ff0000000000000 0x7fefffffffffffff 0x7fefffffffffffff 0x7ff0000000000000 0x7ff0000000000000
  pub below_halfway : Values b32 "0x1.fffffeffffffffffffffffffffp+127" 0x7f7fffff 0x7f7fffff 0x7f7fffff 0x7f800000 0x7f7fffff
  -- half of the smallest unit, and a little more
  pub half_unit : Values b64 "0x1p-1075" 0 0 0 1 1
  pub past_half_unit : Values b32 "0x1.0000000000000000000000000000000000000000000001p-150" 1 0 0 1 1
  -- a tie at the last bit, and one lost digit above it
  pub tie : Values b64 "0x1.00000000000008p0" 0x3ff0000000000000 0x3ff0000000000000 0x3ff0000000000000 0x3ff0000000000001 0x3ff0000000000001
  pub above_tie : Value b64 "0x1.00000000000008000000000000000000000000000000001p0" 0x3ff0000000000001
  pub infinities : Value b64 "inf" 0x7ff0000000000000 × Value b32 "-inf" 0xff800000
  pub nan : Value b32 "nan" 0x7fc00000
  -- ---- refusals
  pub no_text : Outside b64 ""
  pub no_digit : Outside b64 "0xp0" × Outside b64 "0x.p0"
  pub no_exponent : Outside b64 "0x1" × Outside b64 "0x1p" × Outside b64 "0x1p+"
  pub six_digits : Outside b64 "0x1p000000"
  pub two_points : Outside b64 "0x1..p0" × Outside b64 "0x1.0.p0"
  pub upper_case : Outside b64 "0X1p0" × Outside b64 "0xAp0" × Outside b64 "0x1P0"
  pub other_words : Outside b64 "+inf" × Outside b64 "-nan" × Outside b64 "infinity" × Outside b64 "in"
  pub blanks : Outside b64 " 0x1p0" × Outside b64 "0x1p0 "
  -- 64 bytes, 65, and 65 under an attribute that is none
  pub longest : Value b64 "0x1.00000000000000000000000000000000000000000000000000000p+00000" 0x3ff0000000000000
  pub too_long : read_of b64 (bytes_of "0x1.000000000000000000000000000000000000000000000000000000p+00000") ≡ refused 6
  pub no_attribute : read_rounded b64 5 (bytes_of "0x1.000000000000000000000000000000000000000000000000000000p+00000") ≡ refused 10
  -- ---- texts
  pub write_three : Text b64 0x4008000000000000 "0x1.8p+1"
  pub write_one : Text b32 0xbf800000 "-0x1p+0"
  pub write_zero : Text b64 0x8000000000000000 "-0x0p+0"
  pub write_largest : Text b64 0xffefffffffffffff "-0x1.fffffffffffffp+1023" × Text b32 0xff7fffff "-0x1.fffffep+127"
  pub write_smallest : Text b64 1 "0x0.0000000000001p-1022" × Text b32 1 "0x0.000002p-126" × Text b16 1 "0x0.004p-14"
  pub write_last_bit : Text b32 0x3f800001 "0x1.000002p+0" × Text b16 0x3c01 "0x1.004p+0"
  pub write_rest : Text b64 0x7ff0000000000000 "inf" × Text b32 0xff800000 "-inf" × Text b64 0xfff0000000000001 "nan"
  pub room : ((write_of b64 0x3ff0000000000000 (bytes_of "abcdefgh")).answer ≡ done 6) × ((write_of b64 0x3ff0000000000000 (bytes_of "abcdefgh")).output ≡ bytes_of "0x1p+0gh")
  pub no_room : ((write_of b64 0x3ff0000000000000 (bytes_of "abcde")).answer ≡ refused 8) × ((write_of b64 0x3ff0000000000000 (bytes_of "abcde")).output ≡ bytes_of "abcde")
