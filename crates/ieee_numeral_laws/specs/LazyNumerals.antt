-- Lazy readers and writers, each at an input where the definitions say otherwise. Assumes nothing.
use Rattle.std.specs.Prelude.{ℕ, ◌≡◌, ◌∷◌}
use Rattle.ieee.specs.Format.{Format, b64, b32, canonical}
use Rattle.ieee.specs.Refusal.{number_of, value_of}
use Rattle.ieee_numeral_laws.specs.Numeral.{bytes_of}
use Rattle.ieee_numeral_laws.specs.Read.{read_of, read_rounded}
use Rattle.ieee_numeral_laws.specs.Write.{write_of}

-- one is the pattern of 1
pub record LazyNumerals (f : Format) (one : ℕ) : Type 0 where
  -- every text refused, and every text accepted
  pub read_refused : (number_of (read_of f (bytes_of "0x1p+0")) ≡ 0 → ⊥) → ⊥
  pub read_accepted : number_of (read_of f (bytes_of "0x1p")) ≡ 0 → ⊥
  -- the canonical NaN to everything, and zero
  pub read_nan : value_of (read_of f (bytes_of "0x1p+0")) ≡ canonical f → ⊥
  pub read_zero : value_of (read_of f (bytes_of "0x1p+0")) ≡ 0 → ⊥
  -- the sign of a zero lost, and the attribute ignored
  pub read_sign_lost : value_of (read_of f (bytes_of "-0x0p+0")) ≡ 0 → ⊥
  pub read_attribute_ignored : value_of (read_rounded f 3 (bytes_of "0x1p-99999")) ≡ value_of (read_of f (bytes_of "0x1p-99999")) → ⊥
  -- every pattern refused, and every room taken
  pub write_refused : (number_of (write_of f one (bytes_of "abcdef")).answer ≡ 0 → ⊥) → ⊥
  pub write_accepted : number_of (write_of f one (bytes_of "abcde")).answer ≡ 0 → ⊥
  -- the length always zero, the output untouched, and its first byte alone filled
  pub write_no_length : value_of (write_of f one (bytes_of "abcdef")).answer ≡ 0 → ⊥
  pub write_untouched : (write_of f one (bytes_of "abcdef")).output ≡ bytes_of "abcdef" → ⊥
  pub write_first_alone : (c : ℕ) → (write_of f one (bytes_of "abcdef")).output ≡ c ∷ bytes_of "bcdef" → ⊥

abbrev pub LazyNumerals64 : Type 0
LazyNumerals64 = LazyNumerals b64 0x3ff0000000000000

abbrev pub LazyNumerals32 : Type 0
LazyNumerals32 = LazyNumerals b32 0x3f800000
