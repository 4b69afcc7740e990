-- Lazy answers, each at an input where the definitions say otherwise. Assumes nothing.
use Rattle.std.specs.Prelude.{ℕ, ◌≡◌, true, [], ◌∷◌, pos, negsuc}
use Rattle.ieee.specs.Format.{Format, b64, b32, canonical}
use Rattle.ieee.specs.Flags.{none, only_inexact}
use Rattle.ieee.specs.Sqrt.{sqrt_of, sqrt_flags}
use Rattle.ieee.specs.Fma.{fma_of, fma_flags}
use Rattle.ieee.specs.Scalbn.{scalbn_of, scalbn_flags}
use Rattle.ieee.specs.Whole.{floor_of, trunc_of, ceil_of, floor_flags, trunc_flags, ceil_flags}
use Rattle.ieee.specs.Modf.{modf_of, modf_whole}
use Rattle.ieee.specs.Frexp.{frexp_of, frexp_exponent, ilogb_of}
use Rattle.ieee.specs.Nextafter.{nextafter_of}
use Rattle.ieee.specs.Fmod.{fmod_of}
use Rattle.ieee.specs.Remquo.{remquo_of, quotient_of}
use Rattle.ieee.specs.Refusal.{number_of}
use Rattle.ieee.specs.Reduction.{reduce_of}
use Rattle.ieee.specs.Lists.{list_of}

-- in words of w bits: the patterns of 1/2, 1, 2 and 4, and a NaN with a sign, that signals
pub record Lazy (f : Format) (w half one two four marked : ℕ) : Type 0 where
  -- the canonical NaN to everything
  pub sqrt_nan : sqrt_of f one ≡ canonical f → ⊥
  pub fma_nan : fma_of f one one one ≡ canonical f → ⊥
  pub fmod_nan : fmod_of f one one ≡ canonical f → ⊥
  pub remquo_nan : remquo_of f one one ≡ canonical f → ⊥
  pub scalbn_nan : scalbn_of f one (pos 0) ≡ canonical f → ⊥
  pub floor_nan : floor_of f one ≡ canonical f → ⊥
  pub trunc_nan : trunc_of f one ≡ canonical f → ⊥
  pub ceil_nan : ceil_of f one ≡ canonical f → ⊥
  pub modf_nan : modf_of f one ≡ canonical f → ⊥
  pub modf_whole_nan : modf_whole f one ≡ canonical f → ⊥
  pub frexp_nan : frexp_of f one ≡ canonical f → ⊥
  pub nextafter_nan : nextafter_of f one two ≡ canonical f → ⊥
  -- a NaN as it came, with its sign and its payload
  pub floor_nan_kept : floor_of f marked ≡ marked → ⊥
  pub trunc_nan_kept : trunc_of f marked ≡ marked → ⊥
  pub ceil_nan_kept : ceil_of f marked ≡ marked → ⊥
  pub modf_nan_kept : modf_of f marked ≡ marked → ⊥
  pub modf_whole_nan_kept : modf_whole f marked ≡ marked → ⊥
  pub frexp_nan_kept : frexp_of f marked ≡ marked → ⊥
  pub nextafter_nan_kept : nextafter_of f marked one ≡ marked → ⊥
  -- the first operand as it came
  pub ceil_kept : ceil_of f half ≡ half → ⊥
  pub modf_kept : modf_of f one ≡ one → ⊥
  pub modf_whole_kept : modf_whole f half ≡ half → ⊥
  pub frexp_kept : frexp_of f one ≡ one → ⊥
  pub nextafter_kept : nextafter_of f one two ≡ one → ⊥
  -- the quotient, and the exponent, always zero
  pub quotient_zero : quotient_of f one one ≡ pos 0 → ⊥
  pub frexp_exponent_zero : frexp_exponent f one ≡ pos 0 → ⊥
  pub ilogb_zero : ilogb_of f two ≡ pos 0 → ⊥
  -- every list refused, and every reduction
  pub list_refused : (number_of (list_of f 1 [] []).answer ≡ 0 → ⊥) → ⊥
  pub reduction_refused : (number_of (reduce_of w 1 0 1) ≡ 0 → ⊥) → ⊥
  -- the output untouched, and the first place alone filled
  pub list_untouched : (list_of f 1 (four ∷ []) (0 ∷ [])).output ≡ 0 ∷ [] → ⊥
  pub list_first_alone : (r : ℕ) → (list_of f 1 (four ∷ four ∷ []) (0 ∷ 0 ∷ [])).output ≡ r ∷ 0 ∷ [] → ⊥
  -- no flag ever, and always inexact
  pub sqrt_no_flag : sqrt_flags f two ≡ none → ⊥
  pub fma_no_flag : fma_flags f one one 1 ≡ none → ⊥
  pub scalbn_no_flag : scalbn_flags f 1 (negsuc 0) ≡ none → ⊥
  pub floor_no_flag : floor_flags f half ≡ none → ⊥
  pub trunc_no_flag : trunc_flags f half ≡ none → ⊥
  pub ceil_no_flag : ceil_flags f half ≡ none → ⊥
  pub sqrt_always_inexact : sqrt_flags f four ≡ only_inexact true → ⊥
  pub fma_always_inexact : fma_flags f one one one ≡ only_inexact true → ⊥
  pub scalbn_always_inexact : scalbn_flags f one (pos 0) ≡ only_inexact true → ⊥
  pub floor_always_inexact : floor_flags f one ≡ only_inexact true → ⊥
  pub trunc_always_inexact : trunc_flags f one ≡ only_inexact true → ⊥
  pub ceil_always_inexact : ceil_flags f one ≡ only_inexact true → ⊥

abbrev pub Lazy64 : Type 0
Lazy64 = Lazy b64 64 0x3fe0000000000000 0x3ff0000000000000 0x4000000000000000 0x4010000000000000 0xfff0000000000001

abbrev pub Lazy32 : Type 0
Lazy32 = Lazy b32 32 0x3f000000 0x3f800000 0x40000000 0x40800000 0xff800001
