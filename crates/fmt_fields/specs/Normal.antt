-- Normal numbers, by the exponent field. Assumes nothing.
use Rattle.std.specs.Prelude.{ℕ, ◌-◌, ◌^◌, Bool, ◌&&◌, nat_lt}
use Rattle.ieee.specs.Format.{Format}
use Rattle.ieee.specs.Pattern.{field}

-- a field of e bits that is neither that of zeros and subnormal numbers nor that of infinities and NaNs
abbrev pub normal_field : ℕ → ℕ → Bool
normal_field e q = nat_lt 0 q && nat_lt q (2 ^ e - 1)

abbrev pub normal : Format → ℕ → Bool
normal f x = normal_field f.expo (field f x)
