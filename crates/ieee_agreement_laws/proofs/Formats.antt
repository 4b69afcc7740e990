-- The toolchain's two formats and ours: the same numbers under other names. Assumes nothing.
use Prim.Native.Nat.{ℕ, suc, ◌+◌, ◌-◌, ◌*◌, ◌/◌, ◌^◌}
use mathlib.Core.Path.{◌≡◌, refl, sym, ap, ◌∙◌}
use lib.Ieee.{Format as Theirs, binary32, binary64, prec, emax, low as their-low, hid, ones, top as their-top}
use Rattle.ieee.specs.Format.{Fair, top, low, inf, canonical, units}
use Rattle.ieee.proofs.Formats.{fair32, fair64}
use Rattle.ieee.proofs.Units.{units_inf}
use Rattle.ieee_agreement_laws.specs.Toolchain.{ours}

pub fair : (k : Theirs) → Fair (ours k)
fair binary32 = fair32
fair binary64 = fair64

-- digits with the leading one, the exponent of the smallest unit, the weights of the exponent field and of the sign, the highest field
pub prec_is : (k : Theirs) → prec k ≡ suc (ours k).frac
prec_is binary32 = refl
prec_is binary64 = refl

pub low_is : (k : Theirs) → their-low k ≡ low (ours k)
low_is binary32 = refl
low_is binary64 = refl

pub hid_is : (k : Theirs) → hid k ≡ 2 ^ (ours k).frac
hid_is binary32 = refl
hid_is binary64 = refl

pub ones_is : (k : Theirs) → ones k ≡ 2 ^ (ours k).expo - 1
ones_is binary32 = refl
ones_is binary64 = refl

pub top_is : (k : Theirs) → their-top k ≡ top (ours k)
top_is binary32 = refl
top_is binary64 = refl

pub inf_is : (k : Theirs) → ones k * hid k ≡ inf (ours k)
inf_is binary32 = refl
inf_is binary64 = refl

-- the NaN that the toolchain writes is the canonical one
pub nan_is : (k : Theirs) → ones k * hid k + hid k / 2 ≡ canonical (ours k)
nan_is binary32 = refl
nan_is binary64 = refl

reach_is : (k : Theirs) → their-low k + suc (emax k) ≡ (ours k).frac + (2 ^ (ours k).expo - 2)
reach_is binary32 = refl
reach_is binary64 = refl

-- the end of the toolchain's numbers
pub end_is : (k : Theirs) → 2 ^ (their-low k + suc (emax k)) ≡ units (ours k) (inf (ours k))
end_is k = ap (λ (n : ℕ). 2 ^ n) (reach_is k) ∙ sym (units_inf (ours k) (fair k))
