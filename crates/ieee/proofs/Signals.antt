-- Signalling NaNs by their patterns. Assumes nothing.
use Prim.Native.Nat.{ℕ, suc, ◌+◌, ◌-◌, ◌%◌, ◌^◌, ◌≤◌, ◌<◌}
use mathlib.Core.Path.{◌≡◌, sym, ap, ◌∙◌}
use mathlib.Core.Logic.{◌↔◌}
use mathlib.Core.Bool.{true, false, ◌&&◌}
use native.Mathlib.Omega.{arith}
use native.Mathlib.Nat.{mod-lt}
use lib.Pow.{pow_pos, mod-mod-pow}
use lib.Dec.{ltb}
use borrow.Author.Tests.{le-ltb}
use Rattle.algebra.proofs.Quotients.{mod_is}
use Rattle.ieee.specs.Format.{Format, Fair, top, inf, canonical}
use Rattle.ieee.specs.Pattern.{magnitude, fraction, infinite, finite, kind}
use Rattle.ieee.specs.Flags.{signals}
use Rattle.ieee.proofs.Decide.{Reads, holds, is_true, is_false, leb_reads, and_reads}
use Rattle.ieee.proofs.Patterns.{infinity_top, finite_is, infinite_is}
use Rattle.ieee.proofs.Verdicts.{reads_as}

-- numbers and infinities do not signal
pub infinity_silent : (f : Format) (x : ℕ) → magnitude f x ≤ inf f → signals f x ≡ false
infinity_silent f x l = ap (λ b. b && ltb (fraction f x) (2 ^ (f.frac - 1))) (le-ltb (inf f) (magnitude f x) l)

pub finite_silent : (f : Format) (x u : ℕ) → kind f x ≡ finite u → signals f x ≡ false
finite_silent f x u h = infinity_silent f x (omega (arith, (finite_is f x u h).below))

pub infinite_silent : (f : Format) (x : ℕ) → kind f x ≡ infinite → signals f x ≡ false
infinite_silent f x h = infinity_silent f x (omega (arith, infinite_is f x h))

module _ (f : Format) (g : Fair f) where
  -- above infinity, the magnitude is infinity plus the fraction
  fraction_is : (x : ℕ) → inf f < magnitude f x → magnitude f x ≡ inf f + fraction f x
  fraction_is x l =
      let t : magnitude f x < top f = mod-lt x (pow_pos (f.frac + f.expo)) in
      let e : fraction f x ≡ magnitude f x % 2 ^ f.frac = sym (mod-mod-pow x f.expo f.frac) ∙ ap (λ n. x % 2 ^ n % 2 ^ f.frac) {x = f.expo + f.frac} {y = f.frac + f.expo} (omega arith) in
      let r = mod_is (magnitude f x) (2 ^ f.frac) (2 ^ f.expo - 1) (magnitude f x - inf f) (omega (arith, infinity_top f)) (omega arith) in
      omega arith

  -- a NaN signals exactly when its magnitude is below that of the canonical NaN
  pub signals_reads : (x : ℕ) → Reads ((inf f < magnitude f x) × (magnitude f x < canonical f)) (signals f x)
  signals_reads x =
      reads_as (
        λ h. (h.0, omega (arith, fraction_is x h.0, h.1)),
        λ h. (h.0, omega (arith, fraction_is x h.0, h.1)),
      )
      (and_reads (leb_reads (suc (inf f)) (magnitude f x)) (leb_reads (suc (fraction f x)) (2 ^ (f.frac - 1))))

  pub signalling : (x : ℕ) → (signals f x ≡ true) ↔ ((inf f < magnitude f x) × (magnitude f x < canonical f))
  signalling x = (holds (signals_reads x), is_true (signals_reads x))

  pub canonical_quiet : (x : ℕ) → magnitude f x ≡ canonical f → signals f x ≡ false
  canonical_quiet x e = is_false (signals_reads x) (λ h. omega (arith, h.1))
