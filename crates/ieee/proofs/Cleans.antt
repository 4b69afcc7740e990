-- Implications among the flags of every operation; invalid is raised alone. Assumes nothing.
use mathlib.Core.Path.{◌≡◌, refl, sym, ap, ◌∙◌}
use mathlib.Core.Bool.{Bool, true, false, cond, true≢false}
use Rattle.ieee.specs.Format.{Format, Fair}
use Rattle.ieee.specs.Exact.{Value}
use Rattle.ieee.specs.Round.{Attribute}
use Rattle.ieee.specs.Flags.{Flags, none, only_invalid, raised, only_inexact}
use Rattle.ieee.specs.FlagsRule.{Clean}
use Rattle.ieee.proofs.Raised.{raised_rule}

-- inexact, or nothing
pub inexact_clean : (b : Bool) → Clean (only_inexact b)
inexact_clean b = record { alone = λ e. absurd (true≢false (sym e)); no_division = refl; overflow_inexact = λ e. absurd (true≢false (sym e)); underflow_inexact = λ e. absurd (true≢false (sym e)) }

pub none_clean : Clean none
none_clean = inexact_clean false

pub invalid_clean : Clean only_invalid
invalid_clean = record { alone = λ e. refl; no_division = refl; overflow_inexact = λ e. absurd (true≢false (sym e)); underflow_inexact = λ e. absurd (true≢false (sym e)) }

pub either_clean : (b : Bool) (F : Flags) → Clean F → Clean (cond b only_invalid F)
either_clean true F c = invalid_clean
either_clean false F c = c

-- a flag that no exact answer raises implies inexact
beside_inexact : (b i : Bool) → (i ≡ false → b ≡ false) → b ≡ true → i ≡ true
beside_inexact b true h e = refl
beside_inexact b false h e = absurd (true≢false (sym e ∙ h refl))

-- a value rounded once
pub raised_clean : (f : Format) → Fair f → (a : Attribute) (s : Bool) (v : Value) → Clean (raised f a s v)
raised_clean f g a s v =
    let h = raised_rule f g a s v in
    let F = raised f a s v in
    let exact : F.inexact ≡ false → F ≡ none = λ i. h.exact_none (h.exact_when.0 i) in
    record {
      alone = λ e. absurd (true≢false (sym e ∙ h.valid));
      no_division = h.no_division;
      overflow_inexact = beside_inexact F.overflow F.inexact (λ i. ap (λ G. G.overflow) (exact i));
      underflow_inexact = beside_inexact F.underflow F.inexact (λ i. ap (λ G. G.underflow) (exact i));
    }
