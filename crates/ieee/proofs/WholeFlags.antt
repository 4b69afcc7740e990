-- The flags of trunc, floor and ceil, under every attribute: inexact exactly where a finite operand is changed. Assumes nothing.
use Prim.Native.Nat.{ℕ}
use mathlib.Core.Path.{◌≡◌, refl, sym, ap, ◌∙◌}
use mathlib.Core.Bool.{not}
use lib.Dec.{eqb}
use Rattle.ieee.specs.Format.{Format, Fair}
use Rattle.ieee.specs.Pattern.{Pattern, value, Kind, nan, infinite, finite, kind}
use Rattle.ieee.specs.Round.{Attribute, toward_zero, toward_positive, toward_negative}
use Rattle.ieee.specs.Flags.{none, only_inexact, nan_flags, signals}
use Rattle.ieee.specs.FlagsRule.{Clean}
use Rattle.ieee.specs.FlagRows.{WholeFlagRows}
use Rattle.ieee.specs.Whole.{whole_in, whole_flags_by, whole_flags_in, trunc_of, floor_of, ceil_of, trunc_flags, floor_flags, ceil_flags}
use Rattle.ieee.proofs.Decide.{Reads, holds, is_true, alike, eqb_reads, not_reads}
use Rattle.ieee.proofs.Patterns.{same_pattern}
use Rattle.ieee.proofs.Signs.{value_tells}
use Rattle.ieee.proofs.WholeParts.{whole_in_sent}
use Rattle.ieee.proofs.Wholes.{stays_alike}
use Rattle.ieee.proofs.Cleans.{inexact_clean, none_clean, either_clean}

module _ (f : Format) (a : Attribute) where
  finite_flags : (x u : ℕ) → kind f x ≡ finite u → whole_flags_in f a x ≡ only_inexact (not (eqb (whole_in f a x) x))
  unfolding whole_flags_in whole_flags_by
  finite_flags x u h = ap (whole_flags_by f x (whole_in f a x)) h

  changed_reads : (x u : ℕ) → kind f x ≡ finite u → Reads (whole_in f a x ≡ x → ⊥) (whole_flags_in f a x).inexact
  changed_reads x u h = rw (finite_flags x u h) (not_reads (eqb_reads (whole_in f a x) x))

  same_number : Fair f → (x u : ℕ) → Pattern f x → kind f x ≡ finite u → value f (whole_in f a x) ≡ value f x → whole_in f a x ≡ x
  same_number g x u p h e =
      let s = whole_in_sent f a g x u h in
      same_pattern f (whole_in f a x) x s.pattern p s.sign (value_tells f (whole_in f a x) x e).0

  whole_flag_rows : Fair f → WholeFlagRows f (whole_in f a) (whole_flags_in f a)
  unfolding whole_flags_in whole_flags_by
  whole_flag_rows g =
      record {
        of_signalling = λ x h s. ap (whole_flags_by f x (whole_in f a x)) h ∙ ap nan_flags s;
        of_quiet = λ x h s. ap (whole_flags_by f x (whole_in f a x)) h ∙ ap nan_flags s;
        of_infinity = λ x h. ap (whole_flags_by f x (whole_in f a x)) h;
        of_finite = λ x u h. let e = finite_flags x u h in e ∙ ap only_inexact (sym (ap (λ F. F.inexact) e));
        changed = λ x u h. (holds (changed_reads x u h), is_true (changed_reads x u h));
        another = λ x u p h. (
          λ i e. holds (changed_reads x u h) i (same_number g x u p h e),
          λ n. is_true (changed_reads x u h) (λ e. n (ap (value f) e)),
        );
      }

  pub whole_clean : (x : ℕ) → Clean (whole_flags_in f a x)
  unfolding whole_flags_in whole_flags_by
  whole_clean x = go (kind f x)
    where
      go : (k : Kind) → Clean (whole_flags_by f x (whole_in f a x) k)
      go nan = either_clean (signals f x) none none_clean
      go infinite = none_clean
      go (finite u) = inexact_clean (not (eqb (whole_in f a x) x))

pub trunc_flag_rows : (f : Format) → Fair f → WholeFlagRows f (trunc_of f) (trunc_flags f)
unfolding trunc_of trunc_flags
trunc_flag_rows f g = whole_flag_rows f toward_zero g

pub floor_flag_rows : (f : Format) → Fair f → WholeFlagRows f (floor_of f) (floor_flags f)
unfolding floor_of floor_flags
floor_flag_rows f g = whole_flag_rows f toward_negative g

pub ceil_flag_rows : (f : Format) → Fair f → WholeFlagRows f (ceil_of f) (ceil_flags f)
unfolding ceil_of ceil_flags
ceil_flag_rows f g = whole_flag_rows f toward_positive g

-- trunc, floor and ceil raise the same flags, as would every other attribute
pub whole_flags_alike : (f : Format) → Fair f → (a b : Attribute) (x : ℕ) → Pattern f x → whole_flags_in f a x ≡ whole_flags_in f b x
unfolding whole_flags_in whole_flags_by
whole_flags_alike f g a b x p = go (kind f x)
  where
    go : (k : Kind) → whole_flags_by f x (whole_in f a x) k ≡ whole_flags_by f x (whole_in f b x) k
    go nan = refl
    go infinite = refl
    go (finite u) = ap (λ t. only_inexact (not t)) (alike (eqb_reads (whole_in f a x) x) (eqb_reads (whole_in f b x) x) (stays_alike f g a b x p, stays_alike f g b a x p))
