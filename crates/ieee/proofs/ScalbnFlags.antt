-- The flags of scalbn: of the exact x times 2 ^ n rounded once, for every n, and every other row. Assumes nothing.
use Prim.Native.Nat.{ℕ, zero, suc, ◌*◌, ◌^◌, ◌≤◌, ◌<◌, min}
use mathlib.Core.Path.{◌≡◌, sym, ap, ◌∙◌, subst₂}
use mathlib.Core.Bool.{Bool, true, false}
use native.Mathlib.Omega.{arith}
use lib.Pow.{pow_pos}
use lib.IntN.{ℤ, pos, negsuc}
use Rattle.ieee.specs.Format.{Format, Fair, inf, units}
use Rattle.ieee.specs.Pattern.{minus, Kind, nan, infinite, finite, kind}
use Rattle.ieee.specs.Exact.{ratio}
use Rattle.ieee.specs.Round.{Way, Attribute, toward_positive, toward_negative, way_of}
use Rattle.ieee.specs.Flags.{none, nan_flags, signals, judged, raised_by, raised}
use Rattle.ieee.specs.FlagsRule.{FlagsRule, Clean}
use Rattle.ieee.specs.FlagRows.{ScalbnFlagRows}
use Rattle.ieee.specs.Band.{Band}
use Rattle.ieee.specs.Scalbn.{scaled, reach, clamp, scalbn_in, scalbn_flags_by, scalbn_flags_in, exact_scalbn}
use Rattle.ieee.proofs.Units.{units_lt}
use Rattle.ieee.proofs.Patterns.{finite_is}
use Rattle.ieee.proofs.Exacts.{sign_own}
use Rattle.ieee.proofs.Scalbns.{past_clamp, past_all, below_all, scaled_exact, scalbn_answer}
use Rattle.ieee.proofs.Bands.{band}
use Rattle.ieee.proofs.Raised.{raised_rule, raised_of}
use Rattle.ieee.proofs.Cleans.{none_clean, either_clean, raised_clean}
use Rattle.ieee.proofs.FarFlags.{huge_flags, small_flags, zero_flags}

module _ (f : Format) (g : Fair f) where
  -- ---- far enough up or down, all values raise the same flags
  up_flags : (w : Way) (u n : ℕ) → raised_by f w (ratio (u * 2 ^ min n (reach f)) 1) ≡ raised_by f w (ratio (u * 2 ^ n) 1)
  up_flags w zero n = ap (λ c. raised_by f w (ratio c 1)) (omega arith)
  up_flags w (suc u) n = past_clamp (λ n. raised_by f w (ratio (suc u * 2 ^ n) 1)) (reach f) (λ n h. huge (reach f) (omega arith) ∙ sym (huge n h)) n
    where
      huge : (n : ℕ) → reach f ≤ n → raised_by f w (ratio (suc u * 2 ^ n) 1) ≡ judged true false true
      huge n h = huge_flags f g w (ratio (suc u * 2 ^ n) 1) (omega arith) (omega (arith, past_all f g (suc u) n (omega arith) h))

  down_flags : (w : Way) (u n : ℕ) → u < units f (inf f) → raised_by f w (ratio u (2 ^ suc (min n (reach f)))) ≡ raised_by f w (ratio u (2 ^ suc n))
  down_flags w zero n l =
      zero_flags f g w (ratio 0 (2 ^ suc (min n (reach f)))) (pow_pos (suc (min n (reach f)))) (omega arith)
      ∙ sym (zero_flags f g w (ratio 0 (2 ^ suc n)) (pow_pos (suc n)) (omega arith))
  down_flags w (suc u) n l = past_clamp (λ n. raised_by f w (ratio (suc u) (2 ^ suc n))) (reach f) (λ n h. small (reach f) (omega arith) ∙ sym (small n h)) n
    where
      small : (n : ℕ) → reach f ≤ n → raised_by f w (ratio (suc u) (2 ^ suc n)) ≡ judged false true true
      small n h = small_flags f g w (ratio (suc u) (2 ^ suc n)) (pow_pos (suc n)) (λ z. omega arith) (omega (arith, below_all f g (suc u) n l h))

  -- the clamped rule is the rule
  pub clamp_flags : (a : Attribute) (s : Bool) (u : ℕ) (n : ℤ) → u < units f (inf f) → raised f a s (scaled s u (clamp (reach f) n)) ≡ raised f a s (scaled s u n)
  clamp_flags a s u (pos n) l =
      raised_of f a s s (u * 2 ^ min n (reach f)) 0 (sign_own s (u * 2 ^ min n (reach f)) 0)
      ∙ up_flags (way_of a s) u n
      ∙ sym (raised_of f a s s (u * 2 ^ n) 0 (sign_own s (u * 2 ^ n) 0))
  clamp_flags a s u (negsuc n) l =
      raised_of f a s s u (suc (min n (reach f))) (sign_own s u (suc (min n (reach f))))
      ∙ down_flags (way_of a s) u n l
      ∙ sym (raised_of f a s s u (suc n) (sign_own s u (suc n)))

  -- the flags are those of the exact value, for every n
  pub scalbn_flags_lem : (a : Attribute) (x u : ℕ) (n : ℤ) → kind f x ≡ finite u → scalbn_flags_in f a x n ≡ raised f a (minus f x) (exact_scalbn f x n)
  unfolding scalbn_flags_in scalbn_flags_by
  scalbn_flags_lem a x u n h =
      let m = finite_is f x u h in
      ap (scalbn_flags_by f a x n) h ∙ clamp_flags a (minus f x) u n (omega (arith, m.counts, units_lt f m.below)) ∙ ap (raised f a (minus f x)) (scaled_exact f g x u n h)

  -- so they are the flags of the answer
  pub scalbn_flags_rule : (a : Attribute) (x u : ℕ) (n : ℤ) → kind f x ≡ finite u → FlagsRule f a (minus f x) (exact_scalbn f x n) (scalbn_in f a x n) (scalbn_flags_in f a x n)
  scalbn_flags_rule a x u n h =
      subst₂ (FlagsRule f a (minus f x) (exact_scalbn f x n)) (sym (scalbn_answer f g a x u n h)) (sym (scalbn_flags_lem a x u n h)) (raised_rule f g a (minus f x) (exact_scalbn f x n))

-- ---- every other row
pub scalbn_flag_rows : (f : Format) (a : Attribute) (x : ℕ) (n : ℤ) → ScalbnFlagRows f x (scalbn_flags_in f a x n)
unfolding scalbn_flags_in scalbn_flags_by
scalbn_flag_rows f a x n =
    record {
      of_signalling = λ h s. ap (scalbn_flags_by f a x n) h ∙ ap nan_flags s;
      of_quiet = λ h s. ap (scalbn_flags_by f a x n) h ∙ ap nan_flags s;
      of_infinity = λ h. ap (scalbn_flags_by f a x n) h;
    }

pub scalbn_clean : (f : Format) → Fair f → (a : Attribute) (x : ℕ) (n : ℤ) → Clean (scalbn_flags_in f a x n)
unfolding scalbn_flags_in scalbn_flags_by
scalbn_clean f g a x n = go (kind f x)
  where
    go : (k : Kind) → Clean (scalbn_flags_by f a x n k)
    go nan = either_clean (signals f x) none none_clean
    go infinite = none_clean
    go (finite u) =
        raised_clean f g a (minus f x) (scaled (minus f x) u (clamp (reach f) n))

module _ (f : Format) (g : Fair f) (x u : ℕ) (n : ℤ) (h : kind f x ≡ finite u) where
  -- down and up, the exact value lies between
  pub scalbn_band : Band f (exact_scalbn f x n) (scalbn_in f toward_negative x n) (scalbn_in f toward_positive x n) (scalbn_flags_in f toward_negative x n) (scalbn_flags_in f toward_positive x n)
  scalbn_band =
      rw (scalbn_answer f g toward_negative x u n h, scalbn_answer f g toward_positive x u n h, scalbn_flags_lem f g toward_negative x u n h, scalbn_flags_lem f g toward_positive x u n h)
      (band f g (minus f x) (minus f x) (exact_scalbn f x n))
