-- Exactly when invalid is raised, by the rows of the flags and for numbers by their rule. Assumes nothing.
use Prim.Native.Nat.{ℕ, zero, suc}
use mathlib.Core.Path.{◌≡◌, refl, sym, ap, ◌∙◌}
use mathlib.Core.Logic.{◌↔◌, inl, inr}
use mathlib.Core.Bool.{Bool, true, false, true≢false}
use lib.IntN.{ℤ}
use Rattle.ieee.specs.Format.{Format, Fair}
use Rattle.ieee.specs.Pattern.{minus, Kind, nan, infinite, finite, kind}
use Rattle.ieee.specs.Round.{Attribute}
use Rattle.ieee.specs.Flags.{Flags, none, only_invalid, signals}
use Rattle.ieee.specs.FlagRows.{SqrtFlagRows, Silent, FmaFlagRows, WholeFlagRows}
use Rattle.ieee.specs.Invalid.{SqrtInvalid, Clash, FmaInvalid}
use Rattle.ieee.specs.Sqrt.{sqrt_flags_in}
use Rattle.ieee.specs.Fma.{fma_flags_in, InfiniteProduct, of_both, of_first, of_second, against}
use Rattle.ieee.specs.Scalbn.{scalbn_flags_in}
use Rattle.ieee.proofs.Patterns.{kind_nan}
use Rattle.ieee.proofs.Signals.{signalling}
use Rattle.ieee.proofs.SqrtFlags.{sqrt_flags_rule, sqrt_flag_rows}
use Rattle.ieee.proofs.FmaFlags.{Apart, infinite_apart, finite_apart, fma_flags_rule, fma_flag_rows}
use Rattle.ieee.proofs.ScalbnFlags.{scalbn_flags_rule, scalbn_flag_rows}

raises : {F : Flags} → F ≡ only_invalid → F.invalid ≡ true
raises e = ap (λ G. G.invalid) e

not_raised : {b : Bool} {A : Type 0} → b ≡ false → b ≡ true → A
not_raised e i = absurd (true≢false (sym i ∙ e))

raises_none : {F : Flags} {A : Type 0} → F ≡ none → F.invalid ≡ true → A
raises_none e = not_raised (ap (λ G. G.invalid) e)

signalling_nan : (f : Format) → Fair f → (x : ℕ) → signals f x ≡ true → kind f x ≡ nan
signalling_nan f g x s = kind_nan f x ((signalling f g x).0 s).0

-- ---- sqrt
module _ (f : Format) (g : Fair f) (a : Attribute) (x : ℕ) where
  abbrev root_rows : SqrtFlagRows f (sqrt_flags_in f a)
  root_rows = sqrt_flag_rows f g a

  root_cause : (n t : Bool) (k : Kind) → signals f x ≡ n → minus f x ≡ t → kind f x ≡ k → (sqrt_flags_in f a x).invalid ≡ true → SqrtInvalid f x
  root_cause true t k s e h i = inl s
  root_cause false t nan s e h i = raises_none (root_rows.of_quiet x h s) i
  root_cause false false infinite s e h i = raises_none (root_rows.of_infinity x h e) i
  root_cause false true infinite s e h i = inr (e, inl h)
  root_cause false t (finite zero) s e h i = raises_none (root_rows.of_zero x h) i
  root_cause false false (finite (suc u)) s e h i = not_raised (sqrt_flags_rule f g a x (suc u) h (λ m. absurd (true≢false (sym m ∙ e)))).valid i
  root_cause false true (finite (suc u)) s e h i = inr (e, inr (u, h))

  root_raises : SqrtInvalid f x → (sqrt_flags_in f a x).invalid ≡ true
  root_raises (inl s) = raises (root_rows.of_signalling x (signalling_nan f g x s) s)
  root_raises (inr (e, inl h)) = raises (root_rows.of_minus_infinity x h e)
  root_raises (inr (e, inr (u, h))) = raises (root_rows.of_minus x u h e)

  pub sqrt_invalid : ((sqrt_flags_in f a x).invalid ≡ true) ↔ SqrtInvalid f x
  sqrt_invalid = (root_cause (signals f x) (minus f x) (kind f x) refl refl refl, root_raises)

-- ---- fma
module _ (f : Format) (g : Fair f) (a : Attribute) (x y z : ℕ) where
  abbrev rows : FmaFlagRows f x y z (fma_flags_in f a x y z)
  rows = fma_flag_rows f a x y z

  abbrev Raised : Type 0
  Raised = (fma_flags_in f a x y z).invalid ≡ true

  clashing : Clash f x y → FmaInvalid f x y z
  clashing c = inr (inr (inr (inl c)))

  quiet_third : Silent f x y z → kind f z ≡ nan → Apart f x y → Raised → FmaInvalid f x y z
  quiet_third d h n i = raises_none (rows.quiet_third h d n.0 n.1) i

  infinite_cause : Silent f x y z → InfiniteProduct f x y → (m : Kind) → kind f z ≡ m → Raised → FmaInvalid f x y z
  infinite_cause d p nan h i = quiet_third d h (infinite_apart f x y p) i
  infinite_cause d p (finite w) h i = raises_none (rows.infinite_product w p h) i
  infinite_cause d p infinite h i = go (against f x y z) refl
    where
      go : (b : Bool) → against f x y z ≡ b → FmaInvalid f x y z
      go true e = inr (inr (inr (inr (p, h, e))))
      go false e = raises_none (rows.like_infinities p h e) i

  kind_cause : Silent f x y z → (k l m : Kind) → kind f x ≡ k → kind f y ≡ l → kind f z ≡ m → Raised → FmaInvalid f x y z
  kind_cause d nan l m p q h i = raises_none (rows.quiet_first p d) i
  kind_cause d infinite nan m p q h i = raises_none (rows.quiet_second q d) i
  kind_cause d infinite infinite m p q h i = infinite_cause d (of_both p q) m h i
  kind_cause d infinite (finite zero) m p q h i = clashing (inr (p, q))
  kind_cause d infinite (finite (suc v)) m p q h i = infinite_cause d (of_first p q) m h i
  kind_cause d (finite u) nan m p q h i = raises_none (rows.quiet_second q d) i
  kind_cause d (finite zero) infinite m p q h i = clashing (inl (p, q))
  kind_cause d (finite (suc u)) infinite m p q h i = infinite_cause d (of_second p q) m h i
  kind_cause d (finite u) (finite v) nan p q h i = quiet_third d h (finite_apart f x y p q) i
  kind_cause d (finite u) (finite v) infinite p q h i = raises_none (rows.infinite_third u v p q h) i
  kind_cause d (finite u) (finite v) (finite w) p q h i = not_raised (fma_flags_rule f g a x y z u v w p q h).valid i

  cause : (b c d : Bool) → signals f x ≡ b → signals f y ≡ c → signals f z ≡ d → Raised → FmaInvalid f x y z
  cause true c d p q r i = inl p
  cause false true d p q r i = inr (inl q)
  cause false false true p q r i = inr (inr (inl r))
  cause false false false p q r i = kind_cause (p, q, r) (kind f x) (kind f y) (kind f z) refl refl refl i

  effect : FmaInvalid f x y z → Raised
  effect (inl s) = raises (rows.signalling_first s)
  effect (inr (inl s)) = raises (rows.signalling_second s)
  effect (inr (inr (inl s))) = raises (rows.signalling_third s)
  effect (inr (inr (inr (inl (inl (p, q)))))) = raises (rows.zero_by_infinity p q)
  effect (inr (inr (inr (inl (inr (p, q)))))) = raises (rows.infinity_by_zero p q)
  effect (inr (inr (inr (inr (p, h, e))))) = raises (rows.opposite_infinities p h e)

  pub fma_invalid : Raised ↔ FmaInvalid f x y z
  fma_invalid = (cause (signals f x) (signals f y) (signals f z) refl refl refl, effect)

-- ---- scalbn
module _ (f : Format) (g : Fair f) (a : Attribute) (x : ℕ) (n : ℤ) where
  scaled_cause : (b : Bool) (k : Kind) → signals f x ≡ b → kind f x ≡ k → (scalbn_flags_in f a x n).invalid ≡ true → signals f x ≡ true
  scaled_cause true k s h i = s
  scaled_cause false nan s h i = raises_none ((scalbn_flag_rows f a x n).of_quiet h s) i
  scaled_cause false infinite s h i = raises_none ((scalbn_flag_rows f a x n).of_infinity h) i
  scaled_cause false (finite u) s h i = not_raised (scalbn_flags_rule f g a x u n h).valid i

  pub scalbn_invalid : ((scalbn_flags_in f a x n).invalid ≡ true) ↔ (signals f x ≡ true)
  scalbn_invalid = (scaled_cause (signals f x) (kind f x) refl refl, λ s. raises ((scalbn_flag_rows f a x n).of_signalling (signalling_nan f g x s) s))

-- ---- trunc, floor and ceil
module _ (f : Format) (g : Fair f) (o : ℕ → ℕ) (F : ℕ → Flags) (rows : WholeFlagRows f o F) (x : ℕ) where
  whole_cause : (b : Bool) (k : Kind) → signals f x ≡ b → kind f x ≡ k → (F x).invalid ≡ true → signals f x ≡ true
  whole_cause true k s h i = s
  whole_cause false nan s h i = raises_none (rows.of_quiet x h s) i
  whole_cause false infinite s h i = raises_none (rows.of_infinity x h) i
  whole_cause false (finite u) s h i = not_raised (ap (λ G. G.invalid) (rows.of_finite x u h)) i

  pub whole_invalid : ((F x).invalid ≡ true) ↔ (signals f x ≡ true)
  whole_invalid = (whole_cause (signals f x) (kind f x) refl refl, λ s. raises (rows.of_signalling x (signalling_nan f g x s) s))
