-- The flags, with the values: whatever meets the rows of an operation, and for numbers its rules, is what the definition gives and raises, for every operand. Assumes nothing.
use Prim.Native.Nat.{ℕ, zero, suc}
use mathlib.Core.Path.{◌≡◌, refl, sym, ap, ◌∙◌, subst}
use mathlib.Core.Bool.{Bool, true, false, true≢false}
use lib.IntN.{ℤ}
use Rattle.ieee.specs.Format.{Format, Fair}
use Rattle.ieee.specs.Pattern.{Pattern, minus, Kind, nan, infinite, finite, kind}
use Rattle.ieee.specs.Round.{Attribute}
use Rattle.ieee.specs.Rule.{RuleIn}
use Rattle.ieee.specs.Flags.{Flags, only_inexact, signals}
use Rattle.ieee.specs.FlagsRule.{FlagsRule}
use Rattle.ieee.specs.FlagRows.{SqrtFlagRows, Silent, FmaFlagRows, ScalbnFlagRows, WholeFlagRows}
use Rattle.ieee.specs.Sqrt.{sqrt_in, sqrt_flags_in, exact_sqrt}
use Rattle.ieee.specs.Fma.{fma_in, fma_flags_in, exact_fma, zero_sign, InfiniteProduct, of_both, of_first, of_second, against}
use Rattle.ieee.specs.Scalbn.{scalbn_in, scalbn_flags_in, exact_scalbn}
use Rattle.ieee.specs.SqrtRows.{SqrtRows}
use Rattle.ieee.specs.FmaRows.{FmaRows}
use Rattle.ieee.specs.ScalbnRows.{ScalbnRows}
use Rattle.ieee.specs.Whole.{trunc_of, trunc_flags, floor_of, floor_flags, ceil_of, ceil_flags}
use Rattle.ieee.specs.WholeRule.{Truncated, Floored, Ceiled, WholeRows, FloorRows, CeilRows}
use Rattle.ieee.proofs.Raised.{same_when, rule_one}
use Rattle.ieee.proofs.SqrtFlags.{sqrt_flags_rule, sqrt_flag_rows}
use Rattle.ieee.proofs.FmaFlags.{Apart, infinite_apart, finite_apart, fma_flags_rule, fma_flag_rows}
use Rattle.ieee.proofs.ScalbnFlags.{scalbn_flags_rule, scalbn_flag_rows}
use Rattle.ieee.proofs.WholeFlags.{trunc_flag_rows, floor_flag_rows, ceil_flag_rows}
use Rattle.ieee.proofs.Settled.{same, sqrt_settled, fma_settled, scalbn_settled, trunc_settled, floor_settled, ceil_settled}

-- ---- sqrt
module _ (f : Format) (g : Fair f) (a : Attribute) (F : ℕ → Flags) (rows : SqrtFlagRows f F)
    (rule : (x u : ℕ) → kind f x ≡ finite u → (minus f x ≡ true → u ≡ 0) → FlagsRule f a (minus f x) (exact_sqrt f x) (sqrt_in f a x) (F x)) where
  sqrt_flags_by_lem : (x : ℕ) (n t : Bool) (k : Kind) → signals f x ≡ n → minus f x ≡ t → kind f x ≡ k → F x ≡ sqrt_flags_in f a x
  sqrt_flags_by_lem x true t nan s e h = same (rows.of_signalling x h s) ((sqrt_flag_rows f g a).of_signalling x h s)
  sqrt_flags_by_lem x false t nan s e h = same (rows.of_quiet x h s) ((sqrt_flag_rows f g a).of_quiet x h s)
  sqrt_flags_by_lem x n false infinite s e h = same (rows.of_infinity x h e) ((sqrt_flag_rows f g a).of_infinity x h e)
  sqrt_flags_by_lem x n true infinite s e h = same (rows.of_minus_infinity x h e) ((sqrt_flag_rows f g a).of_minus_infinity x h e)
  sqrt_flags_by_lem x n t (finite zero) s e h = same (rows.of_zero x h) ((sqrt_flag_rows f g a).of_zero x h)
  sqrt_flags_by_lem x n true (finite (suc u)) s e h = same (rows.of_minus x u h e) ((sqrt_flag_rows f g a).of_minus x u h e)
  sqrt_flags_by_lem x n false (finite (suc u)) s e h =
      let z : minus f x ≡ true → suc u ≡ 0 = λ m. absurd (true≢false (sym m ∙ e)) in
      rule_one f a (minus f x) (exact_sqrt f x) (sqrt_in f a x) (F x) (sqrt_flags_in f a x) (rule x (suc u) h z) (sqrt_flags_rule f g a x (suc u) h z)

  sqrt_flags_settled : (x : ℕ) → F x ≡ sqrt_flags_in f a x
  sqrt_flags_settled x = sqrt_flags_by_lem x (signals f x) (minus f x) (kind f x) refl refl refl

-- ---- fma
module _ (f : Format) (g : Fair f) (a : Attribute) (x y z : ℕ) (F : Flags) (rows : FmaFlagRows f x y z F)
    (rule : (u v w : ℕ) → kind f x ≡ finite u → kind f y ≡ finite v → kind f z ≡ finite w → FlagsRule f a (zero_sign f a x y z) (exact_fma f x y z) (fma_in f a x y z) F) where
  abbrev ours : FmaFlagRows f x y z (fma_flags_in f a x y z)
  ours = fma_flag_rows f a x y z

  quiet_z : Silent f x y z → kind f z ≡ nan → Apart f x y → F ≡ fma_flags_in f a x y z
  quiet_z d h n = same (rows.quiet_third h d n.0 n.1) (ours.quiet_third h d n.0 n.1)

  infinite_flags : Silent f x y z → InfiniteProduct f x y → (l : Kind) → kind f z ≡ l → F ≡ fma_flags_in f a x y z
  infinite_flags d i nan h = quiet_z d h (infinite_apart f x y i)
  infinite_flags d i (finite w) h = same (rows.infinite_product w i h) (ours.infinite_product w i h)
  infinite_flags d i infinite h = go (against f x y z) refl
    where
      go : (b : Bool) → against f x y z ≡ b → F ≡ fma_flags_in f a x y z
      go true e = same (rows.opposite_infinities i h e) (ours.opposite_infinities i h e)
      go false e = same (rows.like_infinities i h e) (ours.like_infinities i h e)

  quiet_flags_by : Silent f x y z → (k l m : Kind) → kind f x ≡ k → kind f y ≡ l → kind f z ≡ m → F ≡ fma_flags_in f a x y z
  quiet_flags_by d nan l m p q h = same (rows.quiet_first p d) (ours.quiet_first p d)
  quiet_flags_by d infinite nan m p q h = same (rows.quiet_second q d) (ours.quiet_second q d)
  quiet_flags_by d infinite infinite m p q h = infinite_flags d (of_both p q) m h
  quiet_flags_by d infinite (finite zero) m p q h = same (rows.infinity_by_zero p q) (ours.infinity_by_zero p q)
  quiet_flags_by d infinite (finite (suc v)) m p q h = infinite_flags d (of_first p q) m h
  quiet_flags_by d (finite u) nan m p q h = same (rows.quiet_second q d) (ours.quiet_second q d)
  quiet_flags_by d (finite zero) infinite m p q h = same (rows.zero_by_infinity p q) (ours.zero_by_infinity p q)
  quiet_flags_by d (finite (suc u)) infinite m p q h = infinite_flags d (of_second p q) m h
  quiet_flags_by d (finite u) (finite v) nan p q h = quiet_z d h (finite_apart f x y p q)
  quiet_flags_by d (finite u) (finite v) infinite p q h = same (rows.infinite_third u v p q h) (ours.infinite_third u v p q h)
  quiet_flags_by d (finite u) (finite v) (finite w) p q h =
      rule_one f a (zero_sign f a x y z) (exact_fma f x y z) (fma_in f a x y z) F (fma_flags_in f a x y z) (rule u v w p q h) (fma_flags_rule f g a x y z u v w p q h)

  fma_flags_by : (b c d : Bool) → signals f x ≡ b → signals f y ≡ c → signals f z ≡ d → F ≡ fma_flags_in f a x y z
  fma_flags_by true c d i j k = same (rows.signalling_first i) (ours.signalling_first i)
  fma_flags_by false true d i j k = same (rows.signalling_second j) (ours.signalling_second j)
  fma_flags_by false false true i j k = same (rows.signalling_third k) (ours.signalling_third k)
  fma_flags_by false false false i j k = quiet_flags_by (i, j, k) (kind f x) (kind f y) (kind f z) refl refl refl

  fma_flags_settled : F ≡ fma_flags_in f a x y z
  fma_flags_settled = fma_flags_by (signals f x) (signals f y) (signals f z) refl refl refl

-- ---- scalbn
module _ (f : Format) (g : Fair f) (a : Attribute) (x : ℕ) (n : ℤ) (F : Flags) (rows : ScalbnFlagRows f x F)
    (rule : (u : ℕ) → kind f x ≡ finite u → FlagsRule f a (minus f x) (exact_scalbn f x n) (scalbn_in f a x n) F) where
  scalbn_flags_by_lem : (b : Bool) (k : Kind) → signals f x ≡ b → kind f x ≡ k → F ≡ scalbn_flags_in f a x n
  scalbn_flags_by_lem true nan s h = same (rows.of_signalling h s) ((scalbn_flag_rows f a x n).of_signalling h s)
  scalbn_flags_by_lem false nan s h = same (rows.of_quiet h s) ((scalbn_flag_rows f a x n).of_quiet h s)
  scalbn_flags_by_lem b infinite s h = same (rows.of_infinity h) ((scalbn_flag_rows f a x n).of_infinity h)
  scalbn_flags_by_lem b (finite u) s h =
      rule_one f a (minus f x) (exact_scalbn f x n) (scalbn_in f a x n) F (scalbn_flags_in f a x n) (rule u h) (scalbn_flags_rule f g a x u n h)

  scalbn_flags_settled : F ≡ scalbn_flags_in f a x n
  scalbn_flags_settled = scalbn_flags_by_lem (signals f x) (kind f x) refl refl

-- ---- trunc, floor and ceil: two that go with one operation
module _ (f : Format) (o : ℕ → ℕ) (F G : ℕ → Flags) (p : WholeFlagRows f o F) (q : WholeFlagRows f o G) where
  flags_by_lem : (x : ℕ) (k : Kind) → kind f x ≡ k → F x ≡ G x
  flags_by_lem x nan h = go (signals f x) refl
    where
      go : (b : Bool) → signals f x ≡ b → F x ≡ G x
      go true e = same (p.of_signalling x h e) (q.of_signalling x h e)
      go false e = same (p.of_quiet x h e) (q.of_quiet x h e)
  flags_by_lem x infinite h = same (p.of_infinity x h) (q.of_infinity x h)
  flags_by_lem x (finite u) h =
      let e = same_when (F x).inexact (G x).inexact (p.changed x u h) (q.changed x u h) in
      p.of_finite x u h ∙ ap only_inexact e ∙ sym (q.of_finite x u h)

  whole_flags_settled : (x : ℕ) → F x ≡ G x
  whole_flags_settled x = flags_by_lem x (kind f x) refl

-- ---- values and flags: the rule of flags speaks of the answer that they go with
module _ (f : Format) (g : Fair f) (a : Attribute) where
  pub sqrt_raises_settled : (o : ℕ → ℕ) (F : ℕ → Flags) → SqrtRows f o → SqrtFlagRows f F
      → ((x u : ℕ) → kind f x ≡ finite u → (minus f x ≡ true → u ≡ 0) → RuleIn f a (minus f x) (exact_sqrt f x) (o x) × FlagsRule f a (minus f x) (exact_sqrt f x) (o x) (F x))
      → (x : ℕ) → (o x ≡ sqrt_in f a x) × (F x ≡ sqrt_flags_in f a x)
  sqrt_raises_settled o F rows flags rules x =
      let e = sqrt_settled f g a o rows (λ y u h z. (rules y u h z).0) in
      (e x, sqrt_flags_settled f g a F flags (λ y u h z. subst (λ r. FlagsRule f a (minus f y) (exact_sqrt f y) r (F y)) (e y) (rules y u h z).1) x)

  pub fma_raises_settled : (x y z r : ℕ) (F : Flags) → FmaRows f a x y z r → FmaFlagRows f x y z F
      → ((u v w : ℕ) → kind f x ≡ finite u → kind f y ≡ finite v → kind f z ≡ finite w → RuleIn f a (zero_sign f a x y z) (exact_fma f x y z) r × FlagsRule f a (zero_sign f a x y z) (exact_fma f x y z) r F)
      → Pattern f z → (r ≡ fma_in f a x y z) × (F ≡ fma_flags_in f a x y z)
  fma_raises_settled x y z r F rows flags rules p =
      let e = fma_settled f g a x y z r rows (λ u v w h k l. (rules u v w h k l).0) p in
      (e, fma_flags_settled f g a x y z F flags (λ u v w h k l. subst (λ q. FlagsRule f a (zero_sign f a x y z) (exact_fma f x y z) q F) e (rules u v w h k l).1))

  pub scalbn_raises_settled : (x : ℕ) (n : ℤ) (r : ℕ) (F : Flags) → ScalbnRows f x n r → ScalbnFlagRows f x F
      → ((u : ℕ) → kind f x ≡ finite u → RuleIn f a (minus f x) (exact_scalbn f x n) r × FlagsRule f a (minus f x) (exact_scalbn f x n) r F)
      → (r ≡ scalbn_in f a x n) × (F ≡ scalbn_flags_in f a x n)
  scalbn_raises_settled x n r F rows flags rules =
      let e = scalbn_settled f g a x n r rows (λ u h. (rules u h).0) in
      (e, scalbn_flags_settled f g a x n F flags (λ u h. subst (λ q. FlagsRule f a (minus f x) (exact_scalbn f x n) q F) e (rules u h).1))

module _ (f : Format) (g : Fair f) (o : ℕ → ℕ) (F : ℕ → Flags) (flags : WholeFlagRows f o F) where
  pub floor_raises_settled : FloorRows f o → ((x u : ℕ) → kind f x ≡ finite u → Floored f x (o x)) → (x : ℕ) → (o x ≡ floor_of f x) × (F x ≡ floor_flags f x)
  floor_raises_settled rows rule x =
      let e = floor_settled f g o rows rule in
      (e x, whole_flags_settled f (floor_of f) F (floor_flags f) (subst (λ q. WholeFlagRows f q F) (λ i y. e y i) flags) (floor_flag_rows f g) x)

  pub trunc_raises_settled : WholeRows f o → ((x u : ℕ) → kind f x ≡ finite u → Truncated f x (o x)) → (x : ℕ) → (o x ≡ trunc_of f x) × (F x ≡ trunc_flags f x)
  trunc_raises_settled rows rule x =
      let e = trunc_settled f g o rows rule in
      (e x, whole_flags_settled f (trunc_of f) F (trunc_flags f) (subst (λ q. WholeFlagRows f q F) (λ i y. e y i) flags) (trunc_flag_rows f g) x)

  pub ceil_raises_settled : CeilRows f o → ((x u : ℕ) → kind f x ≡ finite u → Ceiled f x (o x)) → (x : ℕ) → (o x ≡ ceil_of f x) × (F x ≡ ceil_flags f x)
  ceil_raises_settled rows rule x =
      let e = ceil_settled f g o rows rule in
      (e x, whole_flags_settled f (ceil_of f) F (ceil_flags f) (subst (λ q. WholeFlagRows f q F) (λ i y. e y i) flags) (ceil_flag_rows f g) x)
