-- The whole answer: whatever meets the rows of an operation, and for numbers its rule, is what the definition gives, for every operand. Assumes nothing.
use Prim.Native.Nat.{ℕ, zero, suc, ◌≤◌, ◌<◌}
use mathlib.Core.Path.{◌≡◌, refl, sym, ◌∙◌}
use mathlib.Core.Bool.{Bool, true, false, true≢false}
use native.Mathlib.Omega.{arith}
use lib.IntN.{ℤ}
use Rattle.ieee.specs.Format.{Format, Fair, units}
use Rattle.ieee.specs.Pattern.{Pattern, minus, magnitude, Kind, nan, infinite, finite, kind}
use Rattle.ieee.specs.Round.{Attribute}
use Rattle.ieee.specs.Rule.{RuleIn}
use Rattle.ieee.specs.Sqrt.{sqrt_in, exact_sqrt}
use Rattle.ieee.specs.SqrtRows.{SqrtRows}
use Rattle.ieee.specs.Fma.{fma_in, exact_fma, zero_sign, InfiniteProduct, of_both, of_first, of_second, against}
use Rattle.ieee.specs.FmaRows.{FmaRows}
use Rattle.ieee.specs.Scalbn.{scalbn_in, exact_scalbn}
use Rattle.ieee.specs.ScalbnRows.{ScalbnRows}
use Rattle.ieee.specs.Whole.{trunc_of, floor_of, ceil_of}
use Rattle.ieee.specs.WholeRule.{Truncated, Floored, Ceiled, WholeRows, FloorRows, CeilRows}
use Rattle.ieee.specs.Fmod.{fmod_of}
use Rattle.ieee.specs.FmodRule.{Left, FmodRows}
use Rattle.ieee.specs.Nextafter.{nextafter_of}
use Rattle.ieee.specs.NextafterRule.{Ordered, Next, NextafterRows}
use Rattle.ieee.specs.Modf.{modf_of, modf_whole}
use Rattle.ieee.specs.ModfRule.{Parted, ModfRows}
use Rattle.ieee.specs.Remquo.{remquo_of, quotient_of}
use Rattle.ieee.specs.RemquoRule.{NearestLeft, RemquoRows}
use Rattle.ieee.specs.Frexp.{ilogb_of, frexp_of, frexp_exponent}
use Rattle.ieee.specs.FrexpRule.{Leads, IlogbRows, Broken, FrexpRows}
use Rattle.ieee.proofs.Patterns.{finite_is}
use Rattle.ieee.proofs.Attributes.{answer_met_unique}
use Rattle.ieee.proofs.Sqrts.{sqrt_met, sqrt_rows}
use Rattle.ieee.proofs.Fmas.{fma_met, fma_rows}
use Rattle.ieee.proofs.Scalbns.{scalbn_met, scalbn_rows}
use Rattle.ieee.proofs.Wholes.{trunc_is, trunc_only, trunc_rows, floor_is, floor_only, floor_rows}
use Rattle.ieee.proofs.Ceils.{ceil_is, ceil_only, ceil_rows}
use Rattle.ieee.proofs.Remainders.{fmod_is, fmod_only, fmod_rows}
use Rattle.ieee.proofs.Modfs.{modf_is, modf_only, modf_rows}
use Rattle.ieee.proofs.Remquos.{remquo_is, remquo_only, remquo_rows}
use Rattle.ieee.proofs.Nexts.{by_nan, next_is, next_only, next_rows}
use Rattle.ieee.proofs.Leads.{ilogb_is, ilogb_only, ilogb_rows}
use Rattle.ieee.proofs.Frexps.{frexp_is, frexp_only, frexp_rows}

-- what both are is one
pub same : {A : Type 0} {r q d : A} → r ≡ d → q ≡ d → r ≡ q
same p e = p ∙ sym e

both : {A B : Type 0} {r q d : A} {s t c : B} → (r ≡ d) × (s ≡ c) → (q ≡ d) × (t ≡ c) → (r ≡ q) × (s ≡ t)
both p e = (same p.0 e.0, same p.1 e.1)

-- ---- sqrt
module _ (f : Format) (g : Fair f) (a : Attribute) (o : ℕ → ℕ) (rows : SqrtRows f o)
    (rule : (x u : ℕ) → kind f x ≡ finite u → (minus f x ≡ true → u ≡ 0) → RuleIn f a (minus f x) (exact_sqrt f x) (o x)) where
  root : (x u : ℕ) → kind f x ≡ finite u → (minus f x ≡ true → u ≡ 0) → o x ≡ sqrt_in f a x
  root x u h z = answer_met_unique f g a (minus f x) (exact_sqrt f x) (o x) (sqrt_in f a x) (rule x u h z) (sqrt_met f g a x u h z)

  sqrt_by_lem : (x : ℕ) → (t : Bool) (k : Kind) → minus f x ≡ t → kind f x ≡ k → o x ≡ sqrt_in f a x
  sqrt_by_lem x t nan e h = same (rows.of_nan x h) ((sqrt_rows f a).of_nan x h)
  sqrt_by_lem x false infinite e h = same (rows.of_infinity x h e) ((sqrt_rows f a).of_infinity x h e)
  sqrt_by_lem x true infinite e h = same (rows.of_minus_infinity x h e) ((sqrt_rows f a).of_minus_infinity x h e)
  sqrt_by_lem x t (finite zero) e h = root x 0 h (λ m. refl)
  sqrt_by_lem x false (finite (suc u)) e h = root x (suc u) h (λ m. absurd (true≢false (sym m ∙ e)))
  sqrt_by_lem x true (finite (suc u)) e h = same (rows.of_minus x u h e) ((sqrt_rows f a).of_minus x u h e)

  pub sqrt_settled : (x : ℕ) → o x ≡ sqrt_in f a x
  sqrt_settled x = sqrt_by_lem x (minus f x) (kind f x) refl refl

-- ---- fma
module _ (f : Format) (g : Fair f) (a : Attribute) (x y z r : ℕ) (rows : FmaRows f a x y z r)
    (rule : (u v w : ℕ) → kind f x ≡ finite u → kind f y ≡ finite v → kind f z ≡ finite w → RuleIn f a (zero_sign f a x y z) (exact_fma f x y z) r) where
  abbrev ours : FmaRows f a x y z (fma_in f a x y z)
  ours = fma_rows f a x y z

  infinite_by : InfiniteProduct f x y → (l : Kind) → kind f z ≡ l → r ≡ fma_in f a x y z
  infinite_by i nan h = same (rows.nan_third h) (ours.nan_third h)
  infinite_by i (finite w) h = same (rows.infinite_product w i h) (ours.infinite_product w i h)
  infinite_by i infinite h = go (against f x y z) refl
    where
      go : (b : Bool) → against f x y z ≡ b → r ≡ fma_in f a x y z
      go true e = same (rows.opposite_infinities i h e) (ours.opposite_infinities i h e)
      go false e = same (rows.like_infinities i h e) (ours.like_infinities i h e)

  fma_by : Pattern f z → (k l m : Kind) → kind f x ≡ k → kind f y ≡ l → kind f z ≡ m → r ≡ fma_in f a x y z
  fma_by b nan l m p q h = same (rows.nan_first p) (ours.nan_first p)
  fma_by b infinite nan m p q h = same (rows.nan_second q) (ours.nan_second q)
  fma_by b infinite infinite m p q h = infinite_by (of_both p q) m h
  fma_by b infinite (finite zero) m p q h = same (rows.infinity_by_zero p q) (ours.infinity_by_zero p q)
  fma_by b infinite (finite (suc v)) m p q h = infinite_by (of_first p q) m h
  fma_by b (finite u) nan m p q h = same (rows.nan_second q) (ours.nan_second q)
  fma_by b (finite zero) infinite m p q h = same (rows.zero_by_infinity p q) (ours.zero_by_infinity p q)
  fma_by b (finite (suc u)) infinite m p q h = infinite_by (of_second p q) m h
  fma_by b (finite u) (finite v) nan p q h = same (rows.nan_third h) (ours.nan_third h)
  fma_by b (finite u) (finite v) infinite p q h = same (rows.infinite_third u v b p q h) (ours.infinite_third u v b p q h)
  fma_by b (finite u) (finite v) (finite w) p q h =
      answer_met_unique f g a (zero_sign f a x y z) (exact_fma f x y z) r (fma_in f a x y z) (rule u v w p q h) (fma_met f g a x y z u v w p q h)

  pub fma_settled : Pattern f z → r ≡ fma_in f a x y z
  fma_settled b = fma_by b (kind f x) (kind f y) (kind f z) refl refl refl

-- ---- scalbn
module _ (f : Format) (g : Fair f) (a : Attribute) (x : ℕ) (n : ℤ) (r : ℕ) (rows : ScalbnRows f x n r)
    (rule : (u : ℕ) → kind f x ≡ finite u → RuleIn f a (minus f x) (exact_scalbn f x n) r) where
  scalbn_by_lem : (k : Kind) → kind f x ≡ k → r ≡ scalbn_in f a x n
  scalbn_by_lem nan h = same (rows.of_nan h) ((scalbn_rows f g a x n).of_nan h)
  scalbn_by_lem infinite h = same (rows.of_infinity h) ((scalbn_rows f g a x n).of_infinity h)
  scalbn_by_lem (finite u) h = answer_met_unique f g a (minus f x) (exact_scalbn f x n) r (scalbn_in f a x n) (rule u h) (scalbn_met f g a x u n h)

  pub scalbn_settled : r ≡ scalbn_in f a x n
  scalbn_settled = scalbn_by_lem (kind f x) refl

-- ---- trunc, floor and ceil
module _ (f : Format) (g : Fair f) (o : ℕ → ℕ) where
  trunc_by : WholeRows f o → ((x u : ℕ) → kind f x ≡ finite u → Truncated f x (o x)) → (x : ℕ) (k : Kind) → kind f x ≡ k → o x ≡ trunc_of f x
  trunc_by rows rule x nan h = same (rows.of_nan x h) ((trunc_rows f).of_nan x h)
  trunc_by rows rule x infinite h = same (rows.of_infinity x h) ((trunc_rows f).of_infinity x h)
  trunc_by rows rule x (finite u) h = trunc_only f x (o x) (trunc_of f x) (rule x u h) (trunc_is f g x u h)

  pub trunc_settled : WholeRows f o → ((x u : ℕ) → kind f x ≡ finite u → Truncated f x (o x)) → (x : ℕ) → o x ≡ trunc_of f x
  trunc_settled rows rule x = trunc_by rows rule x (kind f x) refl

  floor_by_lem : FloorRows f o → ((x u : ℕ) → kind f x ≡ finite u → Floored f x (o x)) → (x : ℕ) (k : Kind) → kind f x ≡ k → o x ≡ floor_of f x
  floor_by_lem rows rule x nan h = same (rows.rows.of_nan x h) ((floor_rows f g).rows.of_nan x h)
  floor_by_lem rows rule x infinite h = same (rows.rows.of_infinity x h) ((floor_rows f g).rows.of_infinity x h)
  floor_by_lem rows rule x (finite u) h = floor_only f x (o x) (floor_of f x) (rule x u h) (floor_is f g x u h)

  pub floor_settled : FloorRows f o → ((x u : ℕ) → kind f x ≡ finite u → Floored f x (o x)) → (x : ℕ) → o x ≡ floor_of f x
  floor_settled rows rule x = floor_by_lem rows rule x (kind f x) refl

  ceil_by : CeilRows f o → ((x u : ℕ) → kind f x ≡ finite u → Ceiled f x (o x)) → (x : ℕ) (k : Kind) → kind f x ≡ k → o x ≡ ceil_of f x
  ceil_by rows rule x nan h = same (rows.rows.of_nan x h) ((ceil_rows f g).rows.of_nan x h)
  ceil_by rows rule x infinite h = same (rows.rows.of_infinity x h) ((ceil_rows f g).rows.of_infinity x h)
  ceil_by rows rule x (finite u) h = ceil_only f x (o x) (ceil_of f x) (rule x u h) (ceil_is f g x u h)

  pub ceil_settled : CeilRows f o → ((x u : ℕ) → kind f x ≡ finite u → Ceiled f x (o x)) → (x : ℕ) → o x ≡ ceil_of f x
  ceil_settled rows rule x = ceil_by rows rule x (kind f x) refl

-- ---- fmod
module _ (f : Format) (o : ℕ → ℕ → ℕ) (rows : FmodRows f o) (rule : (x y u v : ℕ) → kind f x ≡ finite u → kind f y ≡ finite (suc v) → Left f x y (o x y)) where
  fmod_by : (x y : ℕ) (k l : Kind) → kind f x ≡ k → kind f y ≡ l → o x y ≡ fmod_of f x y
  fmod_by x y nan l p q = same (rows.nan_x x y p) ((fmod_rows f).nan_x x y p)
  fmod_by x y infinite l p q = same (rows.infinite_x x y p) ((fmod_rows f).infinite_x x y p)
  fmod_by x y (finite u) nan p q = same (rows.nan_y x y q) ((fmod_rows f).nan_y x y q)
  fmod_by x y (finite u) infinite p q = same (rows.infinite_y x y u p q) ((fmod_rows f).infinite_y x y u p q)
  fmod_by x y (finite u) (finite zero) p q = same (rows.zero_y x y q) ((fmod_rows f).zero_y x y q)
  fmod_by x y (finite u) (finite (suc v)) p q = fmod_only f x y (o x y) (fmod_of f x y) (rule x y u v p q) (fmod_is f x y u v p q)

  pub fmod_settled : (x y : ℕ) → o x y ≡ fmod_of f x y
  fmod_settled x y = fmod_by x y (kind f x) (kind f y) refl refl

-- ---- modf and its whole part
module _ (f : Format) (g : Fair f) (o w : ℕ → ℕ) (rows : ModfRows f o w) (rule : (x u : ℕ) → kind f x ≡ finite u → Parted f x (o x) (w x)) where
  modf_by_lem : (x : ℕ) (k : Kind) → kind f x ≡ k → (o x ≡ modf_of f x) × (w x ≡ modf_whole f x)
  modf_by_lem x nan h = both (rows.of_nan x h) ((modf_rows f).of_nan x h)
  modf_by_lem x infinite h = both (rows.of_infinity x h) ((modf_rows f).of_infinity x h)
  modf_by_lem x (finite u) h = modf_only f x (o x) (modf_of f x) (w x) (modf_whole f x) (rule x u h) (modf_is f g x u h)

  pub modf_settled : (x : ℕ) → (o x ≡ modf_of f x) × (w x ≡ modf_whole f x)
  modf_settled x = modf_by_lem x (kind f x) refl

-- ---- remquo and its quotient
module _ (f : Format) (o : ℕ → ℕ → ℕ) (n : ℕ → ℕ → ℤ) (rows : RemquoRows f o n)
    (rule : (x y u v : ℕ) → kind f x ≡ finite u → kind f y ≡ finite (suc v) → NearestLeft f x y (o x y) (n x y)) where
  remquo_by : (x y : ℕ) (k l : Kind) → kind f x ≡ k → kind f y ≡ l → (o x y ≡ remquo_of f x y) × (n x y ≡ quotient_of f x y)
  remquo_by x y nan l p q = both (rows.nan_x x y p) ((remquo_rows f).nan_x x y p)
  remquo_by x y infinite l p q = both (rows.infinite_x x y p) ((remquo_rows f).infinite_x x y p)
  remquo_by x y (finite u) nan p q = both (rows.nan_y x y q) ((remquo_rows f).nan_y x y q)
  remquo_by x y (finite u) infinite p q = both (rows.infinite_y x y u p q) ((remquo_rows f).infinite_y x y u p q)
  remquo_by x y (finite u) (finite zero) p q = both (rows.zero_y x y q) ((remquo_rows f).zero_y x y q)
  remquo_by x y (finite u) (finite (suc v)) p q =
      let l : 0 < units f (magnitude f y) = omega (arith, (finite_is f y (suc v) q).counts) in
      remquo_only f x y (o x y) (remquo_of f x y) (n x y) (quotient_of f x y) l (rule x y u v p q) (remquo_is f x y u v p q)

  pub remquo_settled : (x y : ℕ) → (o x y ≡ remquo_of f x y) × (n x y ≡ quotient_of f x y)
  remquo_settled x y = remquo_by x y (kind f x) (kind f y) refl refl

-- ---- nextafter
module _ (f : Format) (o : ℕ → ℕ → ℕ) (rows : NextafterRows f o) (rule : (x y : ℕ) → Ordered f x → Ordered f y → Next f x y (o x y)) where
  pub next_settled : (x y : ℕ) → Pattern f x → Pattern f y → o x y ≡ nextafter_of f x y
  next_settled x y p q =
      by_nan f x p
      (λ e. same (rows.nan_x x y e) ((next_rows f).nan_x x y e))
      (λ i. by_nan f y q
      (λ e. same (rows.nan_y x y e) ((next_rows f).nan_y x y e))
      (λ j. next_only f x y (o x y) (nextafter_of f x y) i j (rule x y i j) (next_is f x y i j)))

-- ---- ilogb
module _ (f : Format) (g : Fair f) (o : ℕ → ℤ) (rows : IlogbRows f o) (rule : (x u : ℕ) → kind f x ≡ finite (suc u) → Leads f x (o x)) where
  ilogb_by_lem : (x : ℕ) (k : Kind) → kind f x ≡ k → o x ≡ ilogb_of f x
  ilogb_by_lem x nan h = same (rows.of_nan x h) ((ilogb_rows f).of_nan x h)
  ilogb_by_lem x infinite h = same (rows.of_infinity x h) ((ilogb_rows f).of_infinity x h)
  ilogb_by_lem x (finite zero) h = same (rows.of_zero x h) ((ilogb_rows f).of_zero x h)
  ilogb_by_lem x (finite (suc u)) h = ilogb_only f x (o x) (ilogb_of f x) (rule x u h) (ilogb_is f g x u h)

  pub ilogb_settled : (x : ℕ) → o x ≡ ilogb_of f x
  ilogb_settled x = ilogb_by_lem x (kind f x) refl

-- ---- frexp and its exponent
module _ (f : Format) (g : Fair f) (three : 3 ≤ f.expo) (o : ℕ → ℕ) (e : ℕ → ℤ) (rows : FrexpRows f o e)
    (rule : (x u : ℕ) → Pattern f x → kind f x ≡ finite (suc u) → Broken f x (o x) (e x)) where
  frexp_by_lem : (x : ℕ) → Pattern f x → (k : Kind) → kind f x ≡ k → (o x ≡ frexp_of f x) × (e x ≡ frexp_exponent f x)
  frexp_by_lem x p nan h = both (rows.of_nan x h) ((frexp_rows f).of_nan x h)
  frexp_by_lem x p infinite h = both (rows.of_infinity x h) ((frexp_rows f).of_infinity x h)
  frexp_by_lem x p (finite zero) h = both (rows.of_zero x h) ((frexp_rows f).of_zero x h)
  frexp_by_lem x p (finite (suc u)) h = frexp_only f x (o x) (frexp_of f x) (e x) (frexp_exponent f x) (rule x u p h) (frexp_is f g three x u p h)

  pub frexp_settled : (x : ℕ) → Pattern f x → (o x ≡ frexp_of f x) × (e x ≡ frexp_exponent f x)
  frexp_settled x p = frexp_by_lem x p (kind f x) refl
