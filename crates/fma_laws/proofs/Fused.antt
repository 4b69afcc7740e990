-- fma of nonzero numbers is its count of steps, rounded once; where the third number is zero, it is the product, rounded once. Assumes nothing.
use Prim.Native.Nat.{ℕ, ◌+◌, ◌*◌, ◌^◌, ◌≤◌, ◌<◌}
use mathlib.Core.Path.{◌≡◌, sym, ap, ◌∙◌, subst}
use mathlib.Core.Bool.{Bool, true, false}
use native.Mathlib.Nat.{mul-le-mul}
use native.Mathlib.Omega.{arith}
use lib.Pow.{pow_pos}
use lib.IntN.{ℤ, pos, ◌+ℤ◌, ◌-ℤ◌, ◌*ℤ◌}
use Rattle.algebra.proofs.Products.{times, times_le}
use Rattle.algebra.proofs.Integers.{add_z, sub_z, eq_z}
use Rattle.ieee.specs.Format.{Format, Fair, top, low, inf, units}
use Rattle.ieee.specs.Pattern.{minus, magnitude, signed, unlike, with_sign, value}
use Rattle.ieee.specs.Exact.{dyadic}
use Rattle.ieee.specs.Round.{Attribute, ties_to_even, ties_to_away, toward_zero, toward_positive, toward_negative}
use Rattle.ieee.specs.Flags.{none}
use Rattle.ieee.specs.FlagsRule.{Exactly}
use Rattle.ieee.specs.Scalbn.{scaled}
use Rattle.ieee.specs.Fma.{fma_in, fma_flags_in, exact_fma, zero_sum, zero_sign, product_sign, against}
use Rattle.ieee.specs.FmaRows.{Down}
use Rattle.ieee.proofs.Units.{units_zero, units_lt}
use Rattle.ieee.proofs.Patterns.{magnitude_signed, value_is, value_signed, kind_finite}
use Rattle.ieee.proofs.Signs.{signed_times, signed_product, signed_zero}
use Rattle.ieee.proofs.Fmas.{fma_answer, fma_rows}
use Rattle.ieee.proofs.FmaFlags.{fma_flags_lem, fma_flags_rule}
use Rattle.round_step.specs.Outcome.{outcome}
use Rattle.round_step.proofs.Outcomes.{moved_outcome}
use Rattle.fmt_decode.specs.Significand.{sig_of, exp_of}
use Rattle.fmt_decode.proofs.Significands.{Normal, normal_is}
use Rattle.fmt_decode.proofs.Asides.{Ordinary}
use Rattle.fma_laws.specs.Aligned.{joined, joined_sign}
use Rattle.fma_laws.specs.Fused.{product_sig, third_sig, above_by, fused_steps, fused_sign, fused_exp, zero_in, fma_gives}
use Rattle.fma_laws.proofs.Sums.{sum_signed, sign_first}
use Rattle.fma_laws.proofs.Forms.{finer_outcome, counted_outcome}
use Rattle.fma_laws.proofs.Joined.{Terms, sum_none, sum_sign_lem, sum_outcome}
use Rattle.fma_laws.proofs.Exponents.{finer, product_exp_lem, product_counts, product_whole, third_whole, above_is, fused_exp_lem, sized}

-- ---- the exact sum of three finite numbers: the product and the third number in 2 ^ -low of the smallest unit, their sum, and its sign
abbrev first : Format → ℕ → ℕ → ℕ
first f x y = units f (magnitude f x) * units f (magnitude f y)

abbrev second : Format → ℕ → ℕ
second f z = units f (magnitude f z) * 2 ^ low f

abbrev total : Format → ℕ → ℕ → ℕ → ℕ
total f x y z = joined (against f x y z) (first f x y) (second f z)

abbrev total_sign : Format → ℕ → ℕ → ℕ → Bool
total_sign f x y z = joined_sign (product_sign f x y) (minus f z) (first f x y) (second f z)

-- the zero of terms that cancel, by the two rows that say it
pub zero_by_row : (f : Format) (a : Attribute) {n : ℕ} → ((Down a → ⊥) → n ≡ 0) → (Down a → n ≡ signed f true 0) → n ≡ zero_in f a
zero_by_row f ties_to_even other down = other (λ d. d)
zero_by_row f ties_to_away other down = other (λ d. d)
zero_by_row f toward_zero other down = other (λ d. d)
zero_by_row f toward_positive other down = other (λ d. d)
zero_by_row f toward_negative other down = down tt

-- a zero of either sign
module _ (f : Format) (s : Bool) where
  pub room : 0 < top f
  room = pow_pos (f.frac + f.expo)

  pub zero_times : value f (signed f s 0) *ℤ pos (2 ^ low f) ≡ pos 0
  zero_times =
      (λ i. (value_signed f s 0 room ∙ ap (with_sign s) (units_zero f) ∙ signed_zero s) i *ℤ pos (2 ^ low f)) ∙ signed_times false 0 (2 ^ low f) ∙ ap pos (omega arith)

module _ (f : Format) (a : Attribute) (x y z : ℕ) where
  numerator : value f x *ℤ value f y +ℤ value f z *ℤ pos (2 ^ low f) ≡ with_sign (total_sign f x y z) (total f x y z)
  numerator =
      let p = signed_product (minus f x) (minus f y) (units f (magnitude f x)) (units f (magnitude f y)) in
      let q = signed_times (minus f z) (units f (magnitude f z)) (2 ^ low f) in
      (λ i. value_is f x i *ℤ value_is f y i +ℤ value_is f z i *ℤ pos (2 ^ low f))
      ∙ (λ i. p i +ℤ q i)
      ∙ sum_signed (product_sign f x y) (minus f z) (first f x y) (second f z)

  module _ (p : magnitude f x < inf f) (q : magnitude f y < inf f) (r : magnitude f z < inf f) where
    total_gives : fma_gives f a x y z ≡ outcome f a (zero_sign f a x y z) (dyadic (with_sign (total_sign f x y z) (total f x y z)) (low f))
    total_gives =
        let values = fma_answer f a x y z (units f (magnitude f x)) (units f (magnitude f y)) (units f (magnitude f z)) (kind_finite f x p) (kind_finite f y q) (kind_finite f z r) in
        let flags = fma_flags_lem f a x y z (units f (magnitude f x)) (units f (magnitude f y)) (units f (magnitude f z)) (kind_finite f x p) (kind_finite f y q) (kind_finite f z r) in
        (λ i. (values i, flags i)) ∙ ap (λ n. outcome f a (zero_sign f a x y z) (dyadic n (low f))) numerator

    none_left : total f x y z ≡ 0 → value f x *ℤ value f y +ℤ value f z *ℤ pos (2 ^ low f) ≡ pos 0
    none_left e = numerator ∙ ap (with_sign (total_sign f x y z)) e ∙ signed_zero (total_sign f x y z)

    total_zero : 0 < first f x y → total f x y z ≡ 0 → fma_in f a x y z ≡ zero_in f a
    total_zero l e =
        let row = fma_rows f a x y z in
        let u = units f (magnitude f x) in
        let v = units f (magnitude f y) in
        let w = units f (magnitude f z) in
        zero_by_row f a
        (row.zero_sum u v w (kind_finite f x p) (kind_finite f y q) (kind_finite f z r) l (none_left e))
        (row.zero_sum_down u v w (kind_finite f x p) (kind_finite f y q) (kind_finite f z r) l (none_left e))

    total_silent : Fair f → 0 < first f x y → total f x y z ≡ 0 → fma_flags_in f a x y z ≡ none
    total_silent g l e =
        (fma_flags_rule f g a x y z (units f (magnitude f x)) (units f (magnitude f y)) (units f (magnitude f z)) (kind_finite f x p) (kind_finite f y q) (kind_finite f z r)
        ).exact_none (subst (Exactly f (exact_fma f x y z)) (sym (total_zero l e)) (omega (arith, magnitude_signed f (zero_sum a) 0 (room f true), p), none_left e ∙ sym (zero_times f (zero_sum a))))

    total_none : Fair f → 0 < first f x y → total f x y z ≡ 0 → fma_gives f a x y z ≡ (zero_in f a, none)
    total_none g l e = λ i. (total_zero l e i, total_silent g l e i)

-- the product of nonzero numbers is nonzero
product_some : (f : Format) (x y : ℕ) → Ordinary f x → Ordinary f y → 0 < first f x y
product_some f x y ox oy = omega (arith, mul-le-mul (units_lt f ox.least) (units_lt f oy.least))

-- ---- its count of steps
module _ (f : Format) (g : Fair f) (a : Attribute) (l x y z : ℕ) (ox : Ordinary f x) (oy : Ordinary f y) (oz : Ordinary f z) where
  fused_terms : (ax ay az : ℕ) → Normal f x ax → Normal f y ay → Normal f z az
      → Terms (2 ^ f.frac) (product_sig f x y) (third_sig f z) (ax + ay) (az + (f.frac + low f)) (first f x y) (second f z) (finer f) (above_by f x y z)
  fused_terms ax ay az nx ny nz =
      record {
        sizes = sized f x y z ax ay az nx ny nz;
        first = product_whole f x y ax ay nx ny;
        second = third_whole f z az nz;
        above = above_is f x y z ax ay az nx ny nz;
      }

  -- a zero sum of nonzero terms
  pub fused_none : fused_steps f l x y z ≡ 0 → fma_gives f a x y z ≡ (zero_in f a, none)
  fused_none e =
      let (ax, nx) = normal_is f g x ox.least in
      let (ay, ny) = normal_is f g y oy.least in
      let (az, nz) = normal_is f g z oz.least in
      total_none f a x y z ox.most oy.most oz.most g (product_some f x y ox oy) (sum_none l (fused_terms ax ay az nx ny nz) (against f x y z) e)

  -- any other rounds as its count does
  pub fused_own : 2 ≤ f.frac → 2 + f.frac ≤ l → 0 < fused_steps f l x y z
      → fma_gives f a x y z ≡ outcome f a (fused_sign f l x y z) (scaled (fused_sign f l x y z) (fused_steps f l x y z) (fused_exp f l x y z))
  fused_own two room some =
      let (ax, nx) = normal_is f g x ox.least in
      let (ay, ny) = normal_is f g y oy.least in
      let (az, nz) = normal_is f g z oz.least in
      let t = fused_terms ax ay az nx ny nz in
      let at = fused_exp_lem f x y z ax ay az nx ny nz l in
      let c = zero_sign f a x y z in
      total_gives f a x y z ox.most oy.most oz.most
      ∙ ap (λ b. outcome f a c (dyadic (with_sign b (total f x y z)) (low f))) (sum_sign_lem l t (product_sign f x y) (minus f z) some)
      ∙ sum_outcome f g a l (low f) (fused_exp f l x y z) two room t at (against f x y z) c (fused_sign f l x y z) some

-- ---- the product alone
pub joined_nothing : (u : Bool) (a : ℕ) → joined u a 0 ≡ a
joined_nothing false a = omega arith
joined_nothing true a = omega arith

module _ (f : Format) (g : Fair f) (a : Attribute) (x y z : ℕ) (ox : Ordinary f x) (oy : Ordinary f y) (none : magnitude f z ≡ 0) where
  no_second : second f z ≡ 0
  no_second = omega (arith, times (2 ^ low f) (ap (units f) none ∙ units_zero f))

  total_first : total f x y z ≡ first f x y
  total_first = ap (joined (against f x y z) (first f x y)) no_second ∙ joined_nothing (against f x y z) (first f x y)

  sign_product : total_sign f x y z ≡ product_sign f x y
  sign_product = sign_first (product_sign f x y) (minus f z) (first f x y) (second f z) (omega (arith, no_second))

  -- a product that rounds to zero keeps its sign
  pub product_alone : fma_gives f a x y z
      ≡ outcome f a (unlike (minus f x) (minus f y)) (scaled (unlike (minus f x) (minus f y)) (sig_of f x * sig_of f y) (exp_of f x +ℤ exp_of f y +ℤ pos (low f)))
  product_alone =
      let (ax, nx) = normal_is f g x ox.least in
      let (ay, ny) = normal_is f g y oy.least in
      let s = product_sign f x y in
      let c = zero_sign f a x y z in
      let k : ℕ = f.frac + f.frac in
      let n : ℤ = exp_of f x +ℤ exp_of f y +ℤ pos (low f) in
      let some : 0 < first f x y = product_some f x y ox oy in
      total_gives f a x y z ox.most oy.most (omega (arith, ox.most))
      ∙ (λ i. outcome f a c (dyadic (with_sign (sign_product i) (total_first i)) (low f)))
      ∙ finer_outcome f g a c s (first f x y) (low f) k some
      ∙ counted_outcome f g a c s (first f x y * 2 ^ k) (sig_of f x * sig_of f y) (ax + ay) (low f + k) n
      (omega (arith, times_le (2 ^ k) some, pow_pos k))
      (omega (arith, add_z (exp_of f x +ℤ exp_of f y) (pos (low f)), product_exp_lem f x y ax ay nx ny))
      (product_counts f x y ax ay nx ny)

  -- the same for twice the product
  pub product_twice : fma_gives f a x y z
      ≡ outcome f a (unlike (minus f x) (minus f y)) (scaled (unlike (minus f x) (minus f y)) (product_sig f x y) (exp_of f x +ℤ exp_of f y +ℤ pos 0 +ℤ pos (low f) -ℤ pos 1))
  product_twice =
      let s = unlike (minus f x) (minus f y) in
      let b = exp_of f x +ℤ exp_of f y in
      let k = b +ℤ pos (low f) in
      let m = b +ℤ pos 0 +ℤ pos (low f) -ℤ pos 1 in
      let e : product_sig f x y ≡ sig_of f x * sig_of f y * 2 ^ 1 = omega arith in
      let n : m +ℤ pos 1 ≡ k = eq_z (m +ℤ pos 1) k (omega (arith, add_z m (pos 1), sub_z (b +ℤ pos 0 +ℤ pos (low f)) (pos 1), add_z (b +ℤ pos 0) (pos (low f)), add_z b (pos 0), add_z b (pos (low f)))) in
      product_alone
      ∙ sym (ap (λ v. outcome f a s (scaled s v m)) e ∙ moved_outcome f g a s (sig_of f x * sig_of f y) 1 m ∙ ap (λ v. outcome f a s (scaled s (sig_of f x * sig_of f y) v)) n)
