-- The toolchain's product, sum and difference, written as patterns, are cases of our fma. Assumes nothing.
use Prim.Native.Nat.{ℕ, ◌*◌}
use mathlib.Core.Path.{◌≡◌, refl, sym, ap, ◌∙◌}
use mathlib.Core.Bool.{Bool, true, false}
use native.Mathlib.Omega.{arith}
use lib.IntN.{pos, +ℤ_idr}
use lib.Ieee.{Float, nan as their-nan, inf as their-inf, fin, Format as Theirs, binary32, binary64, neg, add, sub, mul, of_bits, to_bits}
use Rattle.ieee.specs.Format.{low}
use Rattle.ieee.specs.Pattern.{unlike}
use Rattle.ieee.specs.Fma.{fma_in, fma_of}
use Rattle.ieee_agreement_laws.specs.Toolchain.{ours, on, minus_zero, one_of, negated, product}
use Rattle.ieee_agreement_laws.proofs.Patterns.{pattern_same, negated_read}
use Rattle.ieee_agreement_laws.proofs.Products.{product_same, product_rounds}
use Rattle.ieee_agreement_laws.proofs.Sums.{add_same}

module _ (k : Theirs) where
  -- fma: the sum of the exact product and z
  pub fma_same : (x y z : ℕ) → to_bits k (add k (product (of_bits k x) (of_bits k y)) (of_bits k z)) ≡ fma_of (ours k) x y z
  unfolding fma_of fma_in
  fma_same x y z = add_same k (product_same (low (ours k)) (pattern_same k x) (pattern_same k y)) (pattern_same k z)

-- ---- z is -0
minus_zero_read : (k : Theirs) → of_bits k (minus_zero (ours k)) ≡ fin true 0 (pos 0)
unfolding of_bits
minus_zero_read binary32 = refl
minus_zero_read binary64 = refl

pub mul_same : (k : Theirs) (x y : ℕ) → on mul k x y ≡ fma_of (ours k) x y (minus_zero (ours k))
mul_same k x y =
    let p = product (of_bits k x) (of_bits k y) in
    ap (to_bits k) (product_rounds k (of_bits k x) (of_bits k y) ∙ ap (add k p) (sym (minus_zero_read k))) ∙ fma_same k x y (minus_zero (ours k))

-- ---- y is 1
one_read : (k : Theirs) → of_bits k (one_of (ours k)) ≡ fin false 1 (pos 0)
unfolding of_bits
one_read binary32 = refl
one_read binary64 = refl

pub unlike_plus : (s : Bool) → unlike s false ≡ s
unlike_plus false = refl
unlike_plus true = refl

product_one : (v : Float) → product v (fin false 1 (pos 0)) ≡ v
product_one their-nan = refl
product_one (their-inf s) = ap their-inf (unlike_plus s)
product_one (fin s m e) = let n : m * 1 ≡ m = omega arith in λ i. fin (unlike_plus s i) (n i) (+ℤ_idr e i)

pub sum_same : (k : Theirs) (x y : ℕ) → on add k x y ≡ fma_of (ours k) x (one_of (ours k)) y
sum_same k x y =
    ap (λ v. to_bits k (add k v (of_bits k y))) (sym (ap (product (of_bits k x)) (one_read k) ∙ product_one (of_bits k x)))
    ∙ fma_same k x (one_of (ours k)) y

sub_is : (k : Theirs) (v w : Float) → sub k v w ≡ add k v (neg w)
unfolding sub
sub_is k v w = refl

pub difference_same : (k : Theirs) (x y : ℕ) → on sub k x y ≡ fma_of (ours k) x (one_of (ours k)) (negated (ours k) y)
difference_same k x y =
    ap (to_bits k) (sub_is k (of_bits k x) (of_bits k y) ∙ ap (add k (of_bits k x)) (sym (negated_read k y)))
    ∙ sum_same k x (negated (ours k) y)
