-- The sizes of the counts and the exponents of a fused sum. Assumes nothing.
use Prim.Native.Nat.{ℕ, suc, ◌+◌, ◌-◌, ◌*◌, ◌^◌, ◌≤◌, ◌<◌, min}
use mathlib.Core.Path.{◌≡◌, refl}
use mathlib.Core.Bool.{Bool, true, false}
use native.Mathlib.Nat.{mul-le-mul}
use native.Mathlib.Omega.{arith}
use lib.Pow.{pow-add, pow_pos, pow_mono}
use lib.IntN.{ℤ, pos, negsuc, ◌+ℤ◌, ◌-ℤ◌}
use lib.Signed.{mag}
use Rattle.algebra.proofs.Products.{times_le}
use Rattle.algebra.proofs.Integers.{up, dn, add_z, sub_z, one_z, mag_z, mag_z_fact}
use Rattle.ieee.specs.Format.{Format, Fair}
use Rattle.fmt_fields.specs.Width.{format, Fits}
use Rattle.round_wide.proofs.Stuck.{stuck_le}
use Rattle.fmt_decode.specs.Significand.{sig_of, exp_of}
use Rattle.fmt_decode.proofs.Significands.{normal_is}
use Rattle.fmt_decode.proofs.Asides.{Ordinary}
use Rattle.fmt_decode.proofs.Ranges.{low_small, exp_in_range, range_bounds}
use Rattle.fma_laws.specs.Aligned.{product_at, third_at, down_by, joined, added_exp}
use Rattle.fma_laws.specs.Fused.{product_sig, third_sig}

-- ---- counts
pub below_pow : {n i j : ℕ} → i ≤ j → n < 2 ^ i → n < 2 ^ j
below_pow l h = omega (arith, pow_mono l)

pub product_le : (l p : ℕ) (d : ℤ) → product_at l p d ≤ p
unfolding product_at
product_le l p (pos n) = stuck_le p (n - l)
product_le l p (negsuc n) = omega arith

pub third_le : (l q : ℕ) (d : ℤ) → third_at l q d ≤ q * 2 ^ l
unfolding third_at
third_le l q (pos n) = omega (arith, times_le q (pow_mono {i = min n l} {j = l} (omega arith)))
third_le l q (negsuc n) = omega (arith, stuck_le q (suc n), times_le q (pow_pos l))

-- so their sum is below what bounds the product and the third number at its highest
pub added_below : (l p q : ℕ) (d : ℤ) {a b k : ℕ} → a ≡ product_at l p d → b ≡ third_at l q d → p + q * 2 ^ l < k → a + b < k
added_below l p q d i j u = omega (arith, product_le l p d, third_le l q d)

pub sig_most : (f : Format) (g : Fair f) (v : ℕ) → Ordinary f v → sig_of f v < 2 * 2 ^ f.frac
sig_most f g v o = let (at, n) = normal_is f g v o.least in n.most

module _ (f : Format) (g : Fair f) (x y : ℕ) (ox : Ordinary f x) (oy : Ordinary f y) where
  -- a product of significands has 2 frac + 1 bits or one more
  pub product_between : (2 ^ (f.frac + f.frac) ≤ sig_of f x * sig_of f y) × (sig_of f x * sig_of f y < 2 ^ (f.frac + f.frac + 2))
  product_between =
      let (ax, nx) = normal_is f g x ox.least in
      let (ay, ny) = normal_is f g y oy.least in
      omega (arith, mul-le-mul nx.least ny.least, mul-le-mul nx.most ny.most, pow-add 2 (f.frac + f.frac) 2, pow-add 2 f.frac f.frac)

  pub product_some : 0 < product_sig f x y
  product_some = omega (arith, product_between, pow_pos (f.frac + f.frac))

  pub product_bits : product_sig f x y < 2 ^ (f.frac + f.frac + 3)
  product_bits = omega (arith, product_between, pow-add 2 (f.frac + f.frac) 2, pow-add 2 (f.frac + f.frac) 3)

module _ (f : Format) (g : Fair f) (z : ℕ) (oz : Ordinary f z) where
  pub third_bits : third_sig f z < 2 ^ (f.frac + 2)
  third_bits = let (az, nz) = normal_is f g z oz.least in omega (arith, nz.most, pow-add 2 f.frac 2)

-- ---- exponents, in a format that fits in a word
pub down_le : (l : ℕ) (d : ℤ) → down_by l d ≤ up d
down_le l (pos n) = omega arith
down_le l (negsuc n) = omega arith

-- of the product
module _ {p e : ℕ} (w : Fits p e) (x y : ℕ) (ox : Ordinary (format p e) x) (oy : Ordinary (format p e) y) where
  product_bounds : (up (exp_of (format p e) x +ℤ exp_of (format p e) y) < 2 ^ 18) × (dn (exp_of (format p e) x +ℤ exp_of (format p e) y) < 2 ^ 18)
  product_bounds =
      let a = exp_of (format p e) x in
      let b = exp_of (format p e) y in
      omega (arith, add_z a b, one_z (a +ℤ b), range_bounds w a (exp_in_range w x ox.least refl), range_bounds w b (exp_in_range w y oy.least refl), low_small w, w.word)

  pub product_small : mag (exp_of (format p e) x +ℤ exp_of (format p e) y) < 2 ^ 18
  product_small = mag_z (exp_of (format p e) x +ℤ exp_of (format p e) y) (2 ^ 18) (omega (arith, product_bounds)) (omega (arith, product_bounds))

-- ---- of any two exponents that are small
module _ (a b : ℤ) (p : mag a < 2 ^ 18) (q : mag b < 2 ^ 18) where
  distance_bounds : (up (b -ℤ a) ≤ 2 ^ 19 - 1) × (dn (b -ℤ a) ≤ 2 ^ 19 - 1)
  distance_bounds = omega (arith, sub_z b a, one_z (b -ℤ a), mag_z_fact a p, mag_z_fact b q, one_z a, one_z b)

  pub down_less : (l : ℕ) → down_by l (b -ℤ a) < 2 ^ 19
  down_less l = omega (arith, down_le l (b -ℤ a), distance_bounds)

  pub added_exp_small : (l : ℕ) → mag (added_exp l a b) < 2 ^ 19 + 2 ^ 18
  added_exp_small l =
      let k = down_by l (b -ℤ a) in
      mag_z (a +ℤ pos k) (2 ^ 19 + 2 ^ 18) (omega (arith, add_z a (pos k), mag_z_fact a p, down_less l)) (omega (arith, add_z a (pos k), mag_z_fact a p, down_less l))

-- a sum is at most that of the magnitudes
pub joined_below : {k n : ℕ} (u : Bool) (a b : ℕ) → n ≡ joined u a b → a + b < k → n < k
joined_below false a b e l = omega arith
joined_below true a b e l = omega arith

-- the exponent of a sum folded into one word
pub folded_exp_small : (n : ℤ) (k : ℕ) → mag n < 2 ^ 19 + 2 ^ 18 → k ≤ 64 → mag (n +ℤ pos k) < 2 ^ 19 + 2 ^ 18 + 2 ^ 7
folded_exp_small n k p q =
    let bounds : (up (n +ℤ pos k) < 2 ^ 19 + 2 ^ 18 + 2 ^ 7 + dn (n +ℤ pos k)) × (dn (n +ℤ pos k) ≤ 2 ^ 19 + 2 ^ 18 + 2 ^ 7 + up (n +ℤ pos k)) = omega (arith, add_z n (pos k), mag_z_fact n p) in
    mag_z (n +ℤ pos k) (2 ^ 19 + 2 ^ 18 + 2 ^ 7) bounds.0 bounds.1
