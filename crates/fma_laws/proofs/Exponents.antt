-- The exponents of the terms of a fused sum, in steps of 2 ^ -(2 frac + 1): ax + ay for the product, az + frac + low for the third number. Assumes nothing.
use Prim.Native.Nat.{ℕ, suc, ◌+◌, ◌*◌, ◌^◌}
use mathlib.Core.Path.{◌≡◌}
use native.Mathlib.Nat.{two-pow-succ, mul-le-mul}
use native.Mathlib.Omega.{arith}
use lib.Pow.{pow-add}
use lib.IntN.{ℤ, pos, ◌+ℤ◌}
use Rattle.algebra.proofs.Products.{times}
use Rattle.algebra.proofs.Integers.{up, dn, add_z, sub_z, eq_z_fact}
use Rattle.ieee.specs.Format.{Format, low, units}
use Rattle.ieee.specs.Pattern.{magnitude}
use Rattle.fmt_decode.specs.Significand.{sig_of, exp_of}
use Rattle.fmt_decode.proofs.Significands.{Normal}
use Rattle.fma_laws.specs.Aligned.{down_by}
use Rattle.fma_laws.specs.Fused.{product_sig, third_sig, above_by, fused_exp}
use Rattle.fma_laws.proofs.Alignment.{Sized}

module _ (f : Format) (x ax : ℕ) (n : Normal f x ax) where
  -- a number is sig_of f x times 2 ^ (ax - (frac + low))
  pub norm_exp_is : up (exp_of f x) + (f.frac + low f) ≡ dn (exp_of f x) + ax
  norm_exp_is = omega (arith, eq_z_fact n.exponent, sub_z (pos ax) (pos (f.frac + low f)))

-- the power of two that makes the counts whole, doubled
abbrev pub finer : Format → ℕ
finer f = suc (f.frac + f.frac)

pub finer_is : (f : Format) → 2 ^ finer f ≡ 2 * 2 ^ f.frac * 2 ^ f.frac
finer_is f = omega (arith, two-pow-succ (f.frac + f.frac), pow-add 2 f.frac f.frac)

module _ (f : Format) (x y ax ay : ℕ) (nx : Normal f x ax) (ny : Normal f y ay) where
  pub product_exp_lem : up (exp_of f x +ℤ exp_of f y) + (f.frac + low f + (f.frac + low f)) ≡ dn (exp_of f x +ℤ exp_of f y) + (ax + ay)
  product_exp_lem = omega (arith, add_z (exp_of f x) (exp_of f y), norm_exp_is f x ax nx, norm_exp_is f y ay ny)

  pub product_counts : units f (magnitude f x) * units f (magnitude f y) * 2 ^ (f.frac + f.frac) ≡ sig_of f x * sig_of f y * 2 ^ (ax + ay)
  product_counts =
      let both : units f (magnitude f x) * 2 ^ f.frac * (units f (magnitude f y) * 2 ^ f.frac) ≡ sig_of f x * 2 ^ ax * (sig_of f y * 2 ^ ay) =
      (λ i. nx.counts i * ny.counts i) in
      omega (arith, both, times (sig_of f x * sig_of f y) (pow-add 2 ax ay), times (units f (magnitude f x) * units f (magnitude f y)) (pow-add 2 f.frac f.frac))

  pub product_whole : units f (magnitude f x) * units f (magnitude f y) * 2 ^ finer f ≡ product_sig f x y * 2 ^ (ax + ay)
  product_whole = omega (arith, times (units f (magnitude f x) * units f (magnitude f y)) (two-pow-succ (f.frac + f.frac)), product_counts)

module _ (f : Format) (z az : ℕ) (nz : Normal f z az) where
  pub third_whole : units f (magnitude f z) * 2 ^ low f * 2 ^ finer f ≡ third_sig f z * 2 ^ (az + (f.frac + low f))
  third_whole =
      omega (
        arith,
        times (units f (magnitude f z) * 2 ^ low f) (finer_is f),
        times (2 * 2 ^ f.frac * 2 ^ low f) nz.counts,
        times (sig_of f z) (pow-add 2 az (f.frac + low f)),
        times (sig_of f z * 2 ^ az) (pow-add 2 f.frac (low f)),
      )

module _ (f : Format) (x y z ax ay az : ℕ) (nx : Normal f x ax) (ny : Normal f y ay) (nz : Normal f z az) where
  pub above_is : up (above_by f x y z) + (ax + ay) ≡ dn (above_by f x y z) + (az + (f.frac + low f))
  above_is = omega (arith, sub_z (exp_of f z) (exp_of f x +ℤ exp_of f y), norm_exp_is f z az nz, product_exp_lem f x y ax ay nx ny)

  pub fused_exp_lem : (l : ℕ) → up (fused_exp f l x y z) + (low f + finer f) ≡ dn (fused_exp f l x y z) + (ax + ay + down_by l (above_by f x y z))
  fused_exp_lem l =
      let xy : ℤ = exp_of f x +ℤ exp_of f y in
      let k : ℕ = down_by l (above_by f x y z) in
      omega (arith, sub_z (xy +ℤ pos k +ℤ pos (low f)) (pos 1), add_z (xy +ℤ pos k) (pos (low f)), add_z xy (pos k), product_exp_lem f x y ax ay nx ny)

  pub sized : Sized (2 ^ f.frac) (product_sig f x y) (third_sig f z)
  sized =
      record {
        even_p = omega arith;
        even_q = omega arith;
        least_p = omega (arith, mul-le-mul nx.least ny.least);
        most_p = omega (arith, mul-le-mul nx.most ny.most);
        least_q = omega (arith, nz.least);
        most_q = omega (arith, nz.most);
      }
