-- Wide enough: every value but zero lies among the normal numbers of some wider format, where no bound of the exponent affects it. Assumes nothing.
use Prim.Native.Nat.{ℕ, zero, suc, ◌+◌, ◌-◌, ◌*◌, ◌^◌, ◌≤◌, ◌<◌}
use mathlib.Core.Path.{◌≡◌, sym, ap, ◌∙◌}
use native.Mathlib.Nat.{two-pow-succ, mul-le-mul}
use native.Mathlib.Omega.{arith}
use lib.Pow.{pow-add, pow_pos, pow_mono}
use Rattle.algebra.proofs.Products.{times_le}
use Rattle.algebra.proofs.Powers.{pow_diff}
use Rattle.ieee.specs.Format.{Format, Fair, units}
use Rattle.ieee.specs.Exact.{Exact, ratio, root, Under}
use Rattle.ieee.specs.Flags.{wider, finer, largest, least_normal}
use Rattle.ieee.specs.FlagsRule.{Inside}
use Rattle.ieee.proofs.Units.{units_at_lem, units_mono}
use Rattle.ieee.proofs.Sides.{Sound}
use Rattle.ieee.proofs.Wider.{finer_is}

pub below_power : (n : ℕ) → n < 2 ^ n
below_power zero = omega arith
below_power (suc n) = omega (arith, below_power n, two-pow-succ n)

module _ (f : Format) (g : Fair f) (k : ℕ) (l : 1 ≤ k) where
  abbrev a : ℕ
  a = 2 ^ (f.expo - 1)

  two_below : 2 ≤ a
  two_below = pow_mono {i = 1} {j = f.expo - 1} (omega (arith, g.expo_two))

  -- the exponents rise by more than k, and leave as many above
  rise : a * 2 ^ k ≡ finer f k + a
  rise =
      let e : f.expo - 1 + k ≡ f.expo + k - 1 = omega (arith, g.expo_two) in
      sym (pow-add 2 (f.expo - 1) k) ∙ ap (λ n. 2 ^ n) e ∙ sym (finer_is f g k l)

  k_below : k ≤ finer f k
  k_below = omega (arith, rise, below_power k, two_below, times_le {a = 2} {b = a} (2 ^ k) two_below, times_le {a = 1} {b = 2 ^ k} a (pow_pos k), split)
    where
      split : a + k ≤ a * 2 ^ k
      split = let p = times_le {a = suc k} {b = 2 ^ k} a (below_power k) in let q = times_le {a = 1} {b = a} k (omega (arith, two_below)) in omega arith

  top : 2 ^ (f.expo + k) ≡ 2 * (finer f k + a)
  top = sym (pow_diff {a = f.expo + k} {b = 1} (omega (arith, g.expo_two))) ∙ omega (arith, finer_is f g k l)

  least_units : units (wider f k) (least_normal (wider f k)) ≡ 2 ^ f.frac
  least_units = ap (units (wider f k)) (omega arith) ∙ units_at_lem (wider f k) 1 0 (pow_pos f.frac) ∙ omega arith

  last : ℕ
  last = 2 ^ (f.expo + k) - 3

  last_is : last + 3 ≡ 2 * (finer f k + a)
  unfolding last
  last_is = omega (arith, top, two_below)

  largest_units : 2 ^ f.frac * 2 ^ last ≤ units (wider f k) (largest (wider f k))
  largest_units =
      let c = times_le {a = suc (suc last)} {b = 2 ^ (f.expo + k) - 1} (2 ^ f.frac) (omega (arith, top, last_is)) in
      let i : suc last * 2 ^ f.frac + 0 ≤ largest (wider f k) = omega (arith, pow_pos f.frac) in
      omega (arith, units_mono (wider f k) i, units_at_lem (wider f k) (suc last) 0 (pow_pos f.frac))

  -- a number below 2 ^ k is below the largest there
  room : (n : ℕ) → n ≤ k → n * 2 ^ finer f k ≤ units (wider f k) (largest (wider f k))
  room n h =
      let p = times_le {a = n} {b = 2 ^ n} (2 ^ finer f k) (omega (arith, below_power n)) in
      let q = pow-add 2 n (finer f k) in
      let r = pow_mono {i = n + finer f k} {j = f.frac + last} (omega (arith, last_is, k_below, two_below, g.frac_pos)) in
      omega (arith, pow-add 2 f.frac last, largest_units)

  -- and one over d is at least the least normal number there
  depth : (d : ℕ) → d + f.frac ≤ k → 2 ^ f.frac * d ≤ 2 ^ finer f k
  depth d h =
      let p = times_le {a = d} {b = 2 ^ d} (2 ^ f.frac) (omega (arith, below_power d)) in
      omega (arith, pow-add 2 d f.frac, pow_mono {i = d + f.frac} {j = finer f k} (omega (arith, k_below)))

  inside_ratio : (n d : ℕ) → 0 < n → 0 < d → n ≤ k → d + f.frac ≤ k → Inside f k (ratio n d)
  inside_ratio n d p q h i =
      let c = times_le {a = 1} {b = n} (2 ^ finer f k) p in
      let e = times_le {a = 1} {b = d} (units (wider f k) (largest (wider f k))) q in
      record { more = l; normal = rw least_units (omega (arith, depth d i)); finite = omega (arith, room n h) }

  inside_root : (n : ℕ) → 0 < n → n ≤ k → 1 + f.frac ≤ k → Inside f k (root n)
  inside_root n p h i =
      let b = depth 1 i in
      let c : 2 ^ f.frac ≤ 2 ^ finer f k = omega arith in
      let s = mul-le-mul c c in
      let u = times_le {a = 1} {b = n} (2 ^ finer f k * 2 ^ finer f k) p in
      let r = mul-le-mul (room n h) (room n h) in
      let v = times_le {a = 1} {b = n} (n * (2 ^ finer f k * 2 ^ finer f k)) p in
      record { more = l; normal = rw least_units (omega arith); finite = omega arith }

pub wide_enough : (f : Format) → Fair f → (x : Exact) → Sound x → (Under x 0 → ⊥) → (k : ℕ) × Inside f k x
wide_enough f g (ratio n d) s z = (n + d + f.frac, inside_ratio f g (n + d + f.frac) (omega arith) n d (omega arith) s (omega arith) (omega arith))
wide_enough f g (root n) s z = (n + 1 + f.frac, inside_root f g (n + 1 + f.frac) (omega arith) n (omega arith) (omega arith) (omega arith))
