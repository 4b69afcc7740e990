-- A format with more exponent bits: its numbers beside those of f, and the rounding of a value there. Assumes nothing.
use Prim.Native.Nat.{ℕ, zero, suc, ◌+◌, ◌-◌, ◌*◌, ◌/◌, ◌%◌, ◌^◌, ◌≤◌, ◌<◌}
use mathlib.Core.Path.{◌≡◌, sym, ap, ◌∙◌}
use mathlib.Core.Logic.{◌↔◌}
use native.Mathlib.Omega.{arith, by_contra}
use lib.Pow.{pow-add, pow_pos, pow_mono, pow-lt}
use Rattle.algebra.proofs.Products.{times as multiplied, times_le, mul_le_cancel}
use Rattle.algebra.proofs.Powers.{pow_diff}
use Rattle.algebra.proofs.Quotients.{div_mod}
use Rattle.ieee.specs.Format.{Format, Fair, inf, units}
use Rattle.ieee.specs.Exact.{Exact, ratio, root, Over, Under, magnified}
use Rattle.ieee.specs.Round.{Way, even, away, shorter, longer, rounded, middle}
use Rattle.ieee.specs.Flags.{wider, finer}
use Rattle.ieee.proofs.Units.{units_at_lem}
use Rattle.ieee.proofs.Sides.{Sound}
use Rattle.ieee.proofs.Past.{Passes, Past, past_down, rounded_past, rounded_not_past}

-- ---- a value whose rounding is at least k has passed k
pub at_least : (f : Format) (w : Way) (x : Exact) → Sound x → (k : ℕ) → (k ≤ rounded f w x) ↔ Past f w x k
at_least f w x s k = (
  λ h. past_down f w x s k (rounded f w x) h (rounded_past f w x),
  λ p. by_contra k (rounded f w x) (λ h. rounded_not_past f w x (past_down f w x s (suc (rounded f w x)) k h p)),
)

-- ---- a value and a number, both times p
pub magnified_beside : (x : Exact) (s p : ℕ) → 0 < p → (Over (magnified x p) (s * p) ↔ Over x s) × (Under (magnified x p) (s * p) ↔ Under x s)
magnified_beside (ratio n d) s p l = (
  (λ h. mul_le_cancel (s * d) (2 * n) p l (omega arith), λ h. omega (arith, times_le p h)),
  (λ h. mul_le_cancel (2 * n) (s * d) p l (omega arith), λ h. omega (arith, times_le p h)),
)
magnified_beside (root n) s p l =
    let q = times_le {a = 1} {b = p} p l in (
      (λ h. mul_le_cancel (s * s) (4 * n) (p * p) (omega arith) (omega arith), λ h. omega (arith, times_le (p * p) h)),
      (λ h. mul_le_cancel (4 * n) (s * s) (p * p) (omega arith) (omega arith), λ h. omega (arith, times_le (p * p) h)),
    )

pub magnified_sound : (x : Exact) (p : ℕ) → Sound x → Sound (magnified x p)
magnified_sound (ratio n d) p s = s
magnified_sound (root n) p s = tt

pub magnified_twice : (x : Exact) (p q : ℕ) → magnified x (p * q) ≡ magnified (magnified x p) q
magnified_twice (ratio n d) p q = ap (λ c. ratio c d) (omega arith)
magnified_twice (root n) p q = ap root (omega arith)

-- ---- x is at or past the point from which on, with no bound above, the answer is at least suc j
abbrev pub Reaches : Format → Way → Exact → ℕ → Type 0
Reaches f even x j = Over x (middle f j) × (Under x (middle f j) → suc j % 2 ≡ 0)
Reaches f away x j = Over x (middle f j)
Reaches f shorter x j = Over x (2 * units f (suc j))
Reaches f longer x j = Under x (2 * units f j) → ⊥

pub passes_reaches : (f : Format) (w : Way) (x : Exact) (j : ℕ) → (suc j ≡ inf f → ⊥) → Passes f w x j ↔ Reaches f w x j
passes_reaches f even x j n = (λ p. p, λ p. p)
passes_reaches f away x j n = (λ p. p, λ p. p)
passes_reaches f shorter x j n = (λ p. p.0, λ p. (p, n))
passes_reaches f longer x j n = (λ p. p, λ p. p)

-- two formats whose numbers, at i and j and the next, differ by a factor p
module _ (f e : Format) (p : ℕ) (l : 0 < p) (i j : ℕ) (u : units e j ≡ units f i * p) (v : units e (suc j) ≡ units f (suc i) * p)
    (q : suc i % 2 ≡ 0) (r : suc j % 2 ≡ 0) where
  over_moved : (x : Exact) (a b : ℕ) → b ≡ a * p → Over (magnified x p) b ↔ Over x a
  over_moved x a b h = rw h (magnified_beside x a p l).0

  under_moved : (x : Exact) (a b : ℕ) → b ≡ a * p → Under (magnified x p) b ↔ Under x a
  under_moved x a b h = rw h (magnified_beside x a p l).1

  middle_moved : middle e j ≡ middle f i * p
  middle_moved = omega (arith, u, v)

  pub reaches_moved : (w : Way) (x : Exact) → Reaches e w (magnified x p) j ↔ Reaches f w x i
  reaches_moved even x = let o = over_moved x (middle f i) (middle e j) middle_moved in (λ h. (o.0 h.0, λ _. q), λ h. (o.1 h.0, λ _. r))
  reaches_moved away x = over_moved x (middle f i) (middle e j) middle_moved
  reaches_moved shorter x = over_moved x (2 * units f (suc i)) (2 * units e (suc j)) (omega (arith, v))
  reaches_moved longer x = let o = under_moved x (2 * units f i) (2 * units e j) (omega (arith, u)) in (λ h n. h (o.1 n), λ h n. h (o.0 n))

-- ---- the numbers of the wider format
fits_by : (a b p q d : ℕ) → 0 < a → a * 2 ^ 1 ≡ p → b * 2 ^ 1 ≡ q → d + a ≡ b → 0 < d → p - 1 + d < q - 1
fits_by a b p q d l i j k m = omega arith

module _ (f : Format) (g : Fair f) (k : ℕ) (l : 1 ≤ k) where
  pub finer_is : finer f k + 2 ^ (f.expo - 1) ≡ 2 ^ (f.expo + k - 1)
  finer_is =
      let a = pow_mono {i = 1} {j = f.expo - 1} (omega (arith, g.expo_two)) in
      let b = pow-lt {i = f.expo - 1} {j = f.expo + k - 1} (omega (arith, g.expo_two)) in
      omega (arith, g.frac_pos)

  pub finer_pos : 0 < finer f k
  finer_pos = omega (arith, finer_is, pow-lt {i = f.expo - 1} {j = f.expo + k - 1} (omega (arith, g.expo_two)))

  -- infinity's field of f is a finite field of the wider format
  fields_fit : 2 ^ f.expo - 1 + finer f k < 2 ^ (f.expo + k) - 1
  fields_fit =
      fits_by (2 ^ (f.expo - 1)) (2 ^ (f.expo + k - 1)) (2 ^ f.expo) (2 ^ (f.expo + k)) (finer f k) (pow_pos (f.expo - 1))
      (pow_diff {a = f.expo} {b = 1} (omega (arith, g.expo_two)))
      (pow_diff {a = f.expo + k} {b = 1} (omega (arith, g.expo_two)))
      finer_is finer_pos

  pub fit : inf f + finer f k * 2 ^ f.frac < inf (wider f k)
  fit = omega (arith, times_le (2 ^ f.frac) fields_fit, pow_pos f.frac)

  -- a normal number of f is `finer` fields higher there
  pub units_shift : (m : ℕ) → 2 ^ f.frac ≤ m → units (wider f k) (m + finer f k * 2 ^ f.frac) ≡ units f m * 2 ^ finer f k
  units_shift m b = go (m / 2 ^ f.frac) (m % 2 ^ f.frac) d.0 d.1
    where
      d : (m / 2 ^ f.frac * 2 ^ f.frac + m % 2 ^ f.frac ≡ m) × (m % 2 ^ f.frac < 2 ^ f.frac)
      d = div_mod m (2 ^ f.frac) (pow_pos f.frac)

      go : (q r : ℕ) → q * 2 ^ f.frac + r ≡ m → r < 2 ^ f.frac → units (wider f k) (m + finer f k * 2 ^ f.frac) ≡ units f m * 2 ^ finer f k
      go zero r e c = absurd (omega arith)
      go (suc q) r e c =
          ap (units (wider f k)) (omega arith)
          ∙ units_at_lem (wider f k) (suc (q + finer f k)) r c
          ∙ omega (arith, multiplied (2 ^ f.frac + r) (pow-add 2 q (finer f k)))
          ∙ ap (λ c. c * 2 ^ finer f k) (sym (units_at_lem f (suc q) r c) ∙ ap (units f) e)
