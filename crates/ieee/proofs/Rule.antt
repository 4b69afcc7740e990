-- Rounding to the nearest, ties to even or away, meets the rule, and nothing else does. Assumes nothing.
use Prim.Native.Nat.{ℕ, zero, suc, ◌+◌, ◌-◌, ◌*◌, ◌%◌, ◌^◌, ◌≤◌, ◌<◌}
use mathlib.Core.Path.{◌≡◌, sym, ap, ◌∙◌, subst}
use native.Mathlib.Nat.{mul-le-mul}
use native.Mathlib.Omega.{arith, both_ways}
use lib.Pow.{pow_pos, pow_mono}
use Rattle.algebra.proofs.Products.{order, times}
use Rattle.algebra.proofs.Powers.{pow_diff}
use Rattle.ieee.specs.Format.{Format, Fair, inf, units}
use Rattle.ieee.specs.Exact.{Exact, Over, Under}
use Rattle.ieee.specs.Round.{rounded, middle}
use Rattle.ieee.specs.Rule.{AsNear, halfway, Nearest, Ties, to_even, to_away, ties_way, Preferred}
use Rattle.ieee.proofs.Units.{units_mono, units_lt, units_lt_inv, units_rise}
use Rattle.ieee.proofs.Decide.{split}
use Rattle.ieee.proofs.Sides.{Sound, under_reads, over_down, under_up, under_not_over, over_not_under}
use Rattle.ieee.proofs.Nearness.{near_by_sum}
use Rattle.ieee.proofs.Past.{Passes, Past, past_down, rounded_is, rounded_past, rounded_not_past, rounded_le}

-- ---- nearness by the sum
near_under : (x : Exact) → Sound x → (u v : ℕ) → u < v → AsNear x u v → Under x (u + v)
near_under x p u v h a = ((near_by_sum x p u v).0 a).below h

near_over : (x : Exact) → Sound x → (u v : ℕ) → v < u → AsNear x u v → Over x (u + v)
near_over x p u v h a = ((near_by_sum x p u v).0 a).above h

as_near : (x : Exact) → Sound x → (u v : ℕ) → (u < v → Under x (u + v)) → (v < u → Over x (u + v)) → AsNear x u v
as_near x p u v f g = (near_by_sum x p u v).1 (record { below = f; above = g })

-- ---- infinity's pattern is positive and even
pub inf_pos : (f : Format) → Fair f → 0 < inf f
inf_pos f g =
    let e = pow_mono {i = 1} {j = f.expo} (omega (arith, g.expo_two)) in
    mul-le-mul {n₁ = 1} {m₁ = 1} {n₂ = 2 ^ f.expo - 1} {m₂ = 2 ^ f.frac} (omega arith) (pow_pos f.frac)

pub inf_even : (f : Format) → Fair f → inf f % 2 ≡ 0
inf_even f g = go (2 ^ f.expo - 1) (2 ^ f.frac) (2 ^ (f.frac - 1)) (pow_diff {a = f.frac} {b = 1} g.frac_pos)
  where
    go : (a b c : ℕ) → c * 2 ≡ b → a * b % 2 ≡ 0
    go a b c e = omega (arith, times a e)

-- ---- what it means to pass the threshold between m and the next, and not to pass it
passes_says : (f : Format) (t : Ties) (x : Exact) (j : ℕ) → Passes f (ties_way t) x j → Over x (middle f j) × (Under x (middle f j) → Preferred t (suc j) j)
passes_says f to_even x j p = p
passes_says f to_away x j p = (p, λ u. omega arith)

says_passes : (f : Format) (t : Ties) (x : Exact) (j : ℕ) → Over x (middle f j) → (Under x (middle f j) → Preferred t (suc j) j) → Passes f (ties_way t) x j
says_passes f to_even x j o q = (o, q)
says_passes f to_away x j o q = o

not_passes_says : (f : Format) (t : Ties) (x : Exact) (m : ℕ) → (Passes f (ties_way t) x m → ⊥) → Under x (middle f m) × (Over x (middle f m) → Preferred t m (suc m))
not_passes_says f to_even x m n = (
  split (under_reads x (middle f m)) (λ u. u) (λ u. absurd (n (over_not_under x (middle f m) u, λ v. absurd (u v)))),
  λ o. order (m % 2) 0 (λ e. omega arith) (λ e. absurd (n (o, λ u. omega arith))),
)
not_passes_says f to_away x m n = (under_not_over x (middle f m) n, λ o. absurd (n o))

both_say : (f : Format) (t : Ties) (x : Exact) (m : ℕ) → Passes f (ties_way t) x m → Under x (middle f m) → (Over x (middle f m) → Preferred t m (suc m)) → ⊥
both_say f to_even x m p u q = omega (arith, p.1 u, q p.0)
both_say f to_away x m p u q = omega (arith, q p)

-- one that is preferred to its neighbour is preferred to those beyond
prefer_low : (t : Ties) (i k : ℕ) → k ≤ i → Preferred t (suc i) i → Preferred t (suc i) k
prefer_low to_even i k l p = p
prefer_low to_away i k l p = omega arith

prefer_high : (t : Ties) (m k : ℕ) → Preferred t m (suc m) → Preferred t m k
prefer_high to_even m k p = p
prefer_high to_away m k p = absurd (omega arith)

-- infinity is preferred to the number below it
inf_preferred : (f : Format) → Fair f → (t : Ties) → Preferred t (suc (inf f - 1)) (inf f - 1)
inf_preferred f g to_even = omega (arith, inf_even f g, inf_pos f g)
inf_preferred f g to_away = omega arith

module _ (f : Format) (g : Fair f) (t : Ties) (x : Exact) (s : Sound x) where
  suc_last : suc (inf f - 1) ≡ inf f
  suc_last = omega (arith, inf_pos f g)

  -- the halfway point is the middle between the last finite number and what would be next
  to_middle : Over x (halfway f) → Over x (middle f (inf f - 1))
  to_middle = over_down x (omega (arith, ap (units f) suc_last))

  from_middle : Over x (middle f (inf f - 1)) → Over x (halfway f)
  from_middle = over_down x (omega (arith, ap (units f) suc_last))

  -- the numbers passed lie below, and the next does not
  below : (m : ℕ) → Past f (ties_way t) x m → (k : ℕ) → k < m → Over x (units f m + units f k) × (Under x (units f m + units f k) → Preferred t m k)
  below zero p k l = absurd (omega arith)
  below (suc i) p k l =
      let h : units f (suc i) + units f k ≤ middle f i = omega (arith, units_mono f {i = k} {j = i} (omega arith)) in
      let (o, q) = passes_says f t x i p.1 in
      (over_down x h o, λ u. prefer_low t i k (omega arith) (q (under_up x h u)))

  above : (m : ℕ) → (Past f (ties_way t) x (suc m) → ⊥) → m < inf f → (k : ℕ) → m < k → Under x (units f m + units f k) × (Over x (units f m + units f k) → Preferred t m k)
  above m n l k h =
      let b : middle f m ≤ units f m + units f k = omega (arith, units_mono f h) in
      let (u, q) = not_passes_says f t x m (λ p. n (l, p)) in
      (under_up x b u, λ o. prefer_high t m k (q (over_down x b o)))

  near_of : (m : ℕ) → Past f (ties_way t) x m → (Past f (ties_way t) x (suc m) → ⊥) → m < inf f → (k : ℕ) → AsNear x (units f m) (units f k)
  near_of m p n l k =
      as_near x s (units f m) (units f k)
      (λ h. (above m n l k (units_lt_inv f m k h)).0)
      (λ h. (below m p k (units_lt_inv f k m h)).0)

  tie_of : (m : ℕ) → Past f (ties_way t) x m → (Past f (ties_way t) x (suc m) → ⊥) → m < inf f → (k : ℕ) → (k ≡ m → ⊥) → AsNear x (units f k) (units f m) → Preferred t m k
  tie_of m p n l k d a =
      order (suc k) m
      (λ h. (below m p k h).1 (under_up x (omega arith) (near_under x s (units f k) (units f m) (units_lt f h) a)))
      (λ h. let q : m < k = omega arith in (above m n l k q).1 (over_down x (omega arith) (near_over x s (units f k) (units f m) (units_lt f q) a)))

  top_passed : Over x (halfway f) → Past f (ties_way t) x (suc (inf f - 1))
  top_passed o = (omega (arith, suc_last), says_passes f t x (inf f - 1) (to_middle o) (λ u. inf_preferred f g t))

  top_over : (k : ℕ) → k ≡ inf f → Past f (ties_way t) x k → Over x (halfway f)
  top_over k e p = from_middle (passes_says f t x (inf f - 1) (subst (Past f (ties_way t) x) (e ∙ sym suc_last) p).1).0

  pub rounded_nearest : Nearest f t x (rounded f (ties_way t) x)
  rounded_nearest = record { within = rounded_le f (ties_way t) x; near = λ l k h. near_of m p n l k; tie = λ l k h. tie_of m p n l k; overflow = (λ e. top_over m e p, down) }
    where
      m : ℕ
      m = rounded f (ties_way t) x

      p : Past f (ties_way t) x m
      p = rounded_past f (ties_way t) x

      n : Past f (ties_way t) x (suc m) → ⊥
      n = rounded_not_past f (ties_way t) x

      down : Over x (halfway f) → m ≡ inf f
      down o =
          order (inf f) m
          (λ h. both_ways m (inf f) (rounded_le f (ties_way t) x) h)
          (λ h. absurd (n (past_down f (ties_way t) x s (suc m) (suc (inf f - 1)) (omega arith) (top_passed o))))

  pub nearest_rounded : (m : ℕ) → Nearest f t x m → rounded f (ties_way t) x ≡ m
  nearest_rounded m r = rounded_is f (ties_way t) x s m (at m r) next
    where
      at : (m : ℕ) → Nearest f t x m → Past f (ties_way t) x m
      at zero r = tt
      at (suc j) r =
          order (suc (suc j)) (inf f)
          (λ h. (
            omega arith,
            says_passes f t x j
                (over_down x (omega arith) (near_over x s (units f (suc j)) (units f j) (units_rise f j) (r.near h j (omega arith))))
                (λ u. r.tie h j (omega arith) (omega arith) (as_near x s (units f j) (units f (suc j)) (λ q. u) (λ q. absurd (omega (arith, units_rise f j))))),
          ))
          (λ h. let e : suc j ≡ inf f = both_ways (suc j) (inf f) r.within (omega arith) in
          subst (Past f (ties_way t) x) (suc_last ∙ sym e) (top_passed (r.overflow.0 e)))

      next : Past f (ties_way t) x (suc m) → ⊥
      next h =
          order (suc (suc m)) (inf f)
          (λ l.
          both_say f t x m h.1
          (near_under x s (units f m) (units f (suc m)) (units_rise f m) (r.near (omega arith) (suc m) l))
          (λ o. r.tie (omega arith) (suc m) l (omega arith) (as_near x s (units f (suc m)) (units f m) (λ q. absurd (omega (arith, units_rise f m))) (λ q. over_down x (omega arith) o))))
          (λ l. omega (arith, r.overflow.1 (top_over (suc m) (both_ways (suc m) (inf f) h.0 (omega arith)) h)))
