-- A root lies between two ratios that round as it does, so rounding ratios determines the rounding of roots. Assumes nothing.
use Prim.Native.Nat.{ℕ, zero, suc, ◌+◌, ◌-◌, ◌*◌, ◌%◌, ◌≤◌, ◌<◌}
use mathlib.Core.Path.{◌≡◌, refl}
use native.Mathlib.Omega.{arith, by_contra}
use Rattle.algebra.proofs.Products.{order, times, times_le}
use Rattle.algebra.proofs.Roots.{sq_le}
use Rattle.ieee.specs.Format.{Format, inf}
use Rattle.ieee.specs.Exact.{ratio, root}
use Rattle.ieee.specs.Round.{even, rounded, middle}
use Rattle.ieee.proofs.Units.{units_rise}
use Rattle.ieee.proofs.Past.{Past, middle_lt, rounded_is, rounded_past, rounded_not_past}

-- ---- by squares
less_square : (M N D : ℕ) → M * M < 4 * N → D ≡ 2 * M + 1 → (M * D + 1) * (M * D + 1) ≤ N * (2 * D * (2 * D))
less_square M N D h e = omega (arith, times_le (D * D) h, times D e)

more_square : (M N D n : ℕ) → 4 * N < M * M → D ≡ 2 * M → n + 1 ≡ M * D → N * (2 * D * (2 * D)) ≤ n * n
more_square M N D n h e p =
    let s : (n + 1) * (n + 1) ≡ M * D * (M * D) = λ i. p i * p i in
    omega (arith, times_le (D * D) h, times D e)

-- a ratio that meets S rounds to r
pub record Beside (f : Format) (S : ℕ → ℕ → Type 0) (r : ℕ) : Type 0 where
  pub num : ℕ
  pub den : ℕ
  pub sound : 0 < den
  pub holds : S num den
  pub rounds : rounded f even (ratio num den) ≡ r

-- it is at most the root, or at least
abbrev Below : Format → ℕ → ℕ → Type 0
Below f N r = Beside f (λ a d. a * a ≤ N * (d * d)) r

abbrev Above : Format → ℕ → ℕ → Type 0
Above f N r = Beside f (λ a d. N * (d * d) ≤ a * a) r

module _ (f : Format) (N : ℕ) where
  middle_pos : (j : ℕ) → 0 < middle f j
  middle_pos j = omega (arith, units_rise f j)

  below_of : (r : ℕ) → Past f even (root N) r → Below f N r
  below_of zero p =
      record { num = 0; den = 1; sound = omega arith; holds = omega arith; rounds = rounded_is f even (ratio 0 1) (omega arith) 0 tt (λ q. omega (arith, q.1.0, middle_pos 0)) }
  below_of (suc i) p = order (4 * N) (M * M) level strict
    where
      M : ℕ
      M = middle f i

      level : 4 * N ≤ M * M → Below f N (suc i)
      level h =
          record {
            num = M;
            den = 2;
            sound = omega arith;
            holds = omega (arith, p.1.0);
            rounds = rounded_is f even (ratio M 2) (omega arith) (suc i) (p.0, (omega arith, λ u. p.1.1 h)) (λ q. omega (arith, q.1.0, middle_lt f {i = i} {j = suc i} (omega arith)));
          }

      strict : M * M < 4 * N → Below f N (suc i)
      strict h =
          let D : ℕ = 2 * M + 1 in
          let m = middle_pos i in
          record {
            num = M * D + 1;
            den = 2 * D;
            sound = omega arith;
            holds = less_square M N D h refl;
            rounds = rounded_is f even (ratio (M * D + 1) (2 * D)) (omega arith) (suc i) (p.0, (omega arith, λ u. absurd (omega arith)))
                (λ q. omega (arith, q.1.0, times_le (2 * D) (middle_lt f {i = i} {j = suc i} (omega arith))));
          }

  module _ (r : ℕ) (p : Past f even (root N) r) (n : Past f even (root N) (suc r) → ⊥) where
    -- infinity and above
    huge : (r : ℕ) → Past f even (root N) r → inf f ≤ r → Above f N r
    huge r p h = record { num = N + 1; den = 1; sound = omega arith; holds = omega arith; rounds = rounded_is f even (ratio (N + 1) 1) (omega arith) r (at r p) (λ q. omega (arith, q.0)) }
      where
        at : (r : ℕ) → Past f even (root N) r → Past f even (ratio (N + 1) 1) r
        at zero p = tt
        at (suc i) p =
            let l = sq_le (middle f i) (2 * N + 1) (omega (arith, p.1.0)) in
            (p.0, (omega arith, λ u. absurd (omega arith)))

    -- a ratio above every lower middle is past r
    reached : (a d r : ℕ) → 0 < d → r ≤ inf f → ((i : ℕ) → suc i ≡ r → middle f i * d < 2 * a) → Past f even (ratio a d) r
    reached a d zero s l h = tt
    reached a d (suc i) s l h = let k = h i refl in (l, (omega arith, λ u. absurd (omega arith)))

    within : (r : ℕ) → Past f even (root N) r → r ≤ inf f
    within zero p = omega arith
    within (suc i) p = p.0

    lower : (i : ℕ) → suc i ≡ r → middle f i < middle f r
    lower i e = middle_lt f (omega arith)

    level : r < inf f → middle f r * middle f r ≤ 4 * N → Above f N r
    level l o =
        let M = middle f r in
        let h : 4 * N ≤ M * M = by_contra (4 * N) (M * M) (λ g. n (l, (o, λ u. absurd (omega arith)))) in
        let e : r % 2 ≡ 0 = order (r % 2) 0 (λ z. omega arith) (λ z. absurd (n (l, (o, λ u. omega arith)))) in
        record {
          num = M;
          den = 2;
          sound = omega arith;
          holds = omega arith;
          rounds = rounded_is f even (ratio M 2) (omega arith) r (reached M 2 r (omega arith) (omega arith) (λ i z. omega (arith, lower i z))) (λ q. omega (arith, q.1.1 (omega arith)));
        }

    strict : r < inf f → 4 * N < middle f r * middle f r → Above f N r
    strict l h =
        let M = middle f r in
        let D : ℕ = 2 * M in
        let m = middle_pos r in
        let a : ℕ = M * D - 1 in
        let e : a + 1 ≡ M * D = omega (arith, times_le D m) in
        record {
          num = a;
          den = 2 * D;
          sound = omega arith;
          holds = more_square M N D a h refl e;
          rounds = rounded_is f even (ratio a (2 * D)) (omega arith) r (reached a (2 * D) r (omega arith) (omega arith) (λ i z. omega (arith, times_le (2 * D) (lower i z)))) (λ q. omega (arith, q.1.0));
        }

    above_of : Above f N r
    above_of = order (inf f) r (huge r p) (λ l. order (middle f r * middle f r) (4 * N) (level l) (strict l))

  pub below : Below f N (rounded f even (root N))
  below = below_of (rounded f even (root N)) (rounded_past f even (root N))

  pub above : Above f N (rounded f even (root N))
  above = above_of (rounded f even (root N)) (rounded_past f even (root N)) (rounded_not_past f even (root N))
