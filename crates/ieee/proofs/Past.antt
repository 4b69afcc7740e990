-- `past` as a statement: it holds at 0 and below each number at which it holds, and fails above infinity, so `rounded` is the last number at which it holds, and the only one.
-- Assumes nothing.
use Prim.Native.Nat.{ℕ, zero, suc, ◌+◌, ◌*◌, ◌%◌, ◌^◌, ◌≤◌, ◌<◌}
use mathlib.Core.Path.{◌≡◌, refl, subst}
use mathlib.Core.Bool.{false}
use native.Mathlib.Omega.{arith, both_ways}
use lib.Pow.{pow-add, pow_pos}
use Rattle.algebra.proofs.Products.{diff, order}
use Rattle.ieee.specs.Format.{Format, inf, units}
use Rattle.ieee.specs.Exact.{Exact, Over, Under}
use Rattle.ieee.specs.Round.{Way, even, away, shorter, longer, passes, past, rounded, middle}
use Rattle.ieee.proofs.Units.{units_mono, units_lt}
use Rattle.ieee.proofs.Search.{Falls, Last, last_unique, greatest_last}
use Rattle.ieee.proofs.Decide.{Reads, so, holds, fails, is_true, is_false, leb_reads, eqb_reads, and_reads, not_reads, implies_reads}
use Rattle.ieee.proofs.Sides.{Sound, over_reads, under_reads, over_down, under_up, apart}

pub middle_mono : (f : Format) {i j : ℕ} → i ≤ j → middle f i ≤ middle f j
middle_mono f {i} {j} h = omega (arith, units_mono f h, units_mono f {i = suc i} {j = suc j} (omega arith))

pub middle_lt : (f : Format) {i j : ℕ} → i < j → middle f i < middle f j
middle_lt f {i} {j} h = omega (arith, units_lt f h, units_lt f {i = suc i} {j = suc j} (omega arith))

abbrev pub Passes : Format → Way → Exact → ℕ → Type 0
Passes f even x j = Over x (middle f j) × (Under x (middle f j) → suc j % 2 ≡ 0)
Passes f away x j = Over x (middle f j)
Passes f shorter x j = Over x (2 * units f (suc j)) × (suc j ≡ inf f → ⊥)
Passes f longer x j = Under x (2 * units f j) → ⊥

abbrev pub Past : Format → Way → Exact → ℕ → Type 0
Past f w x zero = Unit {0}
Past f w x (suc j) = (suc j ≤ inf f) × Passes f w x j

pub passes_reads : (f : Format) (w : Way) (x : Exact) (j : ℕ) → Reads (Passes f w x j) (passes f w x j)
unfolding passes
passes_reads f even x j = and_reads (over_reads x (middle f j)) (implies_reads (under_reads x (middle f j)) (eqb_reads (suc j % 2) 0))
passes_reads f away x j = over_reads x (middle f j)
passes_reads f shorter x j = and_reads (over_reads x (2 * units f (suc j))) (not_reads (eqb_reads (suc j) (inf f)))
passes_reads f longer x j = not_reads (under_reads x (2 * units f j))

pub past_reads : (f : Format) (w : Way) (x : Exact) (k : ℕ) → Reads (Past f w x k) (past f w x k)
past_reads f w x zero = so tt
past_reads f w x (suc j) = and_reads (leb_reads (suc j) (inf f)) (passes_reads f w x j)

passes_falls : (f : Format) (w : Way) (x : Exact) → Sound x → (i j : ℕ) → i < j → j < inf f → Passes f w x j → Passes f w x i
passes_falls f even x s i j l h p = (over_down x (middle_mono f (omega arith)) p.0, λ u. absurd (apart x s (middle_lt f l) u p.0))
passes_falls f away x s i j l h p = over_down x (middle_mono f (omega arith)) p
passes_falls f shorter x s i j l h p = (over_down x (omega (arith, units_mono f {i = suc i} {j = suc j} (omega arith))) p.0, omega arith)
passes_falls f longer x s i j l h p = λ u. p (under_up x (omega (arith, units_mono f {i = i} {j = j} (omega arith))) u)

pub past_down : (f : Format) (w : Way) (x : Exact) → Sound x → (i j : ℕ) → i ≤ j → Past f w x j → Past f w x i
past_down f w x s zero j l h = tt
past_down f w x s (suc i) zero l h = absurd (omega arith)
past_down f w x s (suc i) (suc j) l h = (
  omega arith,
  order (suc i) j
      (λ k. passes_falls f w x s i j k (omega arith) h.1)
      (λ k. subst (Passes f w x) (both_ways j i (omega arith) (omega arith)) h.1),
)

pub past_falls : (f : Format) (w : Way) (x : Exact) → Sound x → Falls (past f w x)
past_falls f w x s i j l p = is_true (past_reads f w x i) (past_down f w x s i j l (holds (past_reads f w x j) p))

pub past_ends : (f : Format) (w : Way) (x : Exact) (k : ℕ) → inf f < k → past f w x k ≡ false
past_ends f w x zero h = absurd (omega arith)
past_ends f w x (suc k) h = is_false (past_reads f w x (suc k)) (λ p. omega arith)

pub inf_lt : (f : Format) → inf f < 2 ^ (f.frac + f.expo)
inf_lt f = rw (pow-add 2 f.frac f.expo) (omega (arith, pow_pos f.frac, diff {a = 2 ^ f.expo} {b = 1} (2 ^ f.frac) (pow_pos f.expo)))

pub rounded_last : (f : Format) (w : Way) (x : Exact) → Last (past f w x) (rounded f w x)
unfolding rounded
rounded_last f w x = greatest_last (past f w x) (f.frac + f.expo) 0 refl (past_ends f w x (0 + 2 ^ (f.frac + f.expo)) (omega (arith, inf_lt f)))

pub rounded_only : (f : Format) (w : Way) (x : Exact) → Sound x → (k : ℕ) → Last (past f w x) k → rounded f w x ≡ k
rounded_only f w x s k l = last_unique (past f w x) (past_falls f w x s) (rounded f w x) k (rounded_last f w x) l

-- the same by statements: x has passed k, and not the next
pub rounded_is : (f : Format) (w : Way) (x : Exact) → Sound x → (k : ℕ) → Past f w x k → (Past f w x (suc k) → ⊥) → rounded f w x ≡ k
rounded_is f w x s k p n = rounded_only f w x s k (record { at = is_true (past_reads f w x k) p; next = is_false (past_reads f w x (suc k)) n })

pub rounded_past : (f : Format) (w : Way) (x : Exact) → Past f w x (rounded f w x)
rounded_past f w x = holds (past_reads f w x (rounded f w x)) (rounded_last f w x).at

pub rounded_not_past : (f : Format) (w : Way) (x : Exact) → Past f w x (suc (rounded f w x)) → ⊥
rounded_not_past f w x = fails (past_reads f w x (suc (rounded f w x))) (rounded_last f w x).next

pub rounded_le : (f : Format) (w : Way) (x : Exact) → rounded f w x ≤ inf f
rounded_le f w x = go (rounded f w x) (rounded_past f w x)
  where
    go : (k : ℕ) → Past f w x k → k ≤ inf f
    go zero p = omega arith
    go (suc k) p = p.0
