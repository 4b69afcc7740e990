-- Marks of whole numbers: of a quotient without its remainder, of sums, and of marks. Assumes nothing.
use Prim.Native.Nat.{ℕ, suc, ◌+◌, ◌-◌, ◌*◌, ◌/◌, ◌%◌, ◌≤◌, ◌<◌}
use mathlib.Core.Path.{◌≡◌}
use native.Mathlib.Omega.{arith}
use Rattle.algebra.proofs.Products.{order, times, times_le, diff}
use Rattle.round_step.specs.Mark.{Marks}

-- v is t steps and r more; the mark is t, made odd where r is lost
pub marks_location : (v n t r s : ℕ) → v ≡ t * n + r → r < n → (r ≡ 0 → s ≡ t) → (0 < r → s ≡ t / 2 * 2 + 1) → Marks v n s
marks_location v n t r s e l z h =
    order 1 r
    (λ p.
    let (high, low) : (s ≤ suc t) × (t ≤ s) = omega (arith, h p) in
    record { exact = λ q. absurd (omega (arith, h p)); more = λ q. omega (arith, times_le n high); less = λ q. omega (arith, times_le n low) })
    (λ p.
    let f = times n (z (omega arith)) in
    record { exact = λ q. omega (arith, f); more = λ q. omega (arith, f); less = λ q. omega (arith, f) })

module _ {v n s : ℕ} (m : Marks v n s) where
  pub marks_times : (d : ℕ) → 0 < d → Marks (v * d) (n * d) s
  marks_times d p =
      record {
        exact = λ q. omega (arith, times d (m.exact q));
        more = λ q. omega (arith, times_le d (m.more q));
        less = λ q. omega (arith, times_le d (m.less q));
      }

  -- ---- an even count k of steps, added or subtracted
  pub marks_sum : (k : ℕ) → k % 2 ≡ 0 → Marks (k * n + v) n (k + s)
  marks_sum k e =
      record {
        exact = λ q. omega (arith, m.exact (omega arith));
        more = λ q. omega (arith, m.more (omega arith));
        less = λ q. omega (arith, m.less (omega arith));
      }

  pub marked_le : (k : ℕ) → k % 2 ≡ 0 → s ≤ k → v ≤ k * n
  marked_le k e l =
      order 1 (s % 2)
      (λ q. omega (arith, m.less (omega arith), times_le {a = suc s} {b = k} n (omega arith)))
      (λ q. omega (arith, m.exact (omega arith), times_le n l))

  pub le_marked : (k : ℕ) → k % 2 ≡ 0 → k ≤ s → k * n ≤ v
  le_marked k e l =
      order 1 (s % 2)
      (λ q. omega (arith, m.more (omega arith), times_le {a = suc k} {b = s} n (omega arith)))
      (λ q. omega (arith, m.exact (omega arith), times_le n l))

  pub marks_minus : (k : ℕ) → k % 2 ≡ 0 → s ≤ k → Marks (k * n - v) n (k - s)
  marks_minus k e l =
      let d = diff {a = k} {b = s} n l in
      let b = marked_le k e l in
      record {
        exact = λ q. omega (arith, d, m.exact (omega arith));
        more = λ q. omega (arith, d, b, m.less (omega arith));
        less = λ q. omega (arith, d, b, m.more (omega arith));
      }

  pub marks_over : (k : ℕ) → k % 2 ≡ 0 → k ≤ s → Marks (v - k * n) n (s - k)
  marks_over k e l =
      let d = diff {a = s} {b = k} n l in
      let b = le_marked k e l in
      record {
        exact = λ q. omega (arith, d, m.exact (omega arith));
        more = λ q. omega (arith, d, b, m.more (omega arith));
        less = λ q. omega (arith, d, b, m.less (omega arith));
      }
