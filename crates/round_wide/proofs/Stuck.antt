-- A number without its last bits, with a sticky mark, marks the number and rounds as it does. Assumes nothing.
use Prim.Native.Nat.{ℕ, zero, suc, ◌+◌, ◌*◌, ◌/◌, ◌%◌, ◌^◌, ◌≤◌, ◌<◌}
use mathlib.Core.Path.{◌≡◌, sym, ap, ◌∙◌}
use mathlib.Core.Bool.{Bool, cond}
use native.Mathlib.Nat.{two-pow-succ}
use native.Mathlib.Omega.{arith}
use borrow.Author.Tests.{ne_eqb}
use lib.Dec.{eqb}
use lib.Pow.{pow_pos, pow-add, pow_mono}
use lib.IntN.{ℤ, pos, negsuc, ◌+ℤ◌}
use Rattle.algebra.proofs.Products.{order, times, times_le}
use Rattle.algebra.proofs.Integers.{add_z}
use Rattle.algebra.proofs.Quotients.{div_mod, div_is}
use Rattle.ieee.specs.Format.{Format, Fair}
use Rattle.ieee.specs.Round.{Attribute}
use Rattle.ieee.specs.Scalbn.{scaled}
use Rattle.round_step.specs.Mark.{Marks}
use Rattle.round_step.specs.Outcome.{outcome}
use Rattle.round_step.proofs.Marks.{marks_location, marks_times}
use Rattle.round_step.proofs.Outcomes.{sticky_outcome}
use Rattle.round_wide.specs.Stuck.{stuck}

-- ---- by whether anything is lost
pub stuck_exact : (v k : ℕ) → v % 2 ^ k ≡ 0 → stuck v k ≡ v / 2 ^ k
unfolding stuck
stuck_exact v k e = ap (λ r. cond (eqb r 0) (v / 2 ^ k) (v / 2 ^ k / 2 * 2 + 1)) e

pub stuck_lost : (v k : ℕ) → 0 < v % 2 ^ k → stuck v k ≡ v / 2 ^ k / 2 * 2 + 1
unfolding stuck
stuck_lost v k l = rw (ne_eqb (v % 2 ^ k) 0 (omega arith))

pub stuck_none : (v : ℕ) → stuck v 0 ≡ v
stuck_none v = let (q, r) = div_is v (2 ^ 0) v 0 (pow_pos 0) (omega arith) in stuck_exact v 0 r ∙ q

-- a multiple of 2 ^ k loses nothing
pub stuck_whole : (q k : ℕ) → stuck (q * 2 ^ k) k ≡ q
stuck_whole q k = let (d, r) = div_is (q * 2 ^ k) (2 ^ k) q 0 (pow_pos k) (omega arith) in stuck_exact (q * 2 ^ k) k r ∙ d

-- bits that a shift left brought in are lost first
pub stuck_shifted : (q l k : ℕ) → stuck (q * 2 ^ l) (l + k) ≡ stuck q k
stuck_shifted q l k =
    order 1 (q % 2 ^ k)
    (λ h. stuck_lost (q * 2 ^ l) (l + k) (omega (arith, parts.1, times_le (2 ^ l) h, pow_pos l)) ∙ ap (λ n. n / 2 * 2 + 1) parts.0 ∙ sym (stuck_lost q k h))
    (λ h. stuck_exact (q * 2 ^ l) (l + k) (omega (arith, parts.1, times {a = q % 2 ^ k} {b = 0} (2 ^ l) (omega arith))) ∙ parts.0 ∙ sym (stuck_exact q k (omega arith)))
  where
    parts : (q * 2 ^ l / 2 ^ (l + k) ≡ q / 2 ^ k) × (q * 2 ^ l % 2 ^ (l + k) ≡ q % 2 ^ k * 2 ^ l)
    parts =
        let (e, m) = div_mod q (2 ^ k) (pow_pos k) in
        div_is (q * 2 ^ l) (2 ^ (l + k)) (q / 2 ^ k) (q % 2 ^ k * 2 ^ l)
        (omega (arith, times_le (2 ^ l) m, pow-add 2 l k, pow_pos l))
        (omega (arith, times (2 ^ l) e, times (q / 2 ^ k) (pow-add 2 l k)))

-- of a number of one word only the mark is left, by a shift of 63 bits or more
mark_at_63 : (v : ℕ) → 0 < v → v < 2 ^ 64 → stuck v 63 ≡ 1
mark_at_63 v p l = order 1 (v % 2 ^ 63) (λ h. stuck_lost v 63 h ∙ omega arith) (λ h. stuck_exact v 63 (omega arith) ∙ omega arith)

mark_past_64 : (v k : ℕ) → 0 < v → v < 2 ^ 64 → 64 ≤ k → stuck v k ≡ 1
mark_past_64 v k p l h =
    let (q, r) = div_is v (2 ^ k) 0 v (omega (arith, pow_mono {i = 64} {j = k} h)) (omega arith) in
    stuck_lost v k (omega (arith, r)) ∙ ap (λ n. n / 2 * 2 + 1) q

nothing : (k : ℕ) → stuck 0 k ≡ 0
nothing k = let (q, r) = div_is 0 (2 ^ k) 0 0 (pow_pos k) (omega arith) in stuck_exact 0 k r ∙ q

pub stuck_far : (v k : ℕ) → v < 2 ^ 64 → 63 ≤ k → stuck v k ≡ stuck v 63
stuck_far zero k l h = nothing k ∙ sym (nothing 63)
stuck_far (suc v) k l h =
    order 64 k (λ g. mark_past_64 (suc v) k (omega arith) l g ∙ sym (mark_at_63 (suc v) (omega arith) l)) (λ g. ap (stuck (suc v)) (omega arith))

pub stuck_marks : (v k : ℕ) → Marks v (2 ^ k) (stuck v k)
stuck_marks v k =
    let (e, l) = div_mod v (2 ^ k) (pow_pos k) in
    marks_location v (2 ^ k) (v / 2 ^ k) (v % 2 ^ k) (stuck v k) (sym e) l (stuck_exact v k) (stuck_lost v k)

-- a number that keeps two bits more than the format gives what it gave before
pub stuck_outcome : (f : Format) → Fair f → (g : Attribute) (t : Bool) (v k : ℕ) (e : ℤ) → 0 < v → 2 ^ (2 + f.frac) ≤ stuck v k
    → outcome f g t (scaled t v e) ≡ outcome f g t (scaled t (stuck v k) (e +ℤ pos k))
stuck_outcome f i g t v k (pos n) p h =
    let m : Marks (v * 2 ^ n) (2 ^ (k + n)) (stuck v k) = rw pow-add (marks_times (stuck_marks v k) (2 ^ n) (pow_pos n)) in
    sticky_outcome f i g t t (v * 2 ^ n) (stuck v k) (k + n) 0 (pos n +ℤ pos k) (omega (arith, times_le (2 ^ n) p, pow_pos n)) (omega (arith, add_z (pos n) (pos k))) m (λ l. h)
stuck_outcome f i g t v k (negsuc n) p h =
    sticky_outcome f i g t t v (stuck v k) k (suc n) (negsuc n +ℤ pos k) p (omega (arith, add_z (negsuc n) (pos k))) (stuck_marks v k) (λ l. h)

-- ---- its size
pub stuck_le : (v k : ℕ) → stuck v k ≤ v
stuck_le v k =
    let (e, l) = div_mod v (2 ^ k) (pow_pos k) in
    let m : v / 2 ^ k * 1 ≤ v / 2 ^ k * 2 ^ k = omega (arith, times_le (v / 2 ^ k) (pow_pos k)) in
    order 1 (v % 2 ^ k) (λ h. omega (arith, stuck_lost v k h)) (λ h. omega (arith, stuck_exact v k (omega arith)))

-- a number that lost a bit or more is at most half, plus the mark
pub stuck_half : (v k : ℕ) → 0 < k → 2 * stuck v k ≤ v + 2
stuck_half v zero p = absurd (omega arith)
stuck_half v (suc k) p =
    let (e, l) = div_mod v (2 ^ suc k) (pow_pos (suc k)) in
    let two : 2 ≤ 2 ^ suc k = omega (arith, two-pow-succ k, pow_pos k) in
    let m : v / 2 ^ suc k * 2 ≤ v / 2 ^ suc k * 2 ^ suc k = omega (arith, times_le (v / 2 ^ suc k) two) in
    order 1 (v % 2 ^ suc k) (λ h. omega (arith, stuck_lost v (suc k) h)) (λ h. omega (arith, stuck_exact v (suc k) (omega arith)))
