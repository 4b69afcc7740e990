-- The rounds at their widths: how near each guess is, from the table's 8404992 units of 2 ^ -30 to 65799 and 10, and the root that the last round gives.
-- Assumes nothing.
use Rattle.std.proofs.Common.{◌≡◌, ℕ, ◌+◌, ◌-◌, ◌*◌, ◌/◌, ◌%◌, ◌^◌, ◌<◌, ◌≤◌, subst, mod-eq_of_lt, mul-le-mul, arith}
use native.Mathlib.Omega.{by_contra}
use Rattle.algebra.proofs.Roots.{sq_lt}
use Rattle.sqrt_laws.specs.Near.{Near, NearBelow, Almost, Within}
use Rattle.sqrt_laws.specs.Round.{next, last}
use Rattle.sqrt_laws.proofs.Roundoffs.{twice}
use Rattle.sqrt_laws.proofs.Rounds.{widen, digit}
use Rattle.sqrt_laws.proofs.Lasts.{Ends, reach, almost, within}
use Rattle.sqrt_laws.proofs.Steps.{Safe, safe, next_near, last_near}
use Rattle.sqrt_table.specs.Guess.{Takes}

-- each product of a round fits in the word, and its factor is not negative
pub all_safe : (m r : ℕ) → Takes m r → Safe (2 ^ 30) m r
all_safe m r t = safe (2 ^ 30) m r (omega arith) t.number t.guess t.low

module _ (m : ℕ) (lm : 2 ^ 30 ≤ m) (hm : m < 2 ^ 32) where
  pub ready_first : (r : ℕ) → Near (2 ^ 30) m r 8404992 × (r < 2 ^ 32) → Takes m r
  ready_first r (n, hr) = record { number = hm; guess = hr; low = twice (2 ^ 30) m r 8404992 n }

  pub ready : (r k : ℕ) → NearBelow (2 ^ 30) m r k → Takes m r
  ready r k n = record { number = hm; guess = digit (2 ^ 30) m r k lm n; low = twice (2 ^ 30) m r k n.near }

  pub once : (r t : ℕ) → Near (2 ^ 30) m r 8404992 × (r < 2 ^ 32) → t ≡ next (2 ^ 30) m r → NearBelow (2 ^ 30) m (t % 2 ^ 32) 65799
  once r t (n, hr) e =
      let i : NearBelow (2 ^ 30) m t 65799 = rw e (next_near (2 ^ 30) m r (omega arith) hm hr 8404992 65799 lm (omega arith) (omega arith) n (omega arith)) in
      rw (mod-eq_of_lt (ready t 65799 i).guess) i

  pub again : (r t : ℕ) → NearBelow (2 ^ 30) m r 65799 → t ≡ next (2 ^ 30) m r → NearBelow (2 ^ 30) m t 10
  again r t n e =
      rw e (next_near (2 ^ 30) m r (omega arith) hm (ready r 65799 n).guess 65799 10 lm (omega arith) (omega arith) n.near (omega arith))

  pub narrow_within : (r y : ℕ) → NearBelow (2 ^ 30) m r 65799 → y ≡ last (2 ^ 30) m r → Within (m * 2 ^ 16) (y / 64) × (y / 64 < 2 ^ 24)
  narrow_within r y n i =
      let e : Ends (2 ^ 30) m y 5 = rw i (last_near (2 ^ 30) m r (omega arith) hm (ready r 65799 n).guess 65799 5 n.near (omega arith)) in
      let s : 25 ≤ y = by_contra 25 y (λ l. let l' : y + 4 ≤ 28 = omega arith in omega (arith, e.hi, mul-le-mul l' l')) in
      let b : m * 2 ^ 30 < 4 * ((y + 32 + 1) * (y + 32 + 1)) = reach (2 ^ 30) m y 5 32 (omega arith) (omega arith) s e in
      let a : Almost (m * 2 ^ 18) (y / 32) = almost 32 y (y / 32) (m * 2 ^ 18) (omega arith) (omega arith) (omega arith) (omega (arith, e.lo)) (omega arith) in
      let w : Within (m * 2 ^ 16) (y / 64) = within (m * 2 ^ 16) (y / 32) (y / 64) (omega arith) (omega arith) (omega (arith, a.lo)) (omega (arith, a.hi)) in
      (w, sq_lt (y / 64) (2 ^ 24) (omega (arith, w.lo)))

module _ (m : ℕ) (lm : 2 ^ 62 ≤ m) (hm : m < 2 ^ 64) where
  -- the rounds on the upper half, for the whole word
  pub whole : (r : ℕ) → NearBelow (2 ^ 30) (m / 2 ^ 32) r 10 → (r < 2 ^ 32) × Near (2 ^ 62) m (r * 2 ^ 32) (10 * 2 ^ 32)
  whole r n =
      let h : r < 2 ^ 32 = digit (2 ^ 30) (m / 2 ^ 32) r 10 (omega arith) n in
      let e : m / 2 ^ 32 * 2 ^ 32 + m % 2 ^ 32 ≡ m = omega arith in
      (h, subst (λ k. Near (2 ^ 62) k (r * 2 ^ 32) (10 * 2 ^ 32)) e (widen (2 ^ 30) (m / 2 ^ 32) (m % 2 ^ 32) r 10 (omega arith) (omega arith) (omega arith) n))

  pub wide_within : (r y : ℕ) → r < 2 ^ 64 → Near (2 ^ 62) m r (10 * 2 ^ 32) → y ≡ last (2 ^ 62) m r → Within (m * 2 ^ 42) (y / 512) × (y / 512 < 2 ^ 53)
  wide_within r y hr n i =
      let e : Ends (2 ^ 62) m y 400 = rw i (last_near (2 ^ 62) m r (omega arith) hm hr (10 * 2 ^ 32) 400 n (omega arith)) in
      let s : 160000 ≤ y = by_contra 160000 y (λ l. let l' : y + 4 ≤ 160003 = omega arith in omega (arith, e.hi, mul-le-mul l' l')) in
      let b : m * 2 ^ 62 < 4 * ((y + 256 + 1) * (y + 256 + 1)) = reach (2 ^ 62) m y 400 256 (omega arith) (omega arith) s e in
      let a : Almost (m * 2 ^ 44) (y / 256) = almost 256 y (y / 256) (m * 2 ^ 44) (omega arith) (omega arith) (omega arith) (omega (arith, e.lo)) (omega arith) in
      let w : Within (m * 2 ^ 42) (y / 512) = within (m * 2 ^ 42) (y / 256) (y / 512) (omega arith) (omega arith) (omega (arith, a.lo)) (omega (arith, a.hi)) in
      (w, sq_lt (y / 512) (2 ^ 53) (omega (arith, w.lo)))

-- the wide round as computed: its factor is not negative, and its three products are those of the last step
module _ (m r s d : ℕ) (p : s ≡ m * r / 2 ^ 64) (q : d ≡ s * r / 2 ^ 64) where
  pub wide_room : m < 2 ^ 64 → r < 2 ^ 64 → Near (2 ^ 62) m r (10 * 2 ^ 32) → d ≤ 3 * 2 ^ 62 - 2
  wide_room hm hr n =
      let l = (safe (2 ^ 62) m r (omega arith) hm hr (twice (2 ^ 62) m r (10 * 2 ^ 32) n)).d in
      rw (q, p) (two_less _ l)
    where
      two_less : (k : ℕ) → k + 2 ≤ 3 * 2 ^ 62 → k ≤ 3 * 2 ^ 62 - 2
      two_less k h = omega arith

  pub wide_is : (y : ℕ) → y ≡ s * (3 * 2 ^ 62 - 2 - d) / 2 ^ 64 → y ≡ last (2 ^ 62) m r
  wide_is y e = rw (e, q, p)
