-- nextafter is the number next to x on the side of y, and nothing else is; a step back leads to x again. Assumes nothing.
use Prim.Native.Nat.{ℕ, zero, suc, ◌+◌, ◌-◌, ◌≤◌, ◌<◌}
use mathlib.Core.Path.{◌≡◌, refl, sym, ap, ◌∙◌}
use mathlib.Core.Bool.{Bool, true, false}
use native.Mathlib.Omega.{arith, by_contra, both_ways}
use borrow.Author.Tests.{le-leb, lt-leb}
use Rattle.algebra.proofs.Products.{order}
use Rattle.ieee.specs.Format.{Format, top, inf, canonical}
use Rattle.ieee.specs.Pattern.{Pattern, minus, magnitude, signed, Kind, nan, infinite, finite, kind, value}
use Rattle.ieee.specs.Nextafter.{next_up, next_down, toward, unless_nan, nextafter_of}
use Rattle.ieee.specs.NextafterRule.{Ordered, Next, NextafterRows}
use Rattle.ieee.proofs.Patterns.{inf_below_top, canonical_pattern, magnitude_signed, minus_signed, pattern_signed, same_pattern, kind_nan, kind_infinite, kind_finite}
use Rattle.ieee.proofs.Ranks.{rank_of, rank, rank_le, rank_lt, rank_eq, rank_tells, rank_signed, le_z_rank}

module _ (f : Format) where
  -- r has the rank k, and where it is a zero the sign s
  record Ranked (s : Bool) (k r : ℕ) : Type 0 where
    ordered : Ordered f r
    ranks : rank f r ≡ k
    zero_sign : magnitude f r ≡ 0 → minus f r ≡ s

  ranked_only : (s : Bool) (k r q : ℕ) → Ranked s k r → Ranked s k q → r ≡ q
  ranked_only s k r q a b =
      let (m, t) = rank_tells f r q (a.ranks ∙ sym b.ranks) in
      same_pattern f r q a.ordered.pattern b.ordered.pattern
      (order (magnitude f r) 0 (λ h. a.zero_sign (omega arith) ∙ sym (b.zero_sign (omega arith))) t)
      m

  signed_ranked : (s t : Bool) (m : ℕ) {k : ℕ} → m ≤ inf f → rank_of f t m ≡ k → (m ≡ 0 → t ≡ s) → Ranked s k (signed f t m)
  signed_ranked s t m l e z =
      let h : m < top f = omega (arith, inf_below_top f) in
      let i = magnitude_signed f t m h in
      record {
        ordered = record { pattern = pattern_signed f t m h; not_nan = omega arith };
        ranks = rank_signed f t m h ∙ e;
        zero_sign = λ o. minus_signed f t m h ∙ z (omega arith);
      }

  -- ---- one step
  rank_most : (s : Bool) (m : ℕ) → m ≤ inf f → (top f ≤ rank_of f s m + inf f) × (rank_of f s m ≤ top f + inf f)
  rank_most false m l = (omega arith, omega arith)
  rank_most true m l = (omega arith, omega arith)

  up_ranked : (s : Bool) (m k : ℕ) → m ≤ inf f → k ≤ top f + inf f → rank_of f s m < k → Ranked s (suc (rank_of f s m)) (next_up f s m)
  up_ranked false m k l h o = signed_ranked false false (suc m) (omega arith) (omega arith) (λ z. refl)
  up_ranked true zero k l h o = signed_ranked true false 1 (omega arith) (omega arith) (λ z. absurd (omega arith))
  up_ranked true (suc m) k l h o = signed_ranked true true m (omega arith) (omega (arith, inf_below_top f)) (λ z. refl)

  down_ranked : (s : Bool) (m k : ℕ) → m ≤ inf f → top f ≤ k + inf f → k < rank_of f s m → Ranked s (rank_of f s m - 1) (next_down f s m)
  down_ranked true m k l h o = signed_ranked true true (suc m) (omega arith) (omega arith) (λ z. refl)
  down_ranked false zero k l h o = signed_ranked false true 1 (omega arith) (omega arith) (λ z. absurd (omega arith))
  down_ranked false (suc m) k l h o = signed_ranked false false m (omega arith) (omega arith) (λ z. refl)

  -- ---- nextafter, by rank
  unless_ordered : (n r x : ℕ) → Ordered f x → unless_nan n r (kind f x) ≡ r
  unless_ordered n r x o =
      order (suc (magnitude f x)) (inf f)
      (λ l. rw (kind_finite f x l))
      (λ l. rw (kind_infinite f x (both_ways (magnitude f x) (inf f) o.not_nan (omega arith))))

  module _ (x y : ℕ) (o : Ordered f x) (t : Ordered f y) where
    next_toward : nextafter_of f x y ≡ toward f x y
    unfolding nextafter_of
    next_toward = rw (unless_ordered (canonical f) (unless_nan (canonical f) (toward f x y) (kind f y)) x o, unless_ordered (canonical f) (toward f x y) y t)

    pub next_same : rank f x ≡ rank f y → nextafter_of f x y ≡ y
    unfolding toward
    next_same e = next_toward ∙ rw (le_z_rank f y x, le_z_rank f x y, le-leb (rank f y) (rank f x) (omega arith), le-leb (rank f x) (rank f y) (omega arith))

    pub next_up_lem : rank f x < rank f y → nextafter_of f x y ≡ next_up f (minus f x) (magnitude f x)
    unfolding toward
    next_up_lem l = next_toward ∙ rw (le_z_rank f y x, lt-leb (rank f y) (rank f x) l)

    pub next_down_lem : rank f y < rank f x → nextafter_of f x y ≡ next_down f (minus f x) (magnitude f x)
    unfolding toward
    next_down_lem l = next_toward ∙ rw (le_z_rank f y x, le_z_rank f x y, le-leb (rank f y) (rank f x) (omega arith), lt-leb (rank f x) (rank f y) l)

    -- by cases on the order of the two
    by_ranks : {G : Type 0} → (rank f x ≡ rank f y → G) → (rank f x < rank f y → G) → (rank f y < rank f x → G) → G
    by_ranks e u d = order (rank f y) (rank f x) (λ h. order (rank f x) (rank f y) (λ l. e (both_ways (rank f x) (rank f y) l h)) d) u

    up_met : rank f x < rank f y → Ranked (minus f x) (suc (rank f x)) (nextafter_of f x y)
    up_met l = rw (next_up_lem l) (up_ranked (minus f x) (magnitude f x) (rank f y) o.not_nan (rank_most (minus f y) (magnitude f y) t.not_nan).1 l)

    down_met : rank f y < rank f x → Ranked (minus f x) (rank f x - 1) (nextafter_of f x y)
    down_met l = rw (next_down_lem l) (down_ranked (minus f x) (magnitude f x) (rank f y) o.not_nan (rank_most (minus f y) (magnitude f y) t.not_nan).0 l)

    next_ordered : Ordered f (nextafter_of f x y)
    next_ordered = by_ranks (λ e. rw (next_same e) t) (λ l. (up_met l).ordered) (λ l. (down_met l).ordered)

    pub next_is : Next f x y (nextafter_of f x y)
    next_is =
        let r = nextafter_of f x y in
        record {
          ordered = next_ordered;
          same = λ e. next_same ((rank_eq f x y).0 e);
          up = λ h.
              let l = (rank_lt f x y).0 h in
              let k = (up_met l).ranks in
              ((rank_lt f x r).1 (omega arith), (rank_le f r y).1 (omega arith), λ q w a b. omega (arith, (rank_lt f x q).0 a, (rank_lt f q r).0 b));
          down = λ h.
              let l = (rank_lt f y x).0 h in
              let k = (down_met l).ranks in
              ((rank_lt f r x).1 (omega arith), (rank_le f y r).1 (omega arith), λ q w a b. omega (arith, (rank_lt f r q).0 a, (rank_lt f q x).0 b));
          zero_sign = λ n. by_ranks (λ e. absurd (n ((rank_eq f x y).1 e))) (λ l. (up_met l).zero_sign) (λ l. (down_met l).zero_sign);
        }

    -- what meets the rule is nextafter: a rank that passed the next one would leave that between
    met_is : (r : ℕ) → Next f x y r → r ≡ nextafter_of f x y
    met_is r a = by_ranks (λ e. a.same ((rank_eq f x y).1 e) ∙ sym (next_same e)) up down
      where
        n : ℕ
        n = nextafter_of f x y

        up : rank f x < rank f y → r ≡ n
        up l =
            let (p, q, none) = a.up ((rank_lt f x y).1 l) in
            let m = up_met l in
            let k = by_contra (rank f r) (suc (rank f x)) (λ h. absurd (none n m.ordered ((rank_lt f x n).1 (omega (arith, m.ranks))) ((rank_lt f n r).1 (omega (arith, m.ranks))))) in
            ranked_only (minus f x) (suc (rank f x)) r n
            (record { ordered = a.ordered; ranks = omega (arith, (rank_lt f x r).0 p); zero_sign = a.zero_sign (λ e. omega (arith, (rank_eq f x y).0 e)) })
            m

        down : rank f y < rank f x → r ≡ n
        down l =
            let (p, q, none) = a.down ((rank_lt f y x).1 l) in
            let m = down_met l in
            let k = by_contra (rank f x - 1) (rank f r) (λ h. absurd (none n m.ordered ((rank_lt f r n).1 (omega (arith, m.ranks))) ((rank_lt f n x).1 (omega (arith, m.ranks))))) in
            ranked_only (minus f x) (rank f x - 1) r n
            (record { ordered = a.ordered; ranks = omega (arith, (rank_lt f r x).0 p); zero_sign = a.zero_sign (λ e. omega (arith, (rank_eq f x y).0 e)) })
            m

  pub next_only : (x y r q : ℕ) → Ordered f x → Ordered f y → Next f x y r → Next f x y q → r ≡ q
  next_only x y r q o t a b = met_is x y o t r a ∙ sym (met_is x y o t q b)

  -- ---- a step back
  module _ (x y : ℕ) (o : Ordered f x) (t : Ordered f y) where
    abbrev r : ℕ
    r = nextafter_of f x y

    w : Ordered f r
    w = next_ordered x y o t

    back_same : rank f x ≡ rank f y → nextafter_of f r x ≡ x
    back_same e = next_same r x w o (ap (rank f) (next_same x y o t e) ∙ sym e)

    back_ranks : rank f (nextafter_of f r x) ≡ rank f x
    back_ranks =
        by_ranks x y o t (λ e. ap (rank f) (back_same e))
        (λ l. let k = (up_met x y o t l).ranks in omega (arith, (down_met r x w o (omega arith)).ranks))
        (λ l. let k = (down_met x y o t l).ranks in omega (arith, (up_met r x w o (omega arith)).ranks))

    pub next_back_value : value f (nextafter_of f (nextafter_of f x y) x) ≡ value f x
    next_back_value = (rank_eq f (nextafter_of f r x) x).1 back_ranks

    -- a zero may come back with the other sign
    pub next_back : (magnitude f x ≡ 0 → value f x ≡ value f y) → nextafter_of f (nextafter_of f x y) x ≡ x
    next_back z =
        let (m, s) = rank_tells f x (nextafter_of f r x) (sym back_ranks) in
        order (magnitude f x) 0
        (λ h. back_same ((rank_eq f x y).0 (z (omega arith))))
        (λ h. same_pattern f (nextafter_of f r x) x (next_ordered r x w o).pattern o.pattern (sym (s h)) (sym m))

  -- ---- NaNs
  pub by_nan : (x : ℕ) → Pattern f x → {G : Type 0} → (kind f x ≡ nan → G) → (Ordered f x → G) → G
  by_nan x p e o = order (magnitude f x) (inf f) (λ l. o (record { pattern = p; not_nan = l })) (λ l. e (kind_nan f x l))

  unless_same : (n : ℕ) (k : Kind) → unless_nan n n k ≡ n
  unless_same n nan = refl
  unless_same n infinite = refl
  unless_same n (finite u) = refl

  pub next_rows : NextafterRows f (nextafter_of f)
  unfolding nextafter_of
  next_rows = record { nan_x = λ x y e. rw e; nan_y = λ x y e. rw e (unless_same (canonical f) (kind f x)) }

  pub next_pattern_lem : (x y : ℕ) → Pattern f x → Pattern f y → Pattern f (nextafter_of f x y)
  next_pattern_lem x y p q =
      by_nan x p
      (λ e. rw (next_rows.nan_x x y e) (canonical_pattern f))
      (λ o. by_nan y q
      (λ e. rw (next_rows.nan_y x y e) (canonical_pattern f))
      (λ t. (next_ordered x y o t).pattern))
