-- The flags by the lower neighbour and six locations, for the rounding step. Assumes nothing.
use Prim.Native.Nat.{ℕ, suc, ◌+◌, ◌-◌, ◌*◌, ◌%◌, ◌^◌, ◌<◌}
use mathlib.Core.Path.{◌≡◌, sym, ap, ◌∙◌, subst}
use mathlib.Core.Bool.{Bool, false, not, ◌&&◌, ◌||◌, cond}
use native.Mathlib.Omega.{arith}
use lib.Dec.{leb, ltb, eqb}
use lib.Pow.{pow_pos}
use Rattle.algebra.proofs.Products.{order}
use Rattle.ieee.specs.Format.{Format, Fair, inf, units}
use Rattle.ieee.specs.Exact.{Exact, Over, Under, over, under, magnified}
use Rattle.ieee.specs.Round.{Way, even, away, shorter, longer, middle, rounded}
use Rattle.ieee.specs.Flags.{Flags, largest, least_normal, judged, raised_by}
use Rattle.ieee.proofs.Units.{units_rise, units_mono, units_lt}
use Rattle.ieee.proofs.Decide.{Reads, so, not_so, is_true, is_false, split, alike, leb_reads, eqb_reads, and_reads, not_reads}
use Rattle.ieee.proofs.Sides.{Sound, over_reads, under_reads, over_down, under_up, under_not_over, over_not_under, apart}
use Rattle.ieee.proofs.Rule.{inf_even}
use Rattle.ieee.proofs.Local.{From}
use Rattle.ieee.proofs.Wider.{magnified_beside, magnified_sound, Reaches}
use Rattle.ieee.proofs.Verdicts.{reads_as, three, suc_largest, before_twice, before_units, twice_units, normal_units, subnormal_units, PastLargest, overflows_reads, tiny_reads, not_reaches}
use Rattle.ieee.proofs.Raised.{Same, same_rounded, differs_reads}
use Rattle.ieee.proofs.FarFlags.{over_reaches}

-- four times the point three quarters of the way from m to the next
abbrev pub quarters : Format → ℕ → ℕ
quarters f m = units f m + 3 * units f (suc m)

-- where x lies from m up: 0 at m, 1 before the middle, 2 at the middle, 3 past it, 4 at three quarters or past them, 5 at the next or past it
abbrev pub location_from : Format → ℕ → Exact → ℕ
location_from f m x =
    cond (under x (2 * units f m)) 0
    (cond (over x (middle f m))
    (cond (under x (middle f m)) 2
    (cond (over x (2 * units f (suc m))) 5
    (cond (over (magnified x 2) (quarters f m)) 4 3))) 1)

-- the location in terms of the five thresholds
pub record Location (f : Format) (m : ℕ) (x : Exact) (p : ℕ) : Type 0 where
  pub one : Reads (Under x (2 * units f m) → ⊥) (leb 1 p)
  pub two : Reads (Over x (middle f m)) (leb 2 p)
  pub three : Reads (Under x (middle f m) → ⊥) (leb 3 p)
  pub four : Reads (Over (magnified x 2) (quarters f m)) (leb 4 p)
  pub five : Reads (Over x (2 * units f (suc m))) (leb 5 p)

module _ (f : Format) (m : ℕ) (x : Exact) (s : Sound x) where
  -- the thresholds rise
  low_middle : 2 * units f m < middle f m
  low_middle = omega (arith, units_rise f m)

  middle_high : middle f m < 2 * units f (suc m)
  middle_high = omega (arith, units_rise f m)

  -- three quarters are past the middle, and the next is past three quarters
  quarters_middle : Over (magnified x 2) (quarters f m) → Under x (middle f m) → ⊥
  quarters_middle o u =
      apart (magnified x 2) (magnified_sound x 2 s) {s = middle f m * 2} {t = quarters f m} (omega (arith, units_rise f m)) ((magnified_beside x (middle f m) 2 (omega arith)).1.1 u) o

  high_quarters : Over x (2 * units f (suc m)) → Over (magnified x 2) (quarters f m)
  high_quarters o = over_down (magnified x 2) (omega (arith, units_rise f m)) ((magnified_beside x (2 * units f (suc m)) 2 (omega arith)).0.1 o)

  quarters_over : Over (magnified x 2) (quarters f m) → Over x (middle f m)
  quarters_over o = over_not_under x (middle f m) (quarters_middle o)

  location_by : {a b c d e : Bool} → Reads (Under x (2 * units f m)) a → Reads (Over x (middle f m)) b → Reads (Under x (middle f m)) c
      → Reads (Over x (2 * units f (suc m))) d → Reads (Over (magnified x 2) (quarters f m)) e
      → Location f m x (cond a 0 (cond b (cond c 2 (cond d 5 (cond e 4 3))) 1))
  location_by (so u) b c d e =
      let no : Over x (middle f m) → ⊥ = λ o. apart x s low_middle u o in
      record {
        one = not_so (λ n. n u);
        two = not_so no;
        three = not_so (λ n. n (under_up x (omega (arith, low_middle)) u));
        four = not_so (λ o. no (quarters_over o));
        five = not_so (λ o. no (over_down x (omega (arith, middle_high)) o));
      }
  location_by (not_so n) (not_so b) c d e =
      record {
        one = so n;
        two = not_so b;
        three = not_so (λ k. k (under_not_over x (middle f m) b));
        four = not_so (λ o. b (quarters_over o));
        five = not_so (λ o. b (over_down x (omega (arith, middle_high)) o));
      }
  location_by (not_so n) (so b) (so c) d e =
      record {
        one = so n;
        two = so b;
        three = not_so (λ k. k c);
        four = not_so (λ o. quarters_middle o c);
        five = not_so (λ o. apart x s middle_high c o);
      }
  location_by (not_so n) (so b) (not_so c) (so d) e = record { one = so n; two = so b; three = so c; four = so (high_quarters d); five = so d }
  location_by (not_so n) (so b) (not_so c) (not_so d) (so e) = record { one = so n; two = so b; three = so c; four = so e; five = not_so d }
  location_by (not_so n) (so b) (not_so c) (not_so d) (not_so e) = record { one = so n; two = so b; three = so c; four = not_so e; five = not_so d }

  pub location_is : Location f m x (location_from f m x)
  location_is =
      location_by (under_reads x (2 * units f m)) (over_reads x (middle f m)) (under_reads x (middle f m)) (over_reads x (2 * units f (suc m)))
      (over_reads (magnified x 2) (quarters f m))

-- ---- the flags of a magnitude by the way, the lower neighbour m and the location p
-- the location from which on the largest finite number is exceeded
abbrev pub over_from : Way → ℕ
over_from even = 2
over_from away = 2
over_from shorter = 5
over_from longer = 1

-- the location from which on the rounding is normal
abbrev pub normal_from : Way → ℕ
normal_from even = 4
normal_from away = 4
normal_from shorter = 5
normal_from longer = 3

abbrev pub over_at : Format → Way → ℕ → ℕ → Bool
over_at f w m p = eqb m (largest f) && leb (over_from w) p

abbrev pub tiny_at : Format → Way → ℕ → ℕ → Bool
tiny_at f w m p = ltb (suc m) (least_normal f) || (eqb (suc m) (least_normal f) && not (leb (normal_from w) p))

abbrev pub flags_at : Format → Way → ℕ → ℕ → Flags
flags_at f w m p = judged (over_at f w m p) (tiny_at f w m p) (leb 1 p)

module _ (f : Format) (g : Fair f) (w : Way) (x : Exact) (s : Sound x) (m p : ℕ) (b : From f x m) (t : Location f m x p) where
  -- a value below the next number does not reach one beyond it
  not_beyond : suc m < inf f → (j : ℕ) → m < j → Reaches f w x j → ⊥
  not_beyond l j k r =
      let u = under_not_over x (2 * units f (suc m)) (b.high l) in
      not_reaches f g w x s j (under_up x (omega (arith, units_mono f {i = suc m} {j = j} k)) u) r

  reaches_here : (w : Way) → m ≡ largest f → Reads (Reaches f w x m) (leb (over_from w) p)
  reaches_here even e = reads_as (λ o. (o, λ u. omega (arith, inf_even f g, suc_largest f g)), λ r. r.0) t.two
  reaches_here away e = t.two
  reaches_here shorter e = t.five
  reaches_here longer e = t.one

  over_here : Reads (PastLargest f g w x) (over_at f w m p)
  over_here =
      split (eqb_reads m (largest f))
      (λ e. reads_as ((λ h. subst (Reaches f w x) e h.1), λ h. (e, subst (Reaches f w x) (sym e) h)) (and_reads (eqb_reads m (largest f)) (reaches_here w e)))
      (λ n. rw (is_false (eqb_reads m (largest f)) n) (not_so (λ r. not_beyond (omega (arith, b.finite, suc_largest f g)) (largest f) (omega (arith, b.finite)) r)))

  -- ---- the least normal number, and the one before it
  abbrev h : ℕ
  h = 2 ^ f.frac

  here_units : suc m ≡ h → units f m ≡ h - 1
  here_units e = ap (units f) {x = m} {y = h - 1} (omega arith) ∙ subnormal_units f g

  next_normal : suc m ≡ h → units f (suc m) ≡ h
  next_normal e = ap (units f) e ∙ normal_units f g

  -- at the largest subnormal number
  left_here : (w : Way) → suc m ≡ h → Reads (Reaches f w (magnified x 2) (before_twice f g)) (leb (normal_from w) p)
  left_here even e =
      let a : quarters f m ≡ middle f (before_twice f g) = omega (arith, before_units f g, twice_units f g, here_units e, next_normal e, pow_pos f.frac) in
      let c : suc (before_twice f g) % 2 ≡ 0 = omega (arith, pow_pos f.frac) in
      reads_as (λ o. (subst (Over (magnified x 2)) a o, λ _. c), λ r. subst (Over (magnified x 2)) (sym a) r.0) t.four
  left_here away e =
      let a : quarters f m ≡ middle f (before_twice f g) = omega (arith, before_units f g, twice_units f g, here_units e, next_normal e, pow_pos f.frac) in
      reads_as (λ o. subst (Over (magnified x 2)) a o, λ r. subst (Over (magnified x 2)) (sym a) r) t.four
  left_here shorter e =
      let a : 2 * units f (suc m) * 2 ≡ 2 * units f (suc (before_twice f g)) = omega (arith, twice_units f g, next_normal e) in
      let (to, from) = (magnified_beside x (2 * units f (suc m)) 2 (omega arith)).0 in
      reads_as (λ o. subst (Over (magnified x 2)) a (from o), λ r. to (subst (Over (magnified x 2)) (sym a) r)) t.five
  left_here longer e =
      let a : middle f m * 2 ≡ 2 * units f (before_twice f g) = omega (arith, before_units f g, here_units e, next_normal e, pow_pos f.frac) in
      let (to, from) = (magnified_beside x (middle f m) 2 (omega arith)).1 in
      reads_as (λ n u. n (to (subst (Under (magnified x 2)) (sym a) u)), λ n u. n (subst (Under (magnified x 2)) a (from u))) t.three

  below_here : suc m < h → Reaches f w (magnified x 2) (before_twice f g) → ⊥
  below_here l =
      let c = units_lt f {i = suc m} {j = h} l in
      let u = under_not_over x (2 * units f (suc m)) (b.high (omega (arith, three f g))) in
      not_reaches f g w (magnified x 2) (magnified_sound x 2 s) (before_twice f g)
      (under_up (magnified x 2) (omega (arith, normal_units f g, before_units f g)) ((magnified_beside x (2 * units f (suc m)) 2 (omega arith)).1.1 u))

  above_here : h < suc m → Reaches f w (magnified x 2) (before_twice f g)
  above_here l =
      let c = units_mono f {i = h} {j = m} (omega arith) in
      over_reaches f w (magnified x 2) (magnified_sound x 2 s) (before_twice f g)
      (over_down (magnified x 2) (omega (arith, normal_units f g, twice_units f g)) ((magnified_beside x (2 * units f m) 2 (omega arith)).0.1 b.low))

  tiny_here : Reads (Reaches f w (magnified x 2) (before_twice f g) → ⊥) (tiny_at f w m p)
  tiny_here =
      order (suc (suc m)) h
      (λ l. rw (is_true (leb_reads (suc (suc m)) h) l) (so (below_here l)))
      (λ l. rw (is_false (leb_reads (suc (suc m)) h) (λ k. omega arith))
      (split (eqb_reads (suc m) h)
      (λ e. rw (is_true (eqb_reads (suc m) h) e) (not_reads (left_here w e)))
      (λ n. rw (is_false (eqb_reads (suc m) h) n) (not_so (λ k. k (above_here (omega arith)))))))

  -- ---- a number of the format is the lower neighbour itself
  same_here : (n : ℕ) → Same f x n → Under x (2 * units f m)
  same_here n e =
      order n m
      (λ l. under_up x (omega (arith, units_mono f l)) e.high)
      (λ l. absurd (b.high (omega (arith, e.finite)) (over_down x (omega (arith, units_mono f {i = suc m} {j = n} l)) e.low)))

  here_same : Under x (2 * units f m) → Same f x (rounded f w x)
  here_same u =
      let e : Same f x m = record { finite = b.finite; low = b.low; high = u } in
      subst (Same f x) (sym (same_rounded f g w x s m e)) e

  differs_here : Reads (Same f x (rounded f w x) → ⊥) (leb 1 p)
  differs_here = reads_as (λ n e. n (same_here (rounded f w x) e), λ n u. n (here_same u)) t.one

  -- ---- the law: the flags by the lower neighbour and the location
  pub flags_by_location : raised_by f w x ≡ flags_at f w m p
  unfolding raised_by
  flags_by_location =
      let o = alike (overflows_reads f g 1 (omega arith) w x s) over_here (λ r. r, λ r. r) in
      let i = alike (differs_reads f w x) differs_here (λ r. r, λ r. r) in
      let u = alike (and_reads (tiny_reads f g 1 (omega arith) w x s) (differs_reads f w x)) (and_reads tiny_here t.one) (
        λ r. (r.0.1, λ v. r.1 (here_same v)),
        λ r. ((λ v. r.1 (under_up x (omega arith) v), r.0), λ e. r.1 (same_here (rounded f w x) e)),
      ) in
      (λ j. record { invalid = false; division_by_zero = false; overflow = o j; underflow = u j; inexact = i j })
