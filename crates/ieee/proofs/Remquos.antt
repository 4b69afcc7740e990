-- remquo is exact: what is left of x by the nearest whole multiple of y, nothing rounded, and nothing else is. Assumes nothing.
use Prim.Native.Nat.{ℕ, suc, ◌-◌, ◌*◌, ◌%◌, ◌^◌, ◌≤◌, ◌<◌}
use mathlib.Core.Path.{◌≡◌, refl, sym, ap, ◌∙◌, subst}
use mathlib.Core.Bool.{Bool, not}
use native.Mathlib.Omega.{arith}
use lib.IntN.{ℤ, pos}
use borrow.Author.Tests.{lt-ltb, le-ltb}
use Rattle.algebra.proofs.Products.{order}
use Rattle.ieee.specs.Format.{Format, inf, units}
use Rattle.ieee.specs.Pattern.{Pattern, minus, magnitude, signed, unlike, finite, kind, with_sign}
use Rattle.ieee.specs.Rule.{distance}
use Rattle.ieee.specs.Round.{even, exactly}
use Rattle.ieee.specs.Whole.{whole}
use Rattle.ieee.specs.Remquo.{rest, remquo_of, quotient_of}
use Rattle.ieee.proofs.Units.{units_lt, units_zero, units_inj}
use Rattle.ieee.proofs.Patterns.{same_pattern, Finite, finite_is}
use Rattle.ieee.proofs.Signs.{signed_zero}
use Rattle.ieee.proofs.SignedSums.{unlike_self, unlike_not, Splits, Remains, remains_splits, remains_distance, same_sign}
use Rattle.ieee.proofs.NearestWhole.{whole_even_nearest, nearest_whole_unique, nearest_within}
use Rattle.ieee.specs.Fmod.{divide}
use Rattle.ieee.specs.RemquoRule.{NearestTo, NearestLeft, AnswerIs, RemquoRows}
use Rattle.ieee.proofs.Remainders.{Stands, difference_stands, divide_by_nan, divide_by_zero}

-- r is u less w, with the sign s where u is not less
record Rest (f : Format) (s : Bool) (u w r : ℕ) : Type 0 where
  pattern : Pattern f r
  finite : magnitude f r < inf f
  splits : Splits (unlike s (minus f r)) u w (units f (magnitude f r))
  zero_sign : magnitude f r ≡ 0 → minus f r ≡ s

stands_rest : (f : Format) (s p : Bool) (u w r q : ℕ) → Stands f p r q → Splits (unlike s p) u w r → (r ≡ 0 → p ≡ s) → Rest f s u w q
stands_rest f s p u w r q a h z =
    record {
      pattern = a.pattern;
      finite = a.finite;
      splits = rw (a.sign, a.counts) h;
      zero_sign = λ e. a.sign ∙ z (sym a.counts ∙ ap (units f) e ∙ units_zero f);
    }

rest_is : (f : Format) (s : Bool) (m k n : ℕ) → m < inf f → NearestTo (units f m) (units f k) n → Rest f s (units f m) (n * units f k) (rest f s (units f m) (n * units f k))
rest_is f s m k n l a = order (suc u) w greater less
  where
    u : ℕ
    u = units f m

    w : ℕ
    w = n * units f k

    stands : (p : Bool) (r : ℕ) → r ≡ distance u w → Stands f p r (signed f p (exactly f r))
    stands p r e = difference_stands f p m k n r l e (omega (arith, nearest_within u (units f k) n a)) (omega (arith, a.half))

    greater : u < w → Rest f s u w (rest f s u w)
    greater h =
        rw (lt-ltb u w h)
        (stands_rest f s (not s) u w (w - u) (signed f (not s) (exactly f (w - u))) (stands (not s) (w - u) (omega arith)) (rw (unlike_not s) (omega arith)) (λ z. absurd (omega arith)))

    less : w < suc u → Rest f s u w (rest f s u w)
    less h =
        rw (le-ltb u w (omega arith))
        (stands_rest f s s u w (u - w) (signed f s (exactly f (u - w))) (stands s (u - w) (omega arith)) (rw (unlike_self s) (omega arith)) (λ z. refl))

-- ---- remquo
pub remquo_finite : (f : Format) (x y u v : ℕ) → kind f x ≡ finite u → kind f y ≡ finite (suc v) → remquo_of f x y ≡ rest f (minus f x) u (whole even u (suc v) * suc v)
unfolding remquo_of divide
remquo_finite f x y u v p q = rw (p, q)

pub quotient_finite : (f : Format) (x y u v : ℕ) → kind f x ≡ finite u → kind f y ≡ finite (suc v) → quotient_of f x y ≡ with_sign (unlike (minus f x) (minus f y)) (whole even u (suc v) % 2 ^ 31)
unfolding quotient_of divide
quotient_finite f x y u v p q = rw (p, q)

pub remquo_is : (f : Format) (x y u v : ℕ) → kind f x ≡ finite u → kind f y ≡ finite (suc v) → NearestLeft f x y (remquo_of f x y) (quotient_of f x y)
remquo_is f x y u v e k =
    record {
      n = n;
      pattern = r.pattern;
      finite = r.finite;
      counts = c;
      half = omega (arith, d, near.half);
      tie = λ h. near.tie (omega (arith, d));
      zero_sign = r.zero_sign;
      quotient = quotient_finite f x y u v e k;
    }
  where
    n : ℕ
    n = whole even u (suc v)

    a : Finite f x u
    a = finite_is f x u e

    b : units f (magnitude f y) ≡ suc v
    b = (finite_is f y (suc v) k).counts

    near : NearestTo (units f (magnitude f x)) (units f (magnitude f y)) n
    near = rw (a.counts, b) (whole_even_nearest u (suc v) (omega arith))

    r : Rest f (minus f x) (units f (magnitude f x)) (n * units f (magnitude f y)) (remquo_of f x y)
    r =
        subst (Rest f (minus f x) (units f (magnitude f x)) (n * units f (magnitude f y)))
        ((λ i. rest f (minus f x) (a.counts i) (n * b i)) ∙ sym (remquo_finite f x y u v e k))
        (rest_is f (minus f x) (magnitude f x) (magnitude f y) n a.below near)

    c : Remains f x y (remquo_of f x y) n
    c = (remains_splits f x y (remquo_of f x y) n).1 r.splits

    d : distance (units f (magnitude f x)) (n * units f (magnitude f y)) ≡ units f (magnitude f (remquo_of f x y))
    d = remains_distance f x y (remquo_of f x y) n c

-- from the integers back to whole numbers
left_nearest : (f : Format) (x y r : ℕ) (q : ℤ) → (a : NearestLeft f x y r q) → NearestTo (units f (magnitude f x)) (units f (magnitude f y)) a.n
left_nearest f x y r q a =
    let d = remains_distance f x y r a.n a.counts in
    record { half = omega (arith, a.half); tie = λ h. a.tie (omega arith) }

pub remquo_only : (f : Format) (x y r r' : ℕ) (q q' : ℤ) → 0 < units f (magnitude f y) → NearestLeft f x y r q → NearestLeft f x y r' q' → (r ≡ r') × (q ≡ q')
remquo_only f x y r r' q q' l a b = (
  same_pattern f r r' a.pattern b.pattern signs magnitudes,
  a.quotient ∙ ap (λ n. with_sign (unlike (minus f x) (minus f y)) (n % 2 ^ 31)) counted ∙ sym b.quotient,
)
  where
    u : ℕ
    u = units f (magnitude f x)

    v : ℕ
    v = units f (magnitude f y)

    counted : a.n ≡ b.n
    counted = nearest_whole_unique u v a.n b.n l (left_nearest f x y r q a) (left_nearest f x y r' q' b)

    lefts : units f (magnitude f r) ≡ units f (magnitude f r')
    lefts = sym (remains_distance f x y r a.n a.counts) ∙ ap (λ n. distance u (n * v)) counted ∙ remains_distance f x y r' b.n b.counts

    magnitudes : magnitude f r ≡ magnitude f r'
    magnitudes = units_inj f (magnitude f r) (magnitude f r') lefts

    signs : minus f r ≡ minus f r'
    signs =
        order (magnitude f r) 0
        (λ h. a.zero_sign (omega arith) ∙ sym (b.zero_sign (omega (arith, magnitudes))))
        (λ h. same_sign (minus f x) (minus f r) (minus f r') u (a.n * v) (units f (magnitude f r)) (omega (arith, units_lt f h))
        ((remains_splits f x y r a.n).0 a.counts)
        (rw (counted, lefts) ((remains_splits f x y r' b.n).0 b.counts)))

below_left : (f : Format) (x y u v : ℕ) → Pattern f x → kind f x ≡ finite u → kind f y ≡ finite (suc v) → 2 * u ≤ suc v → NearestLeft f x y x (pos 0)
below_left f x y u v p e k l =
    let a : Finite f x u = finite_is f x u e in
    record {
      n = 0;
      pattern = p;
      finite = a.below;
      counts = (remains_splits f x y x 0).1 (rw (unlike_self (minus f x)) (omega arith));
      half = omega (arith, a.counts, (finite_is f y (suc v) k).counts);
      tie = λ h. refl;
      zero_sign = λ h. refl;
      quotient = sym (signed_zero (unlike (minus f x) (minus f y)));
    }

remquo_below : (f : Format) (x y u v : ℕ) → Pattern f x → kind f x ≡ finite u → kind f y ≡ finite (suc v) → 2 * u ≤ suc v → AnswerIs (remquo_of f) (quotient_of f) x y x (pos 0)
remquo_below f x y u v p e k l =
    remquo_only f x y (remquo_of f x y) x (quotient_of f x y) (pos 0) (omega (arith, (finite_is f y (suc v) k).counts)) (remquo_is f x y u v e k) (below_left f x y u v p e k l)

-- a quotient of magnitude 0 is 0, whatever the signs
zero_quotient_is : (f : Format) (x y u v n : ℕ) → kind f x ≡ finite u → kind f y ≡ finite (suc v) → NearestTo u (suc v) n → n % 2 ^ 31 ≡ 0 → quotient_of f x y ≡ pos 0
zero_quotient_is f x y u v n e k a z =
    let s = unlike (minus f x) (minus f y) in
    let w = nearest_whole_unique u (suc v) (whole even u (suc v)) n (omega arith) (whole_even_nearest u (suc v) (omega arith)) a in
    quotient_finite f x y u v e k ∙ ap (λ m. with_sign s (m % 2 ^ 31)) w ∙ ap (with_sign s) z ∙ signed_zero s

pub remquo_rows : (f : Format) → RemquoRows f (remquo_of f) (quotient_of f)
unfolding remquo_of quotient_of divide
remquo_rows f =
    record {
      nan_x = λ x y e. rw e (refl, refl);
      infinite_x = λ x y e. rw e (refl, refl);
      nan_y = λ x y e. rw e
          (divide_by_nan _ _ (λ u v. rest f (minus f x) u (whole even u v * v)) (kind f x), divide_by_nan _ _ (λ u v. with_sign (unlike (minus f x) (minus f y)) (whole even u v % 2 ^ 31)) (kind f x));
      zero_y = λ x y e. rw e
          (divide_by_zero _ _ (λ u v. rest f (minus f x) u (whole even u v * v)) (kind f x), divide_by_zero _ _ (λ u v. with_sign (unlike (minus f x) (minus f y)) (whole even u v % 2 ^ 31)) (kind f x));
      infinite_y = λ x y u e k. rw (e, k) (refl, refl);
      below_half_y = remquo_below f;
      zero_x = λ x y v p e k. remquo_below f x y 0 v p e k (omega arith);
      zero_left = λ x y u v e k z. (remquo_is f x y u v e k).zero_sign z;
      zero_quotient = zero_quotient_is f;
    }
