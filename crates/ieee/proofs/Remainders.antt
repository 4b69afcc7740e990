-- fmod is exact: what is left of x, nothing rounded, and nothing else is. Assumes nothing.
use Prim.Native.Nat.{ℕ, zero, suc, ◌+◌, ◌-◌, ◌*◌, ◌/◌, ◌%◌, ◌^◌, ◌≤◌, ◌<◌}
use mathlib.Core.Path.{◌≡◌, refl, sym, ap, ◌∙◌, subst}
use mathlib.Core.Bool.{Bool}
use native.Mathlib.Nat.{mod-lt}
use native.Mathlib.Omega.{arith}
use lib.Pow.{pow_pos}
use Rattle.algebra.proofs.Products.{order, times, times_le, diff, mul_le_cancel}
use Rattle.algebra.proofs.Quotients.{div_mod, quot_unique}
use Rattle.algebra.proofs.Powers.{pow_diff}
use Rattle.ieee.specs.Format.{Format, top, inf, fields, units}
use Rattle.ieee.specs.Pattern.{Pattern, minus, magnitude, signed, Kind, nan, infinite, finite, kind}
use Rattle.ieee.specs.Rule.{distance}
use Rattle.ieee.specs.Round.{even, exactly}
use Rattle.ieee.specs.Fmod.{divide, left, fmod_of}
use Rattle.ieee.specs.FmodRule.{Left, FmodRows}
use Rattle.ieee.proofs.Units.{units_is, units_lt_inv, units_lt, units_inj}
use Rattle.ieee.proofs.Held.{exact}
use Rattle.ieee.proofs.Patterns.{magnitude_signed, minus_signed, pattern_signed, same_pattern, inf_below_top, Finite, finite_is}

-- ---- differences that the format holds
-- u has at most frac + 1 digits, and then zeros
record Digits (f : Format) (u : ℕ) : Type 0 where
  digits : ℕ
  zeros : ℕ
  few : digits < 2 * 2 ^ f.frac
  is : u ≡ digits * 2 ^ zeros

units_digits : (f : Format) (m : ℕ) → Digits f (units f m)
units_digits f m = subst (Digits f) (sym (units_is f m)) (go (m / 2 ^ f.frac) (m % 2 ^ f.frac) (mod-lt m (pow_pos f.frac)))
  where
    go : (q t : ℕ) → t < 2 ^ f.frac → Digits f (fields (2 ^ f.frac) q t)
    go zero t l = record { digits = t; zeros = 0; few = omega arith; is = omega arith }
    go (suc e) t l = record { digits = 2 ^ f.frac + t; zeros = e; few = omega arith; is = refl }

distance_times : (p q t : ℕ) → distance (p * t) (q * t) ≡ distance p q * t
distance_times p q t =
    order p q
    (λ h. let e : distance p q ≡ q - p = omega arith in omega (arith, times t e, diff t h, times_le t h))
    (λ h. let e : distance p q ≡ p - q = omega arith in let l : q ≤ p = omega arith in omega (arith, times t e, diff t l, times_le t l))

-- over a common power of two, a distance that is at most c of it has at most the digits of c
common_digits : (f : Format) (u v n a b c i : ℕ) → u ≡ a * 2 ^ i → v ≡ b * 2 ^ i → c < 2 * 2 ^ f.frac → distance u (n * v) ≤ c * 2 ^ i → Digits f (distance u (n * v))
common_digits f u v n a b c i p q l h = record { digits = d; zeros = i; few = omega (arith, mul_le_cancel d c (2 ^ i) (pow_pos i) (omega (arith, e))); is = e }
  where
    d : ℕ
    d = distance a (n * b)

    e : distance u (n * v) ≡ d * 2 ^ i
    e = (λ k. distance (p k) (n * q k)) ∙ ap (distance (a * 2 ^ i)) (omega arith) ∙ distance_times a (n * b) (2 ^ i)

difference_digits : (f : Format) (u v n : ℕ) → Digits f u → Digits f v → distance u (n * v) ≤ u → distance u (n * v) ≤ v → Digits f (distance u (n * v))
difference_digits f u v n p q h k =
    order q.zeros p.zeros
    (λ l. common_digits f u v n (p.digits * 2 ^ (p.zeros - q.zeros)) q.digits q.digits q.zeros (omega (arith, p.is, times p.digits (pow_diff l))) q.is q.few (omega (arith, q.is)))
    (λ l.
    let g : p.zeros ≤ q.zeros = omega arith in
    common_digits f u v n p.digits (q.digits * 2 ^ (q.zeros - p.zeros)) p.digits p.zeros p.is (omega (arith, q.is, times q.digits (pow_diff g))) p.few (omega (arith, p.is)))

-- q is the finite pattern with the sign s that stands for r units
pub record Stands (f : Format) (s : Bool) (r q : ℕ) : Type 0 where
  pub pattern : Pattern f q
  pub finite : magnitude f q < inf f
  pub counts : units f (magnitude f q) ≡ r
  pub sign : minus f q ≡ s

exactly_stands : (f : Format) (s : Bool) (r : ℕ) → units f (exactly f r) ≡ r → r < units f (inf f) → Stands f s r (signed f s (exactly f r))
exactly_stands f s r e h =
    record {
      pattern = pattern_signed f s m l;
      finite = omega (arith, b, magnitude_signed f s m l);
      counts = ap (units f) (magnitude_signed f s m l) ∙ e;
      sign = minus_signed f s m l;
    }
  where
    m : ℕ
    m = exactly f r

    b : m < inf f
    b = units_lt_inv f m (inf f) (omega (arith, e))

    l : m < top f
    l = omega (arith, b, inf_below_top f)

-- so the distance from a number to a multiple of another has a pattern, where it is at most both numbers
pub difference_stands : (f : Format) (s : Bool) (m k n r : ℕ) → m < inf f → r ≡ distance (units f m) (n * units f k) → r ≤ units f m → r ≤ units f k → Stands f s r (signed f s (exactly f r))
difference_stands f s m k n r l e h g = exactly_stands f s r held (omega (arith, units_lt f l))
  where
    d : Digits f r
    d = subst (Digits f) (sym e) (difference_digits f (units f m) (units f k) n (units_digits f m) (units_digits f k) (omega arith) (omega arith))

    held : units f (exactly f r) ≡ r
    held = subst (λ t. units f (exactly f t) ≡ t) (sym d.is) (exact f even d.zeros d.digits d.few (omega (arith, d.is, units_lt f l)))

fmod_finite : (f : Format) (x y u v : ℕ) → kind f x ≡ finite u → kind f y ≡ finite (suc v) → fmod_of f x y ≡ signed f (minus f x) (exactly f (left u (suc v)))
unfolding fmod_of divide
fmod_finite f x y u v p q = rw (p, q)

pub fmod_is : (f : Format) (x y u v : ℕ) → kind f x ≡ finite u → kind f y ≡ finite (suc v) → Left f x y (fmod_of f x y)
fmod_is f x y u v e k =
    record {
      n = n;
      pattern = w.pattern;
      finite = w.finite;
      counts = omega (arith, w.counts, a.counts, d);
      small = omega (arith, w.counts, d);
      sign = w.sign;
    }
  where
    n : ℕ
    n = u / suc v

    a : Finite f x u
    a = finite_is f x u e

    b : units f (magnitude f y) ≡ suc v
    b = (finite_is f y (suc v) k).counts

    d : (n * units f (magnitude f y) + left u (suc v) ≡ u) × (left u (suc v) < units f (magnitude f y))
    d = omega (arith, b, times n b, div_mod u (suc v) (omega arith))

    w : Stands f (minus f x) (left u (suc v)) (fmod_of f x y)
    w =
        subst (Stands f (minus f x) (left u (suc v))) (sym (fmod_finite f x y u v e k))
        (difference_stands f (minus f x) (magnitude f x) (magnitude f y) n (left u (suc v)) a.below (omega (arith, a.counts, d)) (omega (arith, a.counts, d)) (omega (arith, d)))

pub fmod_only : (f : Format) (x y r q : ℕ) → Left f x y r → Left f x y q → r ≡ q
fmod_only f x y r q a b =
    same_pattern f r q a.pattern b.pattern (a.sign ∙ sym b.sign)
    (units_inj f (magnitude f r) (magnitude f q)
    (quot_unique (units f (magnitude f y)) a.n (units f (magnitude f r)) b.n (units f (magnitude f q)) a.small b.small (sym a.counts ∙ b.counts)).1)

below_left : (f : Format) (x y u v : ℕ) → Pattern f x → kind f x ≡ finite u → kind f y ≡ finite v → u < v → Left f x y x
below_left f x y u v p e k l =
    let a : Finite f x u = finite_is f x u e in
    record { n = 0; pattern = p; finite = a.below; counts = omega arith; small = omega (arith, a.counts, (finite_is f y v k).counts); sign = refl }

fmod_below : (f : Format) (x y u v : ℕ) → Pattern f x → kind f x ≡ finite u → kind f y ≡ finite v → u < v → fmod_of f x y ≡ x
fmod_below f x y u zero p e k l = absurd (omega arith)
fmod_below f x y u (suc v) p e k l = fmod_only f x y (fmod_of f x y) x (fmod_is f x y u v e k) (below_left f x y u (suc v) p e k l)

pub divide_by_nan : {A : Type 0} (none same : A) (r : ℕ → ℕ → A) (k : Kind) → divide none same r k nan ≡ none
unfolding divide
divide_by_nan none same r nan = refl
divide_by_nan none same r infinite = refl
divide_by_nan none same r (finite u) = refl

pub divide_by_zero : {A : Type 0} (none same : A) (r : ℕ → ℕ → A) (k : Kind) → divide none same r k (finite 0) ≡ none
unfolding divide
divide_by_zero none same r nan = refl
divide_by_zero none same r infinite = refl
divide_by_zero none same r (finite u) = refl

pub fmod_rows : (f : Format) → FmodRows f (fmod_of f)
unfolding fmod_of divide
fmod_rows f =
    record {
      nan_x = λ x y e. rw e;
      infinite_x = λ x y e. rw e;
      nan_y = λ x y e. rw e (divide_by_nan _ _ (λ u v. signed f (minus f x) (exactly f (left u v))) (kind f x));
      zero_y = λ x y e. rw e (divide_by_zero _ _ (λ u v. signed f (minus f x) (exactly f (left u v))) (kind f x));
      infinite_y = λ x y u e k. rw (e, k);
      below_y = fmod_below f;
      zero_x = λ x y v p e k. fmod_below f x y 0 (suc v) p e k (omega arith);
      zero_left = λ x y u v e k z. (fmod_is f x y u v e k).sign;
    }
