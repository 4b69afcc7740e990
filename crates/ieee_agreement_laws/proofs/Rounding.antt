-- The toolchain's rounding is ours: of every signed fraction, to the nearest, ties to even, with subnormal results and overflow. Assumes nothing.
use Prim.Native.Nat.{ℕ, suc, ◌+◌, ◌-◌, ◌*◌, ◌/◌, ◌%◌, ◌^◌, ◌≤◌, ◌<◌, compare, Ordering}
use mathlib.Core.Path.{◌≡◌, refl, sym, ap, ◌∙◌, subst}
use mathlib.Core.Bool.{Bool, false, cond}
use native.Mathlib.Nat.{mod-lt, div-add-mod', div-div-eq-div-mul, mul-pos, two-pow-succ}
use native.Mathlib.Omega.{arith, by_contra}
use borrow.Author.Tests.{le-ltb}
use lib.Pow.{pow-add, pow_pos}
use lib.IntN.{ℤ, nat_abs}
use lib.Ieee.{inf as their-inf, Format as Theirs, prec, emax, low as their-low, size, nearest, odd, units as their-units, round, to_bits}
use lib.Ieee.Fits.{kept-lt, core, round_is}
use lib.Ieee.Exact.{HasValue, units_val}
use lib.Ieee.Order.{drop, kept}
use Rattle.algebra.proofs.Products.{order, times, times_le}
use Rattle.algebra.proofs.Powers.{pow_diff}
use Rattle.ieee.specs.Format.{Format, Fair, low, inf, units}
use Rattle.ieee.specs.Pattern.{magnitude, signed}
use Rattle.ieee.specs.Rule.{to_even, Nearest}
use Rattle.ieee.proofs.Patterns.{magnitude_signed, inf_below_top}
use Rattle.ieee.proofs.Past.{rounded_le}
use Rattle.ieee.proofs.Rule.{rounded_nearest}
use Rattle.ieee.specs.Exact.{ratio, dyadic, sign_of}
use Rattle.ieee.specs.Round.{Way, even, ties_to_even, rounded, middle, answer}
use Rattle.ieee.proofs.Units.{units_lt, units_lt_inv}
use Rattle.ieee.proofs.Rises.{ratio_rises, ratio_same}
use Rattle.ieee_agreement_laws.specs.Toolchain.{ours}
use Rattle.ieee_agreement_laws.proofs.Formats.{fair, prec_is, low_is, end_is}
use Rattle.ieee_agreement_laws.proofs.Digits.{digits_units, kept_pos}
use Rattle.ieee_agreement_laws.proofs.Choice.{Cmp, cmp, chosen, overflows}
use Rattle.ieee_agreement_laws.proofs.Patterns.{write, write_infinite}

-- ---- the toolchain's `nearest`
up_to : (q : ℕ) (o : Ordering) → (q ≤ nearest q o) × (nearest q o ≤ suc q)
up_to q Ordering.lt = omega arith
up_to q Ordering.eq = omega arith
up_to q Ordering.gt = omega arith

-- adding an even number changes nothing
nearest_after : (a q : ℕ) (o : Ordering) → a % 2 ≡ 0 → nearest (a + q) o ≡ a + nearest q o
nearest_after a q Ordering.lt e = refl
nearest_after a q Ordering.eq e = omega arith
nearest_after a q Ordering.gt e = omega arith

even_field : (f : Format) → Fair f → (j : ℕ) → j * 2 ^ f.frac % 2 ≡ 0
even_field f g j = go (2 ^ f.frac) (2 ^ (f.frac - 1)) (pow_diff {a = f.frac} {b = 1} g.frac_pos)
  where
    go : (b c : ℕ) → c * 2 ≡ b → j * b % 2 ≡ 0
    go b c e = omega (arith, times j e)

-- ---- n / d units, truncated to the digits that the format keeps
module _ (f : Format) (g : Fair f) (n d : ℕ) (p : 0 < d) where
  H : ℕ
  H = 2 ^ f.frac

  j : ℕ
  j = size (n / d) - suc f.frac

  u : ℕ
  unfolding j
  u = d * 2 ^ j

  u_pos : 0 < u
  unfolding u
  u_pos = mul-pos p (pow_pos j)

  q : ℕ
  unfolding u
  q = n / u

  r : ℕ
  unfolding u
  r = n % u

  split : q * u + r ≡ n
  unfolding q r
  split = div-add-mod' n u

  r_small : r < u
  unfolding r
  r_small = mod-lt n u_pos

  q_small : q < 2 * H
  unfolding q H
  q_small = subst (λ (a : ℕ). a < 2 * 2 ^ f.frac) (div-div-eq-div-mul n d (2 ^ j)) (omega (arith, kept-lt (suc f.frac) (n / d), two-pow-succ f.frac))

  q_full : 0 < j → H ≤ q
  unfolding q H
  q_full h = subst (λ (a : ℕ). 2 ^ f.frac ≤ a) (div-div-eq-div-mul n d (2 ^ j)) (kept_pos f.frac (n / d) h)

  -- the lower neighbour
  m : ℕ
  unfolding q H
  m = j * H + q

  m_units : units f m ≡ q * 2 ^ j
  unfolding m
  m_units = digits_units f j q q_full (omega (arith, q_small))

  next_units : units f (suc m) ≡ suc q * 2 ^ j
  unfolding m
  next_units = ap (units f) (omega arith) ∙ digits_units f j (suc q) (λ h. omega (arith, q_full h)) (omega (arith, q_small))

  at : units f m * d ≤ n
  unfolding u
  at = omega (arith, times d m_units, split)

  before : n < units f (suc m) * d
  unfolding u
  before = omega (arith, times d next_units, split, r_small)

  -- the remainder compares with half of the divisor as the value does with the middle
  middle_is : middle f m * d ≡ 2 * (q * u) + u
  unfolding u
  middle_is = omega (arith, times d m_units, times d next_units)

  compares : (o : Ordering) → Cmp o (r * 2) u → Cmp o (2 * n) (middle f m * d)
  compares Ordering.lt h = omega (arith, middle_is, split)
  compares Ordering.eq h = omega (arith, middle_is, split)
  compares Ordering.gt h = omega (arith, middle_is, split)

  o : Ordering
  unfolding r u
  o = compare (r * 2) u

  told : Cmp o (2 * n) (middle f m * d)
  unfolding o
  told = compares (compare (r * 2) u) (cmp (r * 2) u)

  -- the magnitude of the toolchain's digits
  result : ℕ
  unfolding q o H
  result = j * H + nearest q o

  result_is : nearest m o ≡ result
  unfolding result m
  result_is = nearest_after (j * H) q o (even_field f g j)

  result_units : units f result ≡ nearest q o * 2 ^ j
  unfolding result
  result_units = digits_units f j (nearest q o) (λ h. omega (arith, q_full h, up_to q o)) (omega (arith, q_small, up_to q o))

  rounds : result ≤ inf f → rounded f even (ratio n d) ≡ result
  rounds h = chosen f n d p m at before o told (omega (arith, result_is)) ∙ result_is

  ends : inf f ≤ result → rounded f even (ratio n d) ≡ inf f
  ends h = overflows f n d p m at before o told (omega (arith, result_is))

  finite_end : nearest q o * 2 ^ j < units f (inf f) → (rounded f even (ratio n d) ≡ result) × (units f (rounded f even (ratio n d)) ≡ nearest q o * 2 ^ j)
  finite_end h =
      let l : result < inf f = units_lt_inv f result (inf f) (omega (arith, result_units)) in
      let e = rounds (omega arith) in
      (e, ap (units f) e ∙ result_units)

  infinite_end : units f (inf f) ≤ nearest q o * 2 ^ j → rounded f even (ratio n d) ≡ inf f
  infinite_end h = ends (by_contra (inf f) result (λ l. omega (arith, result_units, units_lt f l)))

  -- in the toolchain's terms: it keeps `kept` digits, and drops `drop`
  finite_says : kept (suc f.frac) n d * 2 ^ drop (suc f.frac) n d < units f (inf f)
      → units f (rounded f even (ratio n d)) ≡ kept (suc f.frac) n d * 2 ^ drop (suc f.frac) n d
  unfolding q o
  finite_says h = (finite_end h).1

  infinite_says : units f (inf f) ≤ kept (suc f.frac) n d * 2 ^ drop (suc f.frac) n d → rounded f even (ratio n d) ≡ inf f
  unfolding q o
  infinite_says h = infinite_end h

-- ---- the toolchain's rounding
module _ (k : Theirs) (s : Bool) where
  past_end : (q j : ℕ) → 2 ^ (their-low k + suc (emax k)) ≤ q * 2 ^ j → their-units k s q j ≡ their-inf s
  unfolding their-units
  past_end q j h = ap (λ b. cond b (odd (suc (prec k)) s q j (their-low k)) (their-inf s)) (le-ltb (q * 2 ^ j) (2 ^ (their-low k + suc (emax k))) h)

  module _ (n d : ℕ) (p : 0 < d) where
    f : Format
    f = ours k

    Q : ℕ
    unfolding f
    Q = kept (suc f.frac) n d

    J : ℕ
    unfolding f
    J = drop (suc f.frac) n d

    R : ℕ
    unfolding f
    R = rounded f even (ratio n d)

    finite_case : Q * 2 ^ J < units f (inf f) → to_bits k (their-units k s Q J) ≡ signed f s R
    unfolding Q J R f
    finite_case h =
        let v = their-units k s Q J in
        write k v s R
        (subst (λ (a : ℕ). HasValue v s a (2 ^ low f)) (sym (finite_says f (fair k) n d p h))
        (subst (λ (l : ℕ). HasValue v s (Q * 2 ^ J) (2 ^ l)) (low_is k) (units_val k s Q J (subst (λ (e : ℕ). Q * 2 ^ J < e) (sym (end_is k)) h))))

    infinite_case : units f (inf f) ≤ Q * 2 ^ J → to_bits k (their-units k s Q J) ≡ signed f s R
    unfolding Q J R f
    infinite_case h =
        ap (to_bits k) (past_end Q J (subst (λ (e : ℕ). e ≤ Q * 2 ^ J) (sym (end_is k)) h))
        ∙ write_infinite k s ∙ ap (signed f s) (sym (infinite_says f (fair k) n d p h))

    core_same : to_bits k (core k s n d (size (n / d) - prec k)) ≡ signed (ours k) s (rounded (ours k) even (ratio n d))
    unfolding Q J R f
    core_same =
        ap (λ (a : ℕ). to_bits k (core k s n d (size (n / d) - a))) (prec_is k)
        ∙ order (units f (inf f)) (Q * 2 ^ J) infinite_case finite_case

  -- num / den, rounded and written by the toolchain, is num / den in our units, rounded by us, with the sign
  pub round_same : (num den : ℕ) → 0 < den → to_bits k (round k s num den) ≡ signed (ours k) s (rounded (ours k) even (ratio (num * 2 ^ low (ours k)) den))
  round_same num den p =
      ap (to_bits k) (round_is k s num den) ∙ core_same (num * 2 ^ their-low k) den p
      ∙ ap (λ (l : ℕ). signed (ours k) s (rounded (ours k) even (ratio (num * 2 ^ l) den))) (low_is k)

  -- for any equal ratio of units
  pub round_as : (num den u d : ℕ) → 0 < den → 0 < d → num * 2 ^ low (ours k) * d ≡ u * den → to_bits k (round k s num den) ≡ signed (ours k) s (rounded (ours k) even (ratio u d))
  round_as num den u d p q e = round_same num den p ∙ ap (signed (ours k) s) (ratio_same (ours k) even (num * 2 ^ low (ours k)) den u d p q e)

-- so the toolchain's rounding meets the standard's rule as we state it: no finite number is nearer, ties to even, infinity from the halfway point on
pub round_nearest : (k : Theirs) (s : Bool) (num den : ℕ) → 0 < den → Nearest (ours k) to_even (ratio (num * 2 ^ low (ours k)) den) (magnitude (ours k) (to_bits k (round k s num den)))
round_nearest k s num den p =
    let f = ours k in
    let x = ratio (num * 2 ^ low f) den in
    subst (Nearest f to_even x)
    (sym (ap (magnitude f) (round_same k s num den p) ∙ magnitude_signed f s (rounded f even x) (omega (arith, rounded_le f even x, inf_below_top f))))
    (rounded_nearest f (fair k) to_even x p)

-- every exact value over a power of two: our answer to the nearest even is the toolchain's rounding
pub answer_same : (k : Theirs) (s : Bool) (z : ℤ) (c : ℕ)
    → to_bits k (round k (sign_of s (dyadic z c)) (nat_abs z) (2 ^ (c + low (ours k)))) ≡ answer (ours k) ties_to_even s (dyadic z c)
unfolding answer
answer_same k s z c =
    round_as k (sign_of s (dyadic z c)) (nat_abs z) (2 ^ (c + low (ours k))) (nat_abs z) (2 ^ c) (pow_pos (c + low (ours k))) (pow_pos c)
    (omega (arith, times (nat_abs z) (pow-add 2 c (low (ours k)))))

-- a greater fraction is not written as less
pub written_rises : (k : Theirs) (a c b d : ℕ) → 0 < c → 0 < d → a * d ≤ b * c → to_bits k (round k false a c) ≤ to_bits k (round k false b d)
written_rises k a c b d p q h =
    let P = 2 ^ low (ours k) in
    omega (arith, round_same k false a c p, round_same k false b d q, ratio_rises (ours k) even (a * P) c (b * P) d p q (omega (arith, times_le P h)))
