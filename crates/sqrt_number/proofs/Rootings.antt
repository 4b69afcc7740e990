-- The root of a positive number is the whole root of its radicand, with the sticky mark, rounded. Assumes nothing.
use Prim.Native.Nat.{ℕ, ◌+◌, ◌-◌, ◌*◌, ◌/◌, ◌%◌, ◌^◌, ◌≤◌, ◌<◌}
use mathlib.Core.Path.{◌≡◌, sym, ap, ◌∙◌}
use mathlib.Core.Bool.{Bool, true, false}
use native.Mathlib.Omega.{arith}
use lib.Dec.{eqb}
use lib.IntN.{pos, nat_abs, ◌+ℤ◌}
use lib.Pow.{pow-add, pow_pos}
use borrow.Author.Tests.{eqb-true, eqb-false}
use Rattle.algebra.proofs.Products.{times, times_le, mul_eq_cancel, mul_lt_cancel}
use Rattle.algebra.proofs.Roots.{sq_lt, Root}
use Rattle.algebra.proofs.Integers.{add_z, sub_z, eq_z_fact}
use Rattle.ieee.specs.Format.{Format, Fair, low, inf, units}
use Rattle.ieee.specs.Pattern.{magnitude, minus, finite, kind}
use Rattle.ieee.specs.Exact.{surd, root, magnified}
use Rattle.ieee.specs.Round.{Attribute, answer}
use Rattle.ieee.specs.Scalbn.{scaled}
use Rattle.ieee.specs.Sqrt.{sqrt_in}
use Rattle.ieee.proofs.Patterns.{kind_finite, value_finite}
use Rattle.ieee.proofs.Signs.{abs_signed}
use Rattle.ieee.proofs.Sqrts.{sqrt_answer}
use Rattle.ieee.proofs.Units.{units_zero, units_lt}
use Rattle.round_step.specs.Mark.{Marked}
use Rattle.round_step.proofs.MarkedAnswers.{root_marked, sticky_root_answer}
use Rattle.fmt_decode.specs.Significand.{sig_of, exp_of}
use Rattle.fmt_decode.proofs.Significands.{Normal, normal_is}
use Rattle.sqrt_digits.specs.Floor.{FloorRoot}
use Rattle.sqrt_digits.proofs.Digits.{root_of_lem}
use Rattle.sqrt_number.specs.Split.{lift, square, half_of, marked_by}
use Rattle.sqrt_number.proofs.Splits.{fields_twice}

-- ---- the mark is that of the root, by whether the root is exact
mark_of : (v n k t : ℕ) (b : Bool) → b ≡ eqb (t * t) k → 0 < n → v ≡ k * (2 * n * (2 * n)) → Root k t → Marked (root v) n (marked_by t b)
mark_of v n k t true e p h r =
    root_marked v n k t 0 p h r (omega arith) (λ z. eqb-true (t * t) k (sym e)) (λ z. absurd (omega arith))
mark_of v n k t false e p h r =
    root_marked v n k t 1 p h r (omega arith) (λ z. absurd (omega arith)) (λ z. eqb-false (t * t) k (sym e))

-- ---- the exponents add up
module _ (f : Format) (g : Fair f) (x : ℕ) (some : 0 < magnitude f x) (lifted : ℕ) (is : pos lifted ≡ exp_of f x +ℤ pos (lift f)) where
  abbrev p : ℕ
  p = f.frac

  exponents : (at : ℕ) → Normal f x at → at + low f + 8 ≡ p + p + 4 + lifted
  exponents at n =
      omega (arith, eq_z_fact is, add_z (exp_of f x) (pos (lift f)), eq_z_fact n.exponent, sub_z (pos at) (pos (p + low f)), fields_twice f g, pow_pos (f.expo - 1), g.frac_pos)

  -- where the fraction leaves room below the bias, the answer is a normal number
  pub up_least : f.frac + 2 ≤ 2 ^ (f.expo - 1) → 4 ≤ lifted
  up_least h = let (at, n) = normal_is f g x some in omega (arith, exponents at n)

  pub up_most : lifted / 2 < 2 ^ f.expo
  up_most = let (at, n) = normal_is f g x some in omega (arith, exponents at n, n.below_all, fields_twice f g, pow_pos (f.expo - 1))

  -- in smallest units, the number times the scale of its units is the radicand at the step of the mark
  pub counted : units f (magnitude f x) * 2 ^ low f * (2 ^ 4 * 2 ^ 4) ≡ square f x lifted * (2 * 2 ^ (lifted / 2) * (2 * 2 ^ (lifted / 2)))
  counted =
      let (at, n) = normal_is f g x some in
      let h = lifted / 2 in
      let o = lifted % 2 in
      let i : at + low f + 8 ≡ p + (p + 2 + o + (h + 1) + (h + 1)) = omega (arith, exponents at n) in
      let l : 2 ^ (at + low f + 8) ≡ 2 ^ at * 2 ^ low f * 2 ^ 8 = omega (arith, pow-add 2 (at + low f) 8, times (2 ^ 8) (pow-add 2 at (low f))) in
      let a : 2 ^ (p + 2 + o + (h + 1) + (h + 1)) ≡ 2 ^ (p + 2 + o) * 2 ^ (h + 1) * 2 ^ (h + 1) =
      pow-add 2 (p + 2 + o + (h + 1)) (h + 1) ∙ times (2 ^ (h + 1)) (pow-add 2 (p + 2 + o) (h + 1)) in
      let r : 2 ^ at * 2 ^ low f * 2 ^ 8 ≡ 2 ^ p * (2 ^ (p + 2 + o) * 2 ^ (h + 1) * 2 ^ (h + 1)) =
      sym l ∙ ap (λ j. 2 ^ j) i ∙ pow-add 2 p (p + 2 + o + (h + 1) + (h + 1)) ∙ ap (λ j. 2 ^ p * j) a in
      let d : 2 ^ (h + 1) ≡ 2 * 2 ^ h = omega (arith, pow-add 2 h 1) in
      let s : sig_of f x * (2 ^ at * 2 ^ low f * 2 ^ 8) ≡ sig_of f x * (2 ^ p * (2 ^ (p + 2 + o) * (2 * 2 ^ h) * (2 * 2 ^ h))) =
      ap (λ j. sig_of f x * j) (r ∙ ap (λ j. 2 ^ p * (2 ^ (p + 2 + o) * j * j)) d) in
      mul_eq_cancel _ _ (2 ^ p) (pow_pos p) (omega (arith, times (2 ^ low f * 2 ^ 8) n.counts, s))

  -- the whole root has two bits more than the fraction
  pub root_long : (t : ℕ) → FloorRoot (square f x lifted) t → 2 * 2 ^ p ≤ t
  root_long t r =
      let n = (normal_is f g x some).1 in
      let l : 2 ^ p * (2 ^ p * 4) ≤ square f x lifted = omega (arith, long, times_le (2 ^ p * 4) n.least, times_le (sig_of f x) long) in
      let s = sq_lt (2 * 2 ^ p) (t + 1) (omega (arith, r.high, l)) in
      omega arith
    where
      long : 2 ^ p * 4 ≤ 2 ^ (p + 2 + lifted % 2)
      long = omega (arith, pow-add 2 (p + 2) (lifted % 2), pow-add 2 p 2, times_le (2 ^ (p + 2)) (pow_pos (lifted % 2)))

  -- so the answer is the marked root, rounded
  pub root_answer : magnitude f x < inf f → minus f x ≡ false → (t : ℕ) (b : Bool) → FloorRoot (square f x lifted) t → b ≡ eqb (t * t) (square f x lifted) → (a : Attribute)
      → sqrt_in f a x ≡ answer f a false (scaled false (marked_by t b) (half_of lifted))
  root_answer l m t b r e a =
      sqrt_answer f a x u k (λ z. absurd (let q : ◌≡◌ {A = ℕ} 0 1 = cc in omega arith))
      ∙ ap (λ n. answer f a (minus f x) (surd (n * 2 ^ low f))) (ap nat_abs (value_finite f x u k) ∙ abs_signed (minus f x) u)
      ∙ sticky_root_answer f a (minus f x) (u * 2 ^ low f) (marked_by t b) (lifted / 2) 4 (half_of lifted) v_some (omega (arith, sub_z (pos (lifted / 2)) (pos 4))) mark (λ z. long b)
    where
      u : ℕ
      u = units f (magnitude f x)

      k : kind f x ≡ finite u
      k = kind_finite f x l

      v_some : 0 < u * 2 ^ low f
      v_some = mul_lt_cancel 0 (u * 2 ^ low f) 1 (omega (arith, times_le (2 ^ low f) (units_lt f some), units_zero f, pow_pos (low f)))

      mark : Marked (magnified (root (u * 2 ^ low f)) (2 ^ 4)) (2 ^ (lifted / 2)) (marked_by t b)
      mark = mark_of (u * 2 ^ low f * (2 ^ 4 * 2 ^ 4)) (2 ^ (lifted / 2)) (square f x lifted) t b e (pow_pos (lifted / 2)) counted (root_of_lem r)

      long : (b : Bool) → 2 ^ (2 + p) ≤ marked_by t b
      long true = omega (arith, root_long t r, pow-add 2 2 p)
      long false = omega (arith, root_long t r, pow-add 2 2 p)
