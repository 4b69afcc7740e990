-- The flags of a root: inexact alone, and not where the root is exact. It is judged by the root rounded down, since no attribute changes it. Assumes nothing.
use Prim.Native.Nat.{ℕ, suc, ◌+◌, ◌-◌, ◌*◌, ◌/◌, ◌%◌, ◌^◌, ◌≤◌, ◌<◌}
use mathlib.Core.Path.{◌≡◌, sym, ap, ◌∙◌, subst}
use mathlib.Core.Logic.{◌↔◌}
use mathlib.Core.Bool.{Bool, true, false, not, true≢false}
use native.Mathlib.Nat.{mod-eq_of_lt, mul-le-mul}
use native.Mathlib.Omega.{arith}
use lib.Dec.{eqb}
use lib.IntN.{pos, nat_abs}
use lib.Pow.{pow-add, pow_pos}
use borrow.Author.Tests.{lt-leb, eqb-true, eqb-false}
use Rattle.algebra.proofs.Products.{times, times_le, mul_eq_cancel}
use Rattle.algebra.proofs.Powers.{pow_diff}
use Rattle.ieee.specs.Format.{Format, top, inf, units, low}
use Rattle.ieee.specs.Pattern.{magnitude, minus, finite, kind, value}
use Rattle.ieee.specs.Round.{Attribute, toward_zero, way_of}
use Rattle.ieee.specs.Flags.{Flags, only_inexact}
use Rattle.ieee.specs.FlagsRule.{Equals, Exactly, FlagsRule}
use Rattle.ieee.specs.Sqrt.{exact_sqrt, sqrt_in, sqrt_flags_in}
use Rattle.ieee.proofs.Patterns.{inf_below_top, kind_finite, value_with, value_finite}
use Rattle.ieee.proofs.Raised.{inexact_alike}
use Rattle.ieee.proofs.Signs.{abs_signed}
use Rattle.ieee.proofs.SqrtFlags.{sqrt_flags_lem, sqrt_flags_rule, sqrt_no_overflow, sqrt_no_underflow}
use Rattle.ieee.proofs.Units.{units_at_lem}
use Rattle.fmt_fields.specs.Width.{format, Fits}
use Rattle.fmt_decode.specs.Significand.{sig_of}
use Rattle.sqrt_digits.specs.Floor.{pairs}
use Rattle.sqrt_table.specs.Residual.{Residual, floor_by, exact_by}
use Rattle.sqrt_number.specs.Split.{word_of, rounded_by, Above, Parts}
use Rattle.sqrt_number.proofs.Halves.{led, ready, floor_bounds, floor_exact, residual_answers}
use Rattle.sqrt_number.proofs.Rootings.{counted}
use Rattle.sqrt_number.proofs.Splits.{word_pairs}

module _ {p e : ℕ} (w : Fits p e) (x : ℕ) (a : Above (format p e) x) (sig up : ℕ) (h : Parts (format p e) x sig up) (l : p + 2 ≤ 2 ^ (e - 1))
    (root rem : ℕ) (c : Residual (pairs (word_of p sig up) (p + 1)) root rem) where
  abbrev f : Format
  f = format p e

  abbrev n : ℕ
  n = pairs (word_of p sig up) (p + 1)

  abbrev t : ℕ
  t = floor_by root rem

  abbrev k : ℕ
  k = up / 2 - 2

  -- the root rounded down
  abbrev r : ℕ
  r = k * 2 ^ p + t

  abbrev u : ℕ
  u = units f (magnitude f x)

  below : r < inf f
  below =
      let b = ready w x a sig up h l in
      omega (arith, floor_bounds w x a sig up h l root rem c, times_le {a = k + 2} {b = 2 ^ e - 1} (2 ^ p) (omega (arith, b.from, b.to)))

  plain : (magnitude f r ≡ r) × (minus f r ≡ false)
  plain = let q : r < top f = omega (arith, below, inf_below_top f) in (mod-eq_of_lt q, lt-leb (top f) r q)

  -- in smallest units
  counts : value f r ≡ pos (t * 2 ^ k)
  counts =
      let (m, s) = plain in
      let (b, d) = floor_bounds w x a sig up h l root rem c in
      let i : r ≡ suc k * 2 ^ p + (t - 2 ^ p) = omega arith in
      value_with f r false s ∙ ap (λ y. pos (units f y)) (m ∙ i) ∙ ap pos (units_at_lem f (suc k) (t - 2 ^ p) (omega arith) ∙ times (2 ^ k) (omega arith))

  radicand : n ≡ sig * 2 ^ (p + up % 2)
  radicand =
      let i : p + 1 + 0 ≡ p + 1 = omega arith in
      let j : p + 2 * 0 + up % 2 ≡ p + up % 2 = omega arith in
      ap (pairs (word_of p sig up)) (sym i) ∙ word_pairs p sig up (led w x a sig up h) 0 ∙ ap (λ k. sig * 2 ^ k) j

  -- its square is that of the radicand's root at twice the exponent
  square_counts : u * 2 ^ low f ≡ n * (2 ^ k * 2 ^ k)
  square_counts =
      let s : sig_of f x ≡ sig = sym h.sig_is in
      let d : 2 ^ (up / 2) ≡ 2 ^ k * 4 = sym (pow_diff {a = up / 2} {b = 2} (omega (arith, (ready w x a sig up h l).from))) in
      let c : u * 2 ^ low f * 256 ≡ sig * 2 ^ (p + 2 + up % 2) * (2 * (2 ^ k * 4) * (2 * (2 ^ k * 4))) =
      counted f w.fair x a.some up h.up_is ∙ (λ i. s i * 2 ^ (p + 2 + up % 2) * (2 * d i * (2 * d i))) in
      let j : p + 2 + up % 2 ≡ p + up % 2 + 2 = omega arith in
      let q : 2 ^ (p + 2 + up % 2) ≡ 2 ^ (p + up % 2) * 4 = ap (λ i. 2 ^ i) j ∙ pow-add 2 (p + up % 2) 2 in
      omega (arith, c, times (sig * (2 ^ k * 2 ^ k)) q, times (2 ^ k * 2 ^ k) radicand)

  number : kind f x ≡ finite u
  number = kind_finite f x a.below

  above : minus f x ≡ true → u ≡ 0
  above z = absurd (true≢false (sym z ∙ a.plus))

  radicand_is : nat_abs (value f x) * 2 ^ low f ≡ n * (2 ^ k * 2 ^ k)
  radicand_is = times (2 ^ low f) (ap nat_abs (value_finite f x u number) ∙ abs_signed (minus f x) u) ∙ square_counts

  exactly : Exactly f (exact_sqrt f x) r ↔ (t * t ≡ n)
  exactly = (
    λ (i, j).
        let d : nat_abs (value f x) * 2 ^ low f ≡ t * 2 ^ k * (t * 2 ^ k) = subst (Equals (exact_sqrt f x)) counts j in
        mul_eq_cancel (t * t) n (2 ^ k * 2 ^ k) (omega (arith, mul-le-mul (pow_pos k) (pow_pos k))) (omega (arith, d, radicand_is)),
    λ i. (omega (arith, below, plain), subst (Equals (exact_sqrt f x)) (sym counts) (radicand_is ∙ omega (arith, times (2 ^ k * 2 ^ k) i))),
  )

  rule : (g : Attribute) → FlagsRule f g (minus f x) (exact_sqrt f x) (sqrt_in f g x) (sqrt_flags_in f g x)
  rule g = sqrt_flags_rule f w.fair g x u number above

  floor_rule : FlagsRule f toward_zero (minus f x) (exact_sqrt f x) r (sqrt_flags_in f toward_zero x)
  floor_rule = subst (λ y. FlagsRule f toward_zero (minus f x) (exact_sqrt f x) y (sqrt_flags_in f toward_zero x)) (sym (residual_answers w x a sig up h l root rem c toward_zero)) (rule toward_zero)

  floor_inexact : not (exact_by root rem) ≡ (sqrt_flags_in f toward_zero x).inexact
  floor_inexact = go (exact_by root rem) (sym (floor_exact w x a sig up h l root rem c))
    where
      go : (b : Bool) → eqb (t * t) n ≡ b → not b ≡ (sqrt_flags_in f toward_zero x).inexact
      go true i = sym (floor_rule.exact_when.1 (exactly.1 (eqb-true (t * t) n i)))
      go false i = sym (floor_rule.inexact_when.1 (λ j. eqb-false (t * t) n i (exactly.0 j)))

  inexact_same : (g : Attribute) → (sqrt_flags_in f toward_zero x).inexact ≡ (sqrt_flags_in f g x).inexact
  inexact_same g =
      ap (λ F. F.inexact) (sqrt_flags_lem f toward_zero x u number above)
      ∙ inexact_alike f w.fair toward_zero g (minus f x) (minus f x) (exact_sqrt f x)
      ∙ sym (ap (λ F. F.inexact) (sqrt_flags_lem f g x u number above))

  root_flags : (g : Attribute) → only_inexact (not (exact_by root rem)) ≡ sqrt_flags_in f g x
  root_flags g =
      (λ j. record {
        invalid = sym (rule g).valid j;
        division_by_zero = sym (rule g).no_division j;
        overflow = sym (sqrt_no_overflow f w.fair g x) j;
        underflow = sym (sqrt_no_underflow f w.fair g x (omega arith)) j;
        inexact = (floor_inexact ∙ inexact_same g) j;
      })

  -- ---- the value y with the flags F, as they are computed
  pub root_row : (g : Attribute) {y : ℕ} {F : Flags} → (y ≡ rounded_by (way_of g false) p root rem up) × (F ≡ only_inexact (not (exact_by root rem))) → (y ≡ sqrt_in f g x) × (F ≡ sqrt_flags_in f g x)
  root_row g (i, j) = (i ∙ residual_answers w x a sig up h l root rem c g, j ∙ root_flags g)
