-- The toolchain's sum, rounded and written, is our sum of a product and a number, rounded to the nearest even. Assumes nothing.
use Prim.Native.Nat.{ℕ, suc, ◌+◌, ◌-◌, ◌*◌, ◌^◌, ◌≤◌, ◌<◌}
use mathlib.Core.Path.{◌≡◌, refl, sym, ap, ◌∙◌}
use mathlib.Core.Bool.{Bool, true, false, not, ◌&&◌, beq, cond}
use native.Mathlib.Nat.{mul-pos}
use native.Mathlib.Omega.{arith, both_ways}
use borrow.Author.Tests.{lt-ltb, le-ltb}
use lib.Dec.{ltb}
use lib.IntN.{ℤ, ◌+ℤ◌}
use lib.Pow.{pow-add, pow_pos}
use lib.Ieee.{Float, nan as their-nan, inf as their-inf, Format as Theirs, up, down, add, sum, round, to_bits}
use lib.Ieee.Fits.{down_pos}
use Rattle.algebra.proofs.Products.{order, times, times_le, diff, mul_lt_cancel, mul_eq_cancel}
use Rattle.ieee.specs.Format.{low, inf, canonical}
use Rattle.ieee.specs.Pattern.{Kind, signed, unlike, with_sign}
use Rattle.ieee.specs.Exact.{ratio, dyadic, sign_of}
use Rattle.ieee.specs.Round.{even, ties_to_even, rounded, answer}
use Rattle.ieee.specs.Fma.{sum_of, plus_by}
use Rattle.ieee.proofs.Signs.{signed_zero}
use Rattle.ieee.proofs.SignedSums.{plus_like, plus_more, plus_less}
use Rattle.ieee.proofs.Exacts.{answer_of, sign_own, sign_given}
use Rattle.ieee_agreement_laws.specs.Toolchain.{ours, Same, nans, infinities, numbers}
use Rattle.ieee_agreement_laws.proofs.Patterns.{write_nan, write_infinite}
use Rattle.ieee_agreement_laws.proofs.Rounding.{round_as}

-- ---- the toolchain's sum, by the signs
their_like : (k : Theirs) (s : Bool) (a b c : ℕ) → sum k s a s b c ≡ round k s (a + b) c
unfolding sum
their_like k false a b c = refl
their_like k true a b c = refl

their_less : (k : Theirs) (s : Bool) (a b c : ℕ) → a < b → sum k s a (not s) b c ≡ round k (not s) (b - a) c
unfolding sum
their_less k false a b c h = ap (λ t. cond t (round k true (b - a) c) (round k (false && ltb b a) (a - b) c)) (lt-ltb a b h)
their_less k true a b c h = ap (λ t. cond t (round k false (b - a) c) (round k (true && ltb b a) (a - b) c)) (lt-ltb a b h)

their_more : (k : Theirs) (s : Bool) (a b c : ℕ) → b < a → sum k s a (not s) b c ≡ round k s (a - b) c
unfolding sum
their_more k false a b c h = ap (λ t. cond t (round k true (b - a) c) (round k false (a - b) c)) (le-ltb a b (omega arith))
their_more k true a b c h =
    ap (λ t. cond t (round k false (b - a) c) (round k (true && ltb b a) (a - b) c)) (le-ltb a b (omega arith))
    ∙ ap (λ t. round k (true && t) (a - b) c) (lt-ltb b a h)

their_none : (k : Theirs) (s : Bool) (a b c : ℕ) → a ≡ b → sum k s a (not s) b c ≡ round k false (a - b) c
unfolding sum
their_none k false a b c h = ap (λ t. cond t (round k true (b - a) c) (round k false (a - b) c)) (le-ltb a b (omega arith))
their_none k true a b c h =
    ap (λ t. cond t (round k false (b - a) c) (round k (true && ltb b a) (a - b) c)) (le-ltb a b (omega arith))
    ∙ ap (λ t. round k (true && t) (a - b) c) (le-ltb b a (omega arith))

-- ---- of unlike signs: a / c and b / c are p / d and w / d units, and the sum is the greater less the other
module _ (k : Theirs) (s : Bool) (a b c p w d : ℕ) (C : 0 < c) (D : 0 < d) (A : a * 2 ^ low (ours k) * d ≡ p * c) (B : b * 2 ^ low (ours k) * d ≡ w * c) where
  P : ℕ
  P = 2 ^ low (ours k) * d

  a_is : a * P ≡ p * c
  unfolding P
  a_is = omega (arith, A)

  b_is : b * P ≡ w * c
  unfolding P
  b_is = omega (arith, B)

  pub unlike_less : p < w → to_bits k (sum k s a (not s) b c) ≡ signed (ours k) (not s) (rounded (ours k) even (ratio (w - p) d))
  unfolding P
  unlike_less h =
      let g : a < b = mul_lt_cancel a b P (omega (arith, a_is, b_is, C, times_le c h)) in
      let l : a ≤ b = omega arith in
      let m : p ≤ w = omega arith in
      ap (to_bits k) (their_less k s a b c g) ∙ round_as k (not s) (b - a) c (w - p) d C D (omega (arith, a_is, b_is, diff P l, diff c m))

  pub unlike_more : w < p → to_bits k (sum k s a (not s) b c) ≡ signed (ours k) s (rounded (ours k) even (ratio (p - w) d))
  unfolding P
  unlike_more h =
      let g : b < a = mul_lt_cancel b a P (omega (arith, a_is, b_is, C, times_le c h)) in
      let l : b ≤ a = omega arith in
      let m : w ≤ p = omega arith in
      ap (to_bits k) (their_more k s a b c g) ∙ round_as k s (a - b) c (p - w) d C D (omega (arith, a_is, b_is, diff P l, diff c m))

  pub unlike_none : p ≡ w → to_bits k (sum k s a (not s) b c) ≡ signed (ours k) false (rounded (ours k) even (ratio 0 d))
  unfolding P
  unlike_none h =
      let e : a ≡ b = mul_eq_cancel a b P (mul-pos (pow_pos (low (ours k))) D) (omega (arith, a_is, b_is, times c h)) in
      let z : a - b ≡ 0 = omega arith in
      ap (to_bits k) (their_none k s a b c e ∙ ap (λ (n : ℕ). round k false n c) z) ∙ round_as k false 0 c 0 d C D (omega arith)

-- ---- a / c is p / 2 ^ low units, as for an exact product, and b / c is w units
module _ (k : Theirs) (a b c p w : ℕ) (C : 0 < c) (A : a * 2 ^ (low (ours k) + low (ours k)) ≡ p * c) (B : b * 2 ^ low (ours k) ≡ w * c) where
  W : ℕ
  W = w * 2 ^ low (ours k)

  a_in : a * 2 ^ low (ours k) * 2 ^ low (ours k) ≡ p * c
  a_in = omega (arith, A, times a (pow-add 2 (low (ours k)) (low (ours k))))

  b_in : b * 2 ^ low (ours k) * 2 ^ low (ours k) ≡ W * c
  unfolding W
  b_in = omega (arith, times (2 ^ low (ours k)) B)

  D : 0 < 2 ^ low (ours k)
  D = pow_pos (low (ours k))

  -- their answer, as ours for an exact value of the sign t
  answered : (s t : Bool) (n : ℕ) (z : ℤ) → sign_of s (dyadic (with_sign t n) (low (ours k))) ≡ t → z ≡ with_sign t n
      → signed (ours k) t (rounded (ours k) even (ratio n (2 ^ low (ours k)))) ≡ answer (ours k) ties_to_even s (dyadic z (low (ours k)))
  answered s t n z g e =
      sym (answer_of (ours k) ties_to_even s t n (low (ours k)) g)
      ∙ ap (λ y. answer (ours k) ties_to_even s (dyadic y (low (ours k)))) (sym e)

  like : (s : Bool) → to_bits k (sum k s a s b c) ≡ answer (ours k) ties_to_even s (dyadic (with_sign s p +ℤ with_sign s W) (low (ours k)))
  like s =
      ap (to_bits k) (their_like k s a b c)
      ∙ round_as k s (a + b) c (p + W) (2 ^ low (ours k)) C D (omega (arith, a_in, b_in))
      ∙ answered s s (p + W) (with_sign s p +ℤ with_sign s W) (sign_own s (p + W) (low (ours k))) (plus_like s p W)

  other : (s : Bool) → to_bits k (sum k s a (not s) b c) ≡ answer (ours k) ties_to_even false (dyadic (with_sign s p +ℤ with_sign (not s) W) (low (ours k)))
  other s =
      let l = low (ours k) in
      let P = 2 ^ l in
      let z = with_sign s p +ℤ with_sign (not s) W in
      order (suc p) W
      (λ h. unlike_less k s a b c p W P C D a_in b_in h ∙ answered false (not s) (W - p) z (sign_given false (not s) (W - p) l (omega arith)) (plus_less s p W (omega arith)))
      (λ h. order (suc W) p
      (λ g. unlike_more k s a b c p W P C D a_in b_in g ∙ answered false s (p - W) z (sign_given false s (p - W) l (omega arith)) (plus_more s p W (omega arith)))
      (λ g.
      let e : p ≡ W = both_ways p W (omega arith) (omega arith) in
      let o : p - W ≡ 0 = omega arith in
      unlike_none k s a b c p W P C D a_in b_in e
      ∙ answered false false 0 z (sign_own false 0 l) (plus_more s p W (omega arith) ∙ ap (with_sign s) o ∙ signed_zero s)))

  sum_same : (s t : Bool) → to_bits k (sum k s a t b c) ≡ answer (ours k) ties_to_even (cond (unlike s t) false s) (sum_of (ours k) s p t w)
  unfolding W
  sum_same false false = like false
  sum_same false true = other false
  sum_same true false = other true
  sum_same true true = like true

-- ---- of all values
infinities_meet : (k : Theirs) (s t : Bool) → to_bits k (cond (beq s t) (their-inf s) their-nan) ≡ cond (unlike s t) (canonical (ours k)) (signed (ours k) s (inf (ours k)))
infinities_meet k false false = write_infinite k false
infinities_meet k false true = write_nan k
infinities_meet k true false = write_nan k
infinities_meet k true true = write_infinite k true

-- v is in 2 ^ -low of smallest units, as for an exact product
pub add_same : (k : Theirs) {v w : Float} {s t : Bool} {a b : Kind} → Same (low (ours k) + low (ours k)) v s a → Same (low (ours k)) w t b
    → to_bits k (add k v w) ≡ plus_by (ours k) ties_to_even s a t b
unfolding add plus_by
add_same k (nans s) g = write_nan k
add_same k (infinities s) (nans t) = write_nan k
add_same k (infinities s) (infinities t) = infinities_meet k s t
add_same k (infinities s) (numbers t n d w q) = write_infinite k s
add_same k (numbers s m e p g) (nans t) = write_nan k
add_same k (numbers s m e p g) (infinities t) = write_infinite k t
add_same k (numbers s m e p g) (numbers t n d w h) =
    sum_same k (m * up e * down d) (n * up d * down e) (down e * down d) p w (mul-pos (down_pos e) (down_pos d)) (omega (arith, times (down d) g)) (omega (arith, times (down e) h)) s t
