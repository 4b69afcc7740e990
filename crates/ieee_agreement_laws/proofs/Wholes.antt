-- Our trunc and floor, from the whole part of the toolchain's number, and from its casts. Assumes nothing.
use Prim.Native.Nat.{ℕ, zero, suc, ◌+◌, ◌-◌, ◌*◌, ◌/◌, ◌%◌, ◌^◌, ◌<◌, min}
use mathlib.Core.Path.{◌≡◌, refl, sym, ap, ◌∙◌}
use mathlib.Core.Logic.{◌↔◌}
use mathlib.Core.Bool.{Bool, true, false, not, ◌&&◌, cond}
use native.Mathlib.Nat.{div-add-mod'}
use native.Mathlib.Omega.{arith}
use lib.Dec.{eqb}
use lib.IntN.{ℤ, pos, neg_ℤ}
use lib.Pow.{pow_pos}
use lib.Ieee.{Float, inf as their-inf, fin, Format as Theirs, up, down, round, of_int, to_unsigned, to_signed, of_bits, to_bits}
use lib.Ieee.Fits.{down_pos}
use lib.Ieee.Nearest.{div_same}
use Rattle.algebra.proofs.Products.{times, mul_le_cancel}
use Rattle.ieee.specs.Format.{low, inf}
use Rattle.ieee.specs.Pattern.{Pattern, minus, signed, with_sign, Kind, infinite, finite, kind}
use Rattle.ieee.specs.Round.{Attribute, toward_zero, toward_negative, way_of, exactly}
use Rattle.ieee.specs.Whole.{whole, whole_in, trunc_of, floor_of}
use Rattle.ieee.specs.Fmod.{left}
use Rattle.ieee.proofs.Decide.{alike, eqb_reads}
use Rattle.ieee.proofs.Patterns.{infinity_is}
use Rattle.ieee.proofs.WholeParts.{whole_in_finite, nan_canonical, infinity_stays}
use Rattle.ieee_agreement_laws.specs.Toolchain.{ours, Same, nans, infinities, numbers, part, truncated, floored}
use Rattle.ieee_agreement_laws.proofs.Patterns.{pattern_same, write_nan, write_infinite, counted}
use Rattle.ieee_agreement_laws.proofs.Rounding.{round_as}
use Rattle.ieee_agreement_laws.proofs.Remainders.{left_scale}

-- ---- whole numbers, from a / b = u / P
-- something is cut off in one account exactly where it is in the other
cut_off : (a b P u : ℕ) → 0 < b → 0 < P → a * P ≡ u * b → (u % P ≡ 0) ↔ (a % b ≡ 0)
cut_off a b P u s p h =
    let e : (a % b) * P ≡ left u P * b = left_scale a b P u P b p s p h (omega arith) in
    let l : left u P ≡ u % P = omega (arith, div-add-mod' u P) in (
      λ z. omega (arith, mul_le_cancel (a % b) 0 P p (omega (arith, times b (l ∙ z)))),
      λ z. omega (arith, mul_le_cancel (u % P) 0 b s (omega (arith, times b l, times P z))),
    )

one_more : (c : Bool) (q r : ℕ) → q ≡ r → q + cond c 0 1 ≡ r + cond (not c) 1 0
one_more true q r e = omega arith
one_more false q r e = omega arith

down_same : (s : Bool) (a b P u : ℕ) → 0 < b → 0 < P → a * P ≡ u * b → whole (way_of toward_negative s) u P ≡ a / b + cond (s && not (eqb (a % b) 0)) 1 0
down_same false a b P u s p h = omega (arith, div_same a b u P s p h)
down_same true a b P u s p h =
    ap (λ c. u / P + cond c 0 1) (alike (eqb_reads (u % P) 0) (eqb_reads (a % b) 0) (cut_off a b P u s p h))
    ∙ one_more (eqb (a % b) 0) (u / P) (a / b) (sym (div_same a b u P s p h))

module _ (k : Theirs) where
  -- ---- the attribute a rounds m 2 ^ e to the whole number c
  sends : (a : Attribute) (x : ℕ) (s : Bool) (c u : ℕ) → s ≡ minus (ours k) x → kind (ours k) x ≡ finite u → whole (way_of a s) u (2 ^ low (ours k)) ≡ c → to_bits k (round k s c 1) ≡ whole_in (ours k) a x
  sends a x s c u r e q =
      let f = ours k in
      let P = 2 ^ low f in
      round_as k s c 1 (c * P) 1 (omega arith) (omega arith) (omega arith)
      ∙ ap (λ z. signed f s (exactly f (z * P))) (sym q)
      ∙ ap (λ t. signed f t (exactly f (whole (way_of a t) u P * P))) r
      ∙ sym (whole_in_finite f a x u e)

  infinity_same : (a : Attribute) (x : ℕ) (s : Bool) → Pattern (ours k) x → s ≡ minus (ours k) x → kind (ours k) x ≡ infinite → to_bits k (their-inf s) ≡ whole_in (ours k) a x
  infinity_same a x s p r e =
      write_infinite k s ∙ ap (λ t. signed (ours k) t (inf (ours k))) r ∙ infinity_is (ours k) x p e ∙ sym (infinity_stays (ours k) a x e)

  trunc_number : (x : ℕ) (s : Bool) (m : ℕ) (e : ℤ) (u : ℕ) → s ≡ minus (ours k) x → kind (ours k) x ≡ finite u → m * up e * 2 ^ low (ours k) ≡ u * down e
      → to_bits k (round k s (part m e) 1) ≡ trunc_of (ours k) x
  unfolding trunc_of
  trunc_number x s m e u r c h = sends toward_zero x s (part m e) u r c (sym (div_same (m * up e) (down e) u (2 ^ low (ours k)) (down_pos e) (pow_pos (low (ours k))) h))

  module _ (x : ℕ) (p : Pattern (ours k) x) where
    trunc_rows : {v : Float} {s : Bool} {a : Kind} → Same (low (ours k)) v s a → s ≡ minus (ours k) x → kind (ours k) x ≡ a → to_bits k (truncated k v) ≡ trunc_of (ours k) x
    unfolding trunc_of
    trunc_rows (nans s) r e = write_nan k ∙ sym (nan_canonical (ours k) toward_zero x e)
    trunc_rows (infinities s) r e = infinity_same toward_zero x s p r e
    trunc_rows (numbers s m d u h) r e = trunc_number x s m d u r e h

    floor_rows : {v : Float} {s : Bool} {a : Kind} → Same (low (ours k)) v s a → s ≡ minus (ours k) x → kind (ours k) x ≡ a → to_bits k (floored k v) ≡ floor_of (ours k) x
    unfolding floor_of
    floor_rows (nans s) r e = write_nan k ∙ sym (nan_canonical (ours k) toward_negative x e)
    floor_rows (infinities s) r e = infinity_same toward_negative x s p r e
    floor_rows (numbers s m d u h) r e =
        sends toward_negative x s (part m d + cond (s && not (eqb (m * up d % down d) 0)) 1 0) u r e (down_same s (m * up d) (down d) (2 ^ low (ours k)) u (down_pos d) (pow_pos (low (ours k))) h)

    pub trunc_same : to_bits k (truncated k (of_bits k x)) ≡ trunc_of (ours k) x
    trunc_same = trunc_rows (pattern_same k x) refl refl

    pub floor_same : to_bits k (floored k (of_bits k x)) ≡ floor_of (ours k) x
    floor_same = floor_rows (pattern_same k x) refl refl

  -- ---- casts to an integer, in range, and back
  signed_part : (h : ℕ) (s : Bool) (c : ℕ) → c < 2 ^ h → cond s (neg_ℤ (pos (min c (2 ^ h)))) (pos (min c (2 ^ h - 1))) ≡ with_sign s c
  signed_part h true c l = let e : min c (2 ^ h) ≡ c = omega arith in ap (λ a. neg_ℤ (pos a)) e
  signed_part h false c l = let e : min c (2 ^ h - 1) ≡ c = omega arith in ap pos e

  integer_back : (s : Bool) (c : ℕ) → (s ≡ true → 0 < c) → of_int k (with_sign s c) ≡ round k s c 1
  unfolding of_int
  integer_back false c l = refl
  integer_back true zero l = absurd (omega (arith, l refl))
  integer_back true (suc c) l = refl

  number_trunc : (x : ℕ) (s : Bool) (m : ℕ) (e : ℤ) → of_bits k x ≡ fin s m e → to_bits k (round k s (part m e) 1) ≡ trunc_of (ours k) x
  number_trunc x s m e r =
      let c = counted k x s m e r in
      trunc_number x s m e c.count c.number.sign_is c.number.kind_is c.number.counts

  pub signed_same : (x : ℕ) (s : Bool) (m : ℕ) (e : ℤ) → of_bits k x ≡ fin s m e → (h : ℕ) → part m e < 2 ^ h → (s ≡ true → 0 < part m e) → to_bits k (of_int k (to_signed h (of_bits k x))) ≡ trunc_of (ours k) x
  unfolding to_signed
  signed_same x s m e r h l z =
      ap (λ v. to_bits k (of_int k (to_signed h v))) r
      ∙ ap (λ a. to_bits k (of_int k a)) (signed_part h s (part m e) l)
      ∙ ap (to_bits k) (integer_back s (part m e) z)
      ∙ number_trunc x s m e r

  pub unsigned_same : (x m : ℕ) (e : ℤ) → of_bits k x ≡ fin false m e → (h : ℕ) → part m e < 2 ^ h → to_bits k (of_int k (pos (to_unsigned h (of_bits k x)))) ≡ trunc_of (ours k) x
  unfolding to_unsigned of_int
  unsigned_same x m e r h l =
      let c : min (part m e) (2 ^ h - 1) ≡ part m e = omega arith in
      ap (λ v. to_bits k (of_int k (pos (to_unsigned h v)))) r
      ∙ ap (λ a. to_bits k (of_int k (pos a))) c
      ∙ number_trunc x false m e r
