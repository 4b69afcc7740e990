-- Our remquo, from the toolchain's parts: x less n times y, where n is the whole number nearest to x / y. Assumes nothing.
use Prim.Native.Nat.{ℕ, zero, suc, ◌+◌, ◌-◌, ◌*◌, ◌/◌, ◌%◌, ◌^◌, ◌<◌, compare, Ordering}
use mathlib.Core.Path.{◌≡◌, refl, sym, ap, ◌∙◌}
use mathlib.Core.Bool.{Bool, true, false, not, ◌&&◌, ◌||◌, cond}
use native.Mathlib.Nat.{mul-pos}
use native.Mathlib.Omega.{arith, both_ways}
use borrow.Author.Tests.{lt-ltb, le-ltb, eq-eqb, ne_eqb}
use lib.Dec.{ltb, eqb}
use lib.IntN.{ℤ, pos}
use lib.Pow.{pow_pos}
use lib.Ieee.{fin, Format as Theirs, up, down, nearest, add, sum, of_bits, to_bits}
use lib.Ieee.Fits.{down_pos}
use lib.Ieee.Nearest.{closest, closest_same}
use Rattle.algebra.proofs.Products.{order, times, mul_eq_cancel}
use Rattle.ieee.specs.Format.{low}
use Rattle.ieee.specs.Pattern.{Pattern, signed, unlike, finite, kind, with_sign}
use Rattle.ieee.specs.Exact.{ratio}
use Rattle.ieee.specs.Round.{even, exactly}
use Rattle.ieee.specs.Whole.{whole}
use Rattle.ieee.specs.Remquo.{rest, remquo_of, quotient_of}
use Rattle.ieee.proofs.Decide.{Reads, so, not_so, eqb_reads}
use Rattle.ieee.proofs.Units.{units_zero}
use Rattle.ieee.proofs.Exacts.{rounded_zero}
use Rattle.ieee.proofs.Remquos.{quotient_finite}
use Rattle.ieee_agreement_laws.specs.Toolchain.{ours, on, nearest_to, divides, nearest_left, remainder}
use Rattle.ieee_agreement_laws.proofs.Choice.{Cmp, cmp}
use Rattle.ieee_agreement_laws.proofs.Patterns.{write, Counted, counted}
use Rattle.ieee_agreement_laws.proofs.Products.{zero_of}
use Rattle.ieee_agreement_laws.proofs.Sums.{unlike_less, unlike_more}
use Rattle.ieee_agreement_laws.proofs.Remainders.{divided_same}

-- ---- the toolchain's nearest whole number is ours
whole_by_lem : (q r v : ℕ) (o : Ordering) → Cmp o (r * 2) v → nearest q o ≡ q + cond (ltb v (2 * r) || (eqb (2 * r) v && eqb (q % 2) 1)) 1 0
whole_by_lem q r v Ordering.lt h = rw (le-ltb v (2 * r) (omega arith), ne_eqb (2 * r) v (omega arith)) (omega arith)
whole_by_lem q r v Ordering.eq h =
    order (q % 2) 0
    (λ z. rw (le-ltb v (2 * r) (omega arith), eq-eqb (2 * r) v (omega arith), ne_eqb (q % 2) 1 (omega arith)) (omega arith))
    (λ z. rw (le-ltb v (2 * r) (omega arith), eq-eqb (2 * r) v (omega arith), eq-eqb (q % 2) 1 (omega arith)) (omega arith))
whole_by_lem q r v Ordering.gt h = rw (lt-ltb v (2 * r) (omega arith)) (omega arith)

closest_is : (u v : ℕ) → closest u v ≡ whole even u v
closest_is u v = whole_by_lem (u / v) (u % v) v (compare (u % v * 2) v) (cmp (u % v * 2) v)

-- ---- u less q units, with the sign s, from a / c less b / c
module _ (k : Theirs) (s : Bool) (a b c u q : ℕ) (C : 0 < c) (A : a * 2 ^ low (ours k) ≡ u * c) (B : b * 2 ^ low (ours k) ≡ q * c) where
  A_one : a * 2 ^ low (ours k) * 1 ≡ u * c
  A_one = omega (arith, A)

  B_one : b * 2 ^ low (ours k) * 1 ≡ q * c
  B_one = omega (arith, B)

  -- by which is greater
  chosen : (t : Bool) → ltb u q ≡ t → cond t (signed (ours k) (not s) (exactly (ours k) (q - u))) (signed (ours k) s (exactly (ours k) (u - q))) ≡ rest (ours k) s u q
  chosen t e = ap (λ b. cond b (signed (ours k) (not s) (exactly (ours k) (q - u))) (signed (ours k) s (exactly (ours k) (u - q)))) (sym e)

  -- a zero remainder has the sign of x, where their sum would be +0
  none : a ≡ b → to_bits k (fin s 0 (pos 0)) ≡ rest (ours k) s u q
  none h =
      let f = ours k in
      let e : u ≡ q = mul_eq_cancel u q c C (omega (arith, A, B, times (2 ^ low f) h)) in
      let o : u - q ≡ 0 = omega arith in
      write k (fin s 0 (pos 0)) s 0 (refl, omega (arith, units_zero f))
      ∙ ap (signed f s) (sym (rounded_zero f even (ratio 0 1) (omega arith) (omega arith)))
      ∙ ap (λ j. signed f s (exactly f j)) (sym o)
      ∙ chosen false (le-ltb u q (omega arith))

  level : u ≡ q → a ≡ b
  level e = mul_eq_cancel a b (2 ^ low (ours k)) (pow_pos (low (ours k))) (omega (arith, A, B, times c e))

  rest_same : to_bits k (cond (eqb a b) (fin s 0 (pos 0)) (sum k s a (not s) b c)) ≡ rest (ours k) s u q
  rest_same = go (eqb_reads a b)
    where
      go : {t : Bool} → Reads (a ≡ b) t → to_bits k (cond t (fin s 0 (pos 0)) (sum k s a (not s) b c)) ≡ rest (ours k) s u q
      go (so e) = none e
      go (not_so n) =
          order (suc u) q
          (λ h. unlike_less k s a b c u q 1 C (omega arith) A_one B_one h ∙ chosen true (lt-ltb u q h))
          (λ h. order (suc q) u
          (λ g. unlike_more k s a b c u q 1 C (omega arith) A_one B_one g ∙ chosen false (le-ltb u q (omega arith)))
          (λ g. absurd (n (level (both_ways u q (omega arith) (omega arith))))))

-- ---- two numbers, y not zero
module _ (k : Theirs) (m : ℕ) (e : ℤ) (n : ℕ) (d : ℤ) (u v : ℕ) (p : m * up e * 2 ^ low (ours k) ≡ u * down e) (q : n * up d * 2 ^ low (ours k) ≡ suc v * down d) where
  P : ℕ
  P = 2 ^ low (ours k)

  C : ℕ
  C = down e * down d

  C_pos : 0 < C
  unfolding C
  C_pos = mul-pos (down_pos e) (down_pos d)

  x_is : m * up e * down d * P ≡ u * C
  unfolding P C
  x_is = omega (arith, times (down d) p)

  y_is : n * up d * down e * P ≡ suc v * C
  unfolding P C
  y_is = omega (arith, times (down e) q)

  nearest_is : nearest_to m e n d ≡ whole even u (suc v)
  unfolding P
  nearest_is =
      let a = m * up e * down d in
      let b = n * up d * down e in
      let P_pos = pow_pos (low (ours k)) in
      let some : 0 < suc v = omega arith in
      let y_pos : 0 < suc v * C = mul-pos some C_pos in
      let b_pos : 0 < b = order b 0 (λ h. let z : b ≡ 0 = omega arith in absurd (omega (arith, y_is, y_pos, times P z))) (λ h. h) in
      let r : a * suc v ≡ u * b = mul_eq_cancel (a * suc v) (u * b) (P * C) (mul-pos P_pos C_pos) (omega (arith, times (suc v * C) x_is, times (u * C) y_is)) in
      closest_same a b u (suc v) b_pos some r ∙ closest_is u (suc v)

module _ (k : Theirs) where
  -- the sum that `add` computes, over one denominator
  sum_of : (s : Bool) (m : ℕ) (e : ℤ) (j n : ℕ) (d : ℤ) → add k (fin s m e) (fin (not s) (j * n) d) ≡ sum k s (m * up e * down d) (not s) (j * (n * up d * down e)) (down e * down d)
  unfolding add
  sum_of s m e j n d = let r : j * n * up d * down e ≡ j * (n * up d * down e) = omega arith in ap (λ b. sum k s (m * up e * down d) (not s) b (down e * down d)) r

  left_same : (s : Bool) (m : ℕ) (e : ℤ) (n : ℕ) (d : ℤ) (u v : ℕ) → m * up e * 2 ^ low (ours k) ≡ u * down e → n * up d * 2 ^ low (ours k) ≡ suc v * down d
      → to_bits k (nearest_left k s m e n d) ≡ rest (ours k) s u (whole even u (suc v) * suc v)
  unfolding P C
  left_same s m e n d u v p q =
      let j = nearest_to m e n d in
      let a = m * up e * down d in
      let b = n * up d * down e in
      ap (λ w. to_bits k (cond (divides m e n d) (fin s 0 (pos 0)) w)) (sum_of s m e j n d)
      ∙ rest_same k s a (j * b) (down e * down d) u (j * suc v) (C_pos k m e n d u v p q) (x_is k m e n d u v p q) (omega (arith, times j (y_is k m e n d u v p q)))
      ∙ ap (λ w. rest (ours k) s u (w * suc v)) (nearest_is k m e n d u v p q)

  pub remquo_same : (x y : ℕ) → Pattern (ours k) x → on remainder k x y ≡ remquo_of (ours k) x y
  unfolding remquo_of
  remquo_same x y p = divided_same k (nearest_left k) (λ s u v. rest (ours k) s u (whole even u v * v)) left_same x y p

  pub quotient_same : (x y : ℕ) (s t : Bool) (m n : ℕ) (e d : ℤ) → of_bits k x ≡ fin s m e → of_bits k y ≡ fin t n d → 0 < n
      → quotient_of (ours k) x y ≡ with_sign (unlike s t) (nearest_to m e n d % 2 ^ 31)
  quotient_same x y s t m n e d hx hy l = go cy.count cy.number.kind_is cy.number.counts
    where
      cx : Counted k x s m e
      cx = counted k x s m e hx

      cy : Counted k y t n d
      cy = counted k y t n d hy

      go : (v : ℕ) → kind (ours k) y ≡ finite v → n * up d * 2 ^ low (ours k) ≡ v * down d → quotient_of (ours k) x y ≡ with_sign (unlike s t) (nearest_to m e n d % 2 ^ 31)
      go zero r c = absurd (omega (arith, zero_of n d (low (ours k)) c))
      go (suc v) r c =
          quotient_finite (ours k) x y cx.count v cx.number.kind_is r
          ∙ sym (λ i. with_sign (unlike (cx.number.sign_is i) (cy.number.sign_is i)) (nearest_is k m e n d cx.count v cx.number.counts c i % 2 ^ 31))
