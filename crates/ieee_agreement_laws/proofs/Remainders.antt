-- The toolchain's `rem`, Rust's `%`, written as a pattern, is our fmod; and the rows that it shares with our remquo. Assumes nothing.
use Prim.Native.Nat.{ℕ, zero, suc, ◌+◌, ◌*◌, ◌/◌, ◌%◌, ◌^◌, ◌<◌}
use mathlib.Core.Path.{◌≡◌, refl, ap, ◌∙◌}
use mathlib.Core.Bool.{Bool, cond}
use native.Mathlib.Nat.{mod-lt, div-add-mod', mul-pos}
use native.Mathlib.Omega.{arith}
use borrow.Author.Tests.{eq-eqb, ne_eqb}
use lib.IntN.{ℤ}
use lib.Pow.{pow_pos}
use lib.Ieee.{Float, nan as their-nan, inf as their-inf, fin, Format as Theirs, up, down, round, rem, of_bits, to_bits}
use lib.Ieee.Fits.{down_pos}
use Rattle.algebra.proofs.Products.{order, times, times_le}
use Rattle.algebra.proofs.Quotients.{div_mod, quot_unique}
use Rattle.ieee.specs.Format.{low, canonical}
use Rattle.ieee.specs.Pattern.{Pattern, minus, signed, Kind, nan, kind}
use Rattle.ieee.specs.Round.{exactly}
use Rattle.ieee.specs.Fmod.{divide, left, fmod_of}
use Rattle.ieee_agreement_laws.specs.Toolchain.{ours, on, Same, nans, infinities, numbers, divided}
use Rattle.ieee_agreement_laws.proofs.Patterns.{pattern_same, write_nan, write_read}
use Rattle.ieee_agreement_laws.proofs.Rounding.{round_as}
use Rattle.ieee_agreement_laws.proofs.Products.{zero_of, not_zero_of}

-- ---- the rows of every remainder: r is their answer for two numbers, and g ours
module _ (k : Theirs) (r : Bool → ℕ → ℤ → ℕ → ℤ → Float) (g : Bool → ℕ → ℕ → ℕ)
    (alike : (s : Bool) (m : ℕ) (e : ℤ) (n : ℕ) (d : ℤ) (u v : ℕ) → m * up e * 2 ^ low (ours k) ≡ u * down e → n * up d * 2 ^ low (ours k) ≡ suc v * down d → to_bits k (r s m e n d) ≡ g s u (suc v)) where
  rows_same : (x : ℕ) {v w : Float} {s t : Bool} {a b : Kind} → Same (low (ours k)) v s a → Same (low (ours k)) w t b → ((a ≡ nan → ⊥) → to_bits k v ≡ x)
      → to_bits k (divided r v w) ≡ divide (canonical (ours k)) x (g s) a b
  unfolding divide
  rows_same x (nans s) h back = write_nan k
  rows_same x (infinities s) h back = write_nan k
  rows_same x (numbers s m e u p) (nans t) back = write_nan k
  rows_same x (numbers s m e u p) (infinities t) back = back (λ c. absurd (let z : ◌≡◌ {A = ℕ} 0 1 = cc in omega arith))
  rows_same x (numbers s m e u p) (numbers t n d zero q) back =
      ap (λ c. to_bits k (cond c their-nan (r s m e n d))) (eq-eqb n 0 (zero_of n d (low (ours k)) q)) ∙ write_nan k
  rows_same x (numbers s m e u p) (numbers t n d (suc v) q) back =
      ap (λ c. to_bits k (cond c their-nan (r s m e n d))) (ne_eqb n 0 (not_zero_of n d (low (ours k)) v q)) ∙ alike s m e n d u v p q

  -- x must be a pattern, since it is the answer where y is infinite
  pub divided_same : (x y : ℕ) → Pattern (ours k) x
      → to_bits k (divided r (of_bits k x) (of_bits k y)) ≡ divide (canonical (ours k)) x (g (minus (ours k) x)) (kind (ours k) x) (kind (ours k) y)
  divided_same x y p = rows_same x (pattern_same k x) (pattern_same k y) (write_read k x p)

-- ---- a P = u D and b P = v D, so the remainders of a by b and of u by v are in the same proportion
pub left_scale : (a b P u v D : ℕ) → 0 < v → 0 < D → 0 < P → a * P ≡ u * D → b * P ≡ v * D → (a % b) * P ≡ left u v * D
left_scale a b P u v D v-pos D_pos P_pos p q = (quot_unique (v * D) (a / b) (a % b * P) (u / v) (left u v * D) small small' same).1
  where
    v_d_pos : 0 < v * D
    v_d_pos = mul-pos v-pos D_pos

    b_pos : 0 < b
    b_pos = order b 0 (λ h. absurd (let z : b ≡ 0 = omega arith in omega (arith, v_d_pos, times P z))) (λ h. h)

    l : (u / v * v + left u v ≡ u) × (left u v < v)
    l = omega (arith, div_mod u v v-pos)

    small : a % b * P < v * D
    small = omega (arith, times_le P (mod-lt a b_pos))

    small' : left u v * D < v * D
    small' = omega (arith, times_le D l.1)

    same : a / b * (v * D) + a % b * P ≡ u / v * (v * D) + left u v * D
    same = omega (arith, times P (div-add-mod' a b), times (a / b) q, times D l.0)

-- ---- fmod
module _ (k : Theirs) where
  cut : Bool → ℕ → ℤ → ℕ → ℤ → Float
  cut s m e n d = round k s (m * up e * down d % (n * up d * down e)) (down e * down d)

  rem_is : (v w : Float) → rem k v w ≡ divided cut v w
  unfolding rem cut
  rem_is their-nan w = refl
  rem_is (their-inf s) w = refl
  rem_is (fin s m e) their-nan = refl
  rem_is (fin s m e) (their-inf t) = refl
  rem_is (fin s m e) (fin t n d) = refl

  cut_same : (s : Bool) (m : ℕ) (e : ℤ) (n : ℕ) (d : ℤ) (u v : ℕ) → m * up e * 2 ^ low (ours k) ≡ u * down e → n * up d * 2 ^ low (ours k) ≡ suc v * down d
      → to_bits k (cut s m e n d) ≡ signed (ours k) s (exactly (ours k) (left u (suc v)))
  unfolding cut
  cut_same s m e n d u v p q =
      let D : 0 < down e * down d = mul-pos (down_pos e) (down_pos d) in
      round_as k s (m * up e * down d % (n * up d * down e)) (down e * down d) (left u (suc v)) 1 D (omega arith)
      (omega (arith, left_scale (m * up e * down d) (n * up d * down e) (2 ^ low (ours k)) u (suc v) (down e * down d) (omega arith) D (pow_pos (low (ours k))) (omega (arith, times (down d) p)) (omega (arith, times (down e) q))))

  pub rem_same : (x y : ℕ) → Pattern (ours k) x → on rem k x y ≡ fmod_of (ours k) x y
  unfolding fmod_of
  rem_same x y p =
      ap (to_bits k) (rem_is (of_bits k x) (of_bits k y))
      ∙ divided_same k cut (λ s u v. signed (ours k) s (exactly (ours k) (left u v))) cut_same x y p
