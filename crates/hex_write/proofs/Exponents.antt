-- The digits of an exponent: as few as hold it, behind its sign. Assumes nothing.
use Prim.Native.Nat.{ℕ, zero, suc, ◌+◌, ◌-◌, ◌*◌, ◌/◌, ◌%◌, ◌^◌, ◌≤◌, ◌<◌}
use mathlib.Core.Path.{◌≡◌, refl, sym, ap, ◌∙◌}
use mathlib.Core.Bool.{true, false, cond}
use mathlib.Core.List.{List, [], ◌∷◌, ◌++◌}
use native.Mathlib.Nat.{pow-suc, one-le-pow}
use native.Mathlib.Omega.{arith}
use borrow.Author.Tests.{lt-ltb, le-ltb}
use lib.Dec.{ltb}
use lib.Pow.{pow-add, pow_pos, pow_mono}
use Rattle.std.specs.Int.{abs_diff}
use lib.IntN.{pos, negsuc, ◌-ℤ◌}
use Rattle.algebra.proofs.Integers.{sub_z, eq_z}
use Rattle.algebra.proofs.Products.{order, le_split}
use Rattle.text_numbers.specs.Digits.{glyph_of, digits_of}
use Rattle.text_numbers.specs.Written.{Fewest}
use Rattle.ieee_numeral_laws.specs.Write.{decimal, exponent_text}
use Rattle.hex_write.specs.Parts.{ExponentOf}

-- ---- the fewest digits
-- all but the last digit of a number of several digits
fewest_ahead : (n j : ℕ) → Fewest n (suc (suc j)) → Fewest (n / 10) (suc j)
fewest_ahead n j w =
    let p : 10 ^ suc (suc j) ≡ 10 ^ suc j * 10 = pow-suc 10 (suc j) in
    record { some = omega arith; hold = omega (arith, w.hold); all = ahead j w }
  where
    ahead : (j : ℕ) → Fewest n (suc (suc j)) → 1 < suc j → 10 ^ (suc j - 1) ≤ n / 10
    ahead zero w l = absurd (omega arith)
    ahead (suc j) w l =
        let p : 10 ^ suc (suc j) ≡ 10 ^ suc j * 10 = pow-suc 10 (suc j) in
        let a : suc (suc (suc j)) - 1 ≡ suc (suc j) = omega arith in
        let b : suc (suc j) - 1 ≡ suc j = omega arith in
        let h : 10 ^ suc (suc j) ≤ n = rw a at (w.all (omega arith)) in
        rw b (omega arith)

several : (n j : ℕ) → Fewest n (suc (suc j)) → 10 ≤ n
several n j w =
    let a : suc (suc j) - 1 ≡ suc j = omega arith in
    let h : 10 ^ suc j ≤ n = rw a at (w.all (omega arith)) in
    omega (arith, pow-suc 10 j, one-le-pow j 10 (omega arith))

decimal_digits : (k n j : ℕ) → j ≤ suc k → Fewest n j → digits_of 10 j n ≡ decimal k n
unfolding digits_of decimal
decimal_digits k n zero l w = absurd (omega (arith, w.some))
decimal_digits zero n (suc zero) l w = refl
decimal_digits zero n (suc (suc j)) l w = absurd (omega arith)
decimal_digits (suc k) n (suc zero) l w =
    let h : n < 10 = w.hold in
    let e : n % 10 ≡ n = omega arith in
    ap (λ d. glyph_of d ∷ []) e ∙ ap (λ b. cond b (glyph_of n ∷ []) (decimal k (n / 10) ++ (glyph_of (n % 10) ∷ []))) (sym (lt-ltb n 10 h))
decimal_digits (suc k) n (suc (suc j)) l w =
    simp (le-ltb n 10 (several n j w)) (ap (λ (s : List ℕ). s ++ (glyph_of (n % 10) ∷ [])) (decimal_digits k (n / 10) (suc j) (omega arith) (fewest_ahead n j w)))

-- five digits hold a number below 100000
fewest_few : (n j : ℕ) → n < 100000 → Fewest n j → j ≤ 5
fewest_few n j l w = order j 5 (λ h. h) (λ h. absurd (past (le_split h)))
  where
    past : (d : ℕ) × (suc 5 + d ≡ j) → ⊥
    past (d, e) =
        let a : j - 1 ≡ 5 + d = omega arith in
        let g : 10 ^ (5 + d) ≤ n = rw a at (w.all (omega arith)) in
        omega (arith, pow-add 10 5 d, one-le-pow d 10 (omega arith))

-- ---- behind the sign
module _ (e q : ℕ) where
  pub exponent_above : (n j : ℕ) → n + (2 ^ (e - 1) - 1) ≡ q → n < 100000 → Fewest n j → ExponentOf e q false j n
  unfolding exponent_text
  exponent_above n j s l w =
      let z : pos q -ℤ pos (2 ^ (e - 1) - 1) ≡ pos n = eq_z (pos q -ℤ pos (2 ^ (e - 1) - 1)) (pos n) (omega (arith, sub_z (pos q) (pos (2 ^ (e - 1) - 1)))) in
      record { digits = ap (λ (d : List ℕ). 43 ∷ d) (decimal_digits 4 n j (fewest_few n j l w) w) ∙ ap exponent_text (sym z); few = fewest_few n j l w }

  pub exponent_below : (n j : ℕ) → n + q ≡ 2 ^ (e - 1) - 1 → 0 < n → n < 100000 → Fewest n j → ExponentOf e q true j n
  unfolding exponent_text
  exponent_below zero j s p l w = absurd (omega arith)
  exponent_below (suc n) j s p l w =
      let z : pos q -ℤ pos (2 ^ (e - 1) - 1) ≡ negsuc n = eq_z (pos q -ℤ pos (2 ^ (e - 1) - 1)) (negsuc n) (omega (arith, sub_z (pos q) (pos (2 ^ (e - 1) - 1)))) in
      record { digits = ap (λ (d : List ℕ). 45 ∷ d) (decimal_digits 4 (suc n) j (fewest_few (suc n) j l w) w) ∙ ap exponent_text (sym z); few = fewest_few (suc n) j l w }

-- a field's exponent, b being the bias and one
pub exponent_parted : (e q b n j : ℕ) → e ≤ 16 → q < 2 ^ e → b ≡ 2 ^ (e - 1) → n ≡ abs_diff q (b - 1) → Fewest n j → ExponentOf e q (ltb q (b - 1)) j n
exponent_parted e q b n j small l i d w =
    let most = pow_mono {i = e} {j = 16} small in
    let half = pow_mono {i = e - 1} {j = 16} (omega arith) in
    order (b - 1) q
    (λ h. rw (le-ltb q (b - 1) h) (exponent_above e q n j (omega (arith, pow_pos (e - 1))) (omega (arith, pow_pos (e - 1))) w))
    (λ h. rw (lt-ltb q (b - 1) h) (exponent_below e q n j (omega (arith, pow_pos (e - 1))) (omega arith) (omega arith) w))
