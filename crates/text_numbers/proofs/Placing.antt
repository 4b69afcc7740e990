-- Laws of writers: nothing is placed where there is no room, and a byte is placed before others. Assumes nothing.
use mathlib.Core.Path.{◌≡◌, refl, sym, ap, ◌∙◌}
use mathlib.Core.List.{List, [], ◌∷◌, ◌++◌, append_assoc}
use Prim.Native.Nat.{ℕ, zero, suc, ◌+◌, ◌/◌, ◌%◌, ◌≤◌, ◌<◌}
use native.Mathlib.Numerals.{add-one}
use native.Mathlib.Omega.{arith}
use lib.ListN.{length, take, drop, set, length-append}
use lib.Seq.{paste, length-take-le, set-append_left, take-set-lt, take-suc-set}
use borrow.Author.Tests.{le-leb, lt-leb}
use Rattle.algebra.proofs.Products.{order}
use Rattle.text_numbers.specs.Digits.{glyph_of, digits_of}
use Rattle.text_numbers.specs.Placed.{Placed}

module _ {xs : List ℕ} {at : ℕ} (ys : List ℕ) where
  pub no_room : length xs < at + length ys → Placed xs at ys xs at
  no_room h = record { bytes = simp (lt-leb _ _ h); offset = simp (lt-leb _ _ h) }

  pub placed : {xs' : List ℕ} {at' : ℕ} → at + length ys ≤ length xs
      → xs' ≡ paste xs at ys (length ys) → at' ≡ at + length ys → Placed xs at ys xs' at'
  placed h b p = record { bytes = simp (le-leb _ _ h) b; offset = simp (le-leb _ _ h) p }

-- k digits have the length k
pub length_digits : (b k n : ℕ) → length (digits_of b k n) ≡ k
unfolding digits_of
length_digits b zero n = refl
length_digits b (suc k) n = length-append (digits_of b k (n / b)) (glyph_of (n % b) ∷ []) ∙ omega (arith, length_digits b k (n / b))

-- a byte stored before the copied bytes
store_before : (xs ds : List ℕ) (at k a : ℕ) → at < length xs → set (paste xs (at + 1) ds k) at a ≡ paste xs at (a ∷ ds) (suc k)
store_before xs ds at k a h =
    let front : List ℕ = take (at + 1) xs in
    let size : length front ≡ at + 1 = length-take-le (at + 1) xs (omega arith) in
    let stored : set front at a ≡ take at xs ++ (a ∷ []) =
    sym (take-set-lt (at + 1) xs at a (omega arith)) ∙ ap (λ (n : ℕ). take n (set xs at a)) (add-one at) ∙ take-suc-set xs at a h in
    let after : at + 1 + k ≡ at + suc k = omega arith in
    set-append_left (front ++ take k ds) (drop (at + 1 + k) xs) at a (omega (arith, length-append front (take k ds)))
    ∙ ap (λ (l : List ℕ). l ++ drop (at + 1 + k) xs)
    (set-append_left front (take k ds) at a (omega arith) ∙ ap (λ (l : List ℕ). l ++ take k ds) stored ∙ append_assoc (take at xs) (a ∷ []) (take k ds))
    ∙ ap (λ (n : ℕ). (take at xs ++ (a ∷ take k ds)) ++ drop n xs) after

-- the bytes ds were written from at + 1 on, or there was no room; a is stored before them, or not at all
module _ {xs : List ℕ} {at : ℕ} {ds xs' : List ℕ} {at' : ℕ} (a : ℕ) (p : Placed xs (at + 1) ds xs' at') where
  pub none_before : 0 < length ds → at' ≡ at + 1 → Placed xs at (a ∷ ds) xs' at
  none_before some stays =
      order (at + 1 + length ds) (length xs)
      (λ h. absurd (omega (arith, simp (le-leb _ _ h) at p.offset)))
      (λ h. let e : xs' ≡ xs = simp (lt-leb _ _ h) at p.bytes in rw e (no_room (a ∷ ds) (omega arith)))

  pub one_before : at < length xs → (at' ≡ at + 1 → ⊥) → Placed xs at (a ∷ ds) (set xs' at a) at'
  one_before h moves =
      order (at + 1 + length ds) (length xs)
      (λ r. let e : xs' ≡ paste xs (at + 1) ds (length ds) = simp (le-leb _ _ r) at p.bytes in
      let n : at' ≡ at + 1 + length ds = simp (le-leb _ _ r) at p.offset in
      placed (a ∷ ds) (omega arith) (ap (λ (l : List ℕ). set l at a) e ∙ store_before xs ds at (length ds) a h) (omega arith))
      (λ r. absurd (moves (simp (lt-leb _ _ r) at p.offset)))
