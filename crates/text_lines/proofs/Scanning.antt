-- Laws of scanning a line: the bytes at an offset, the first offset of some bytes, an empty part, and blanks. Assumes nothing.
use mathlib.Core.Path.{◌≡◌, refl, sym, ap, ◌∙◌}
use mathlib.Core.Bool.{Bool, true, false, not, cond, ◌&&◌, true≢false}
use mathlib.Core.List.{List, [], ◌∷◌, ◌++◌}
use Prim.Native.Nat.{ℕ, suc, ◌+◌, ◌-◌, ◌≤◌, ◌<◌}
use native.Mathlib.Numerals.{add-one}
use native.Mathlib.Omega.{arith}
use lib.Dec.{eqb}
use lib.ListN.{length, drop, take, get_or, length-drop, drop_of_length-le}
use Rattle.std.proofs.lemmas.Bool.Decides.{nat_tests}
use Rattle.std.specs.Prelude.{Some, None}
use Rattle.std.specs.List.{starts_with, position, position_or_len}
use lib.Seq.{drop-cons, take_all}
use borrow.Author.Tests.{eq-eqb, ne_eqb, eqb-true, le-leb}
use Rattle.text_lines.specs.Offsets.{starts, ahead, offset_of, part_of, holds, blank_too_many}

-- ---- the bytes at an offset

turned : (a c : ℕ) → eqb a c ≡ eqb c a
turned a c = grind (arith, nat_tests)

-- a slice begins with p
starts_slice : (s p : List ℕ) → starts_with eqb s p ≡ starts p s
unfolding starts
starts_slice s [] = refl
starts_slice [] (a ∷ p) = refl
starts_slice (c ∷ s) (a ∷ p) = rw (turned a c) (ap (λ (t : Bool). eqb c a && t) (starts_slice s p))

pub starts_rest : (p s : List ℕ) (i : ℕ) → starts_with eqb (take (length s - i) (drop i s)) p ≡ starts p (drop i s)
starts_rest p s i = rw (take_all (length s - i) (drop i s) (omega (arith, length-drop i s))) (starts_slice (drop i s) p)

-- ---- the first offset

module _ (p s : List ℕ) (i : ℕ) where
  pub offset_here : i < length s → starts p (drop i s) ≡ true → i ≡ offset_of p s i
  unfolding offset_of ahead
  offset_here h t = rw (drop-cons s i 0 h) (rw (rw (drop-cons s i 0 h) at t) (omega arith))

  pub offset_on : i < length s → starts p (drop i s) ≡ false → offset_of p s (i + 1) ≡ offset_of p s i
  unfolding offset_of ahead
  offset_on h t = rw (add-one, drop-cons s i 0 h) (rw (rw (drop-cons s i 0 h) at t) (omega arith))

  pub offset_end : length s ≤ i → length s ≡ offset_of p s i
  unfolding offset_of
  offset_end h = omega arith

-- ---- the first byte

ahead_is : (b : ℕ) (s : List ℕ) → position_or_len (λ c. eqb c b) s ≡ ahead (b ∷ []) s
unfolding ahead starts
ahead_is b [] = refl
ahead_is b (c ∷ s) = step (eqb c b) (ahead_is b s)
  where
    step : (t : Bool) {m n : ℕ} → m ≡ n → cond (not t) (1 + m) 0 ≡ cond (t && true) 0 (suc n)
    step true e = refl
    step false e = omega arith

-- xs is all of s from the offset on
module _ (b : ℕ) (s : List ℕ) (from : ℕ) (xs : List ℕ) (is : xs ≡ part_of s from (length s)) where
  all_from : xs ≡ drop from s
  unfolding part_of
  all_from = is ∙ rw (le-leb (length s) (length s) (omega arith)) (take_all (length s - from) (drop from s) (omega (arith, length-drop from s)))

  pub byte_found : (n : ℕ) → Some n ≡ position (λ c. eqb c b) xs → (from + n ≡ offset_of (b ∷ []) s from) × (from + n < length s)
  unfolding offset_of
  byte_found n e =
      let h = rw all_from at e in
      let a : position_or_len (λ c. eqb c b) (drop from s) ≡ ahead (b ∷ []) (drop from s) = ahead_is b (drop from s) in
      let l = length-drop from s in
      grind (arith, nat_tests)

  pub byte_not_found : None ≡ position (λ c. eqb c b) xs → length s ≡ offset_of (b ∷ []) s from
  unfolding offset_of
  byte_not_found e =
      let h = rw all_from at e in
      let a : position_or_len (λ c. eqb c b) (drop from s) ≡ ahead (b ∷ []) (drop from s) = ahead_is b (drop from s) in
      let l = length-drop from s in
      grind (arith, nat_tests)

-- ---- blanks

-- two blanks are adjacent in s with one more after it, and one more before it where t is set
unfoldable pub doubled : Bool → List ℕ → Bool
doubled t s = holds (32 ∷ 32 ∷ []) (cond t (32 ∷ (s ++ (32 ∷ []))) (s ++ (32 ∷ [])))

doubled_cons : (t b : Bool) (c : ℕ) (s : List ℕ) → eqb c 32 ≡ b → (t && b) ≡ false → doubled t (c ∷ s) ≡ doubled b s
unfolding doubled holds starts
doubled_cons true true c s e apart = absurd (true≢false apart)
doubled_cons true false c s e apart = simp e
doubled_cons false true c s e apart = rw (eqb-true c 32 e)
doubled_cons false false c s e apart = simp e

module _ (s : List ℕ) (i : ℕ) (t : Bool) where
  pub blank_twice : i < length s → t ≡ true → eqb (get_or s i 0) 32 ≡ true → true ≡ doubled t (drop i s)
  unfolding doubled holds starts
  blank_twice h b e = rw (b, drop-cons s i 0 h) (rw e)

  pub blank_on : i < length s → (t && eqb (get_or s i 0) 32) ≡ false → doubled (eqb (get_or s i 0) 32) (drop (i + 1) s) ≡ doubled t (drop i s)
  blank_on h apart = rw (add-one, drop-cons s i 0 h) (sym (doubled_cons t (eqb (get_or s i 0) 32) (get_or s i 0) (drop (suc i) s) refl apart))

  pub blank_end : length s ≤ i → t ≡ doubled t (drop i s)
  unfolding doubled holds starts
  blank_end h = rw (drop_of_length-le s h) (alone t)
    where
      alone : (u : Bool) → u ≡ holds (32 ∷ 32 ∷ []) (cond u (32 ∷ 32 ∷ []) (32 ∷ []))
      alone true = refl
      alone false = refl

module _ (s : List ℕ) where
  pub blanks_of_none : length s ≡ 0 → false ≡ blank_too_many s
  unfolding blank_too_many
  blanks_of_none h = rw (eq-eqb _ 0 h)

  pub blanks_of_some : (length s ≡ 0 → ⊥) → doubled true s ≡ blank_too_many s
  unfolding blank_too_many doubled
  blanks_of_some h = rw (ne_eqb _ 0 h)
