-- The output of a loop that has done some places, over the operation at each. Assumes nothing.
use Rattle.std.proofs.Common.{ℕ, zero, suc, ◌<◌, ◌≤◌, ◌≡◌, refl, ap, ap₂, ◌∙◌, List, [], ◌∷◌, ◌++◌, map, length, take, drop, get_or, arith}

module _ (g : ℕ → ℕ) where
  -- ys with its first k places filled from xs
  abbrev pub filled : List ℕ → List ℕ → ℕ → List ℕ
  filled xs ys k = map g (take k xs) ++ drop k ys

  -- so it is where each of them is
  places_filled : (xs ys : List ℕ) (n : ℕ) → length xs ≡ length ys → n ≤ length xs → ((k : ℕ) → k < n → get_or ys k 0 ≡ g (get_or xs k 0)) → ys ≡ filled xs ys n
  places_filled xs ys zero e l h = refl
  places_filled [] ys (suc n) e l h = absurd (omega arith)
  places_filled (x ∷ xs) [] (suc n) e l h = absurd (omega arith)
  places_filled (x ∷ xs) (y ∷ ys) (suc n) e l h = ap₂ (λ z (zs : List ℕ). z ∷ zs) (h 0 (omega arith)) (places_filled xs ys n (omega arith) (omega arith) (λ k i. h (suc k) (omega arith)))

  -- all places
  pub all_filled : (xs ys : List ℕ) → length xs ≡ length ys → filled xs ys (length xs) ≡ map g xs
  all_filled [] [] e = refl
  all_filled [] (y ∷ ys) e = absurd (omega arith)
  all_filled (x ∷ xs) [] e = absurd (omega arith)
  all_filled (x ∷ xs) (y ∷ ys) e = ap (λ (zs : List ℕ). g x ∷ zs) (all_filled xs ys (omega arith))

  pub each_filled : (xs ys : List ℕ) → length xs ≡ length ys → ((k : ℕ) → k < length xs → get_or ys k 0 ≡ g (get_or xs k 0)) → ys ≡ map g xs
  each_filled xs ys e h = places_filled xs ys (length xs) e (omega arith) h ∙ all_filled xs ys e

  -- and of an operation that leaves each number
  pub all_left : ((x : ℕ) → x ≡ g x) → (xs : List ℕ) → xs ≡ map g xs
  all_left h [] = refl
  all_left h (x ∷ xs) = ap₂ (λ z (zs : List ℕ). z ∷ zs) (h x) (all_left h xs)
