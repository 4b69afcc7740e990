-- The list call: one operation at every place. Assumes nothing.
use Rattle.std.specs.Prelude.{ℕ, zero, suc, not, ◌&&◌, ◌||◌, List, [], ◌∷◌, map, leb, ltb, eqb, length}
use Rattle.ieee.specs.Format.{Format}
use Rattle.ieee.specs.Sqrt.{sqrt_of}
use Rattle.ieee.specs.Whole.{floor_of, trunc_of}
use Rattle.ieee.specs.Refusal.{Refusal, given, Answer, done, refused}

-- the most places
abbrev pub list_limit : ℕ
list_limit = 8192

-- operation 1 is sqrt, 2 floor, 3 trunc; others are refused, and leave a pattern as it is
unfoldable pub operation : Format → ℕ → ℕ → ℕ
unfolding sqrt_of floor_of trunc_of
operation f zero x = x
operation f (suc zero) x = sqrt_of f x
operation f (suc (suc zero)) x = floor_of f x
operation f (suc (suc (suc zero))) x = trunc_of f x
operation f (suc (suc (suc (suc k)))) x = x

-- xs is read, ys is what the output held before, n is the most places
abbrev pub list_refusals : ℕ → ℕ → List ℕ → List ℕ → List Refusal
list_refusals n op xs ys =
    record { number = 1; reason = not (leb 1 op && leb op 3) }
    ∷ record { number = 2; reason = ltb n (length xs) || ltb n (length ys) }
    ∷ record { number = 3; reason = not (eqb (length xs) (length ys)) }
    ∷ []

-- the answer, and what the output holds after
pub record Listed : Type 0 where
  pub answer : Answer
  pub output : List ℕ

-- by the refusal's number
unfoldable pub list_by : Format → ℕ → List ℕ → List ℕ → ℕ → Listed
unfolding operation
list_by f op xs ys zero = record { answer = done 0; output = map (operation f op) xs }
list_by f op xs ys (suc k) = record { answer = refused (suc k); output = ys }

unfoldable pub list_in : Format → ℕ → ℕ → List ℕ → List ℕ → Listed
unfolding list_by
list_in f n op xs ys = list_by f op xs ys (given (list_refusals n op xs ys))

unfoldable pub list_of : Format → ℕ → List ℕ → List ℕ → Listed
unfolding list_in
list_of f op xs ys = list_in f list_limit op xs ys
