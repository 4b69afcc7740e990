-- Offsets of bytes in a line, its parts, and its blanks. Assumes nothing.
use Rattle.std.specs.Prelude.{ℕ, suc, ◌+◌, ◌-◌, min, Bool, true, false, cond, ◌&&◌, ◌||◌, List, [], ◌∷◌, ◌++◌, leb, eqb, length, take, drop}

-- s begins with the bytes p
unfoldable pub starts : List ℕ → List ℕ → Bool
starts [] s = true
starts (a ∷ p) [] = false
starts (a ∷ p) (c ∷ s) = eqb c a && starts p s

-- how many bytes of s come before the first p: all of them where there is none
unfoldable pub ahead : List ℕ → List ℕ → ℕ
ahead p [] = 0
ahead p (c ∷ s) = cond (starts p (c ∷ s)) 0 (suc (ahead p s))

-- the first offset of p in s from `from` on, or the length of s
unfoldable pub offset_of : List ℕ → List ℕ → ℕ → ℕ
offset_of p s from = min (from + ahead p (drop from s)) (length s)

-- ` -> `
abbrev pub arrow : List ℕ
arrow = 32 ∷ 45 ∷ 62 ∷ 32 ∷ []

-- the bytes of s from the offset a up to the offset e: none where s ends before e, or e is not after a
unfoldable pub part_of : List ℕ → ℕ → ℕ → List ℕ
part_of s a e = cond (leb e (length s)) (take (e - a) (drop a s)) []

-- p occurs in s
unfoldable pub holds : List ℕ → List ℕ → Bool
holds p [] = false
holds p (c ∷ s) = starts p (c ∷ s) || holds p s

-- a blank at either end or beside another one: with one more blank at each end, two are adjacent; false for an empty line
unfoldable pub blank_too_many : List ℕ → Bool
blank_too_many s = cond (eqb (length s) 0) false (holds (32 ∷ 32 ∷ []) (32 ∷ (s ++ (32 ∷ []))))
