-- Numbers as text in a base up to sixteen: the value of digits read, and the digits of a number written. Assumes nothing.
use Rattle.std.specs.Prelude.{ℕ, zero, suc, ◌+◌, ◌-◌, ◌*◌, ◌/◌, ◌%◌, min, cond, List, [], ◌∷◌, ◌++◌, ltb, Option, Some, None}

-- a byte as a digit: `0` to `9`, then `a` to `f`; 16 for every other byte
abbrev pub digit_of : ℕ → ℕ
digit_of c = cond (ltb c 48) 16 (cond (ltb c 58) (c - 48) (cond (ltb c 97) 16 (cond (ltb c 103) (c - 87) 16)))

-- a digit below 16 as a byte
abbrev pub glyph_of : ℕ → ℕ
glyph_of d = cond (ltb d 10) (48 + d) (87 + d)

-- the number that the bytes s spell in base b, after digits of value v: none at a byte that is not a digit of the base, and only there
unfoldable pub read_on : ℕ → ℕ → List ℕ → Option ℕ
read_on b v [] = Some v
read_on b v (c ∷ s) = cond (ltb (digit_of c) b) (read_on b (v * b + digit_of c) s) None

-- the same with a limit: a number above m counts as m
abbrev pub capped : ℕ → Option ℕ → Option ℕ
capped m (Some v) = Some (min v m)
capped m None = None

-- the last k digits of n in base b, the most significant first
unfoldable pub digits_of : ℕ → ℕ → ℕ → List ℕ
digits_of b zero n = []
digits_of b (suc k) n = digits_of b k (n / b) ++ (glyph_of (n % b) ∷ [])
