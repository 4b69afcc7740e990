-- The same grammar as a function: what a text says, if anything. Assumes nothing.
use Rattle.std.specs.Prelude.{ℕ, suc, ◌+◌, ◌*◌, Bool, true, false, ◌&&◌, cond, List, [], ◌∷◌, leb, ltb, eqb, ℤ, pos, neg_ℤ, Option, Some, None}
use Rattle.text_numbers.specs.Digits.{digit_of}
use Rattle.ieee_numeral_laws.specs.Numeral.{Numeral, number, infinity, not_a_number, plus, dash, point, letter_p, inf_text, nan_text}

-- two texts are the same
unfoldable pub same : List ℕ → List ℕ → Bool
same [] [] = true
same [] (d ∷ t) = false
same (c ∷ s) [] = false
same (c ∷ s) (d ∷ t) = eqb c d && same s t

-- the digits at the front of a text: the number that they spell, how many they are, and the rest of the text
pub record Run : Type 0 where
  pub spelt : ℕ
  pub count : ℕ
  pub rest : List ℕ

-- the digits of base b at the front of a text, after n that spell v
unfoldable pub run : ℕ → ℕ → ℕ → List ℕ → Run
run b v n [] = record { spelt = v; count = n; rest = [] }
run b v n (c ∷ s) = cond (ltb (digit_of c) b) (run b (v * b + digit_of c) (suc n) s) (record { spelt = v; count = n; rest = c ∷ s })

-- ---- the exponent: one to five decimal digits to the end of the text, after a sign or none
abbrev pub at_end : List ℕ → Bool
at_end [] = true
at_end (c ∷ s) = false

unfoldable pub few_by : (ℕ → ℤ) → Run → Option ℤ
few_by sign r = cond (leb 1 r.count && leb r.count 5 && at_end r.rest) (Some (sign r.spelt)) None

unfoldable pub few_of : (ℕ → ℤ) → List ℕ → Option ℤ
unfolding run few_by
few_of sign s = few_by sign (run 10 0 0 s)

unfoldable pub exponent_of : List ℕ → Option ℤ
unfolding few_of
exponent_of [] = None
exponent_of (c ∷ s) = cond (eqb c plus) (few_of pos s) (cond (eqb c dash) (few_of (λ n. neg_ℤ (pos n)) s) (few_of pos (c ∷ s)))

-- ---- the significand, and the exponent after it: n digits that spell d, k of them behind the point
abbrev pub with_exponent : Bool → ℕ → ℕ → Option ℤ → Option Numeral
with_exponent neg d k (Some e) = Some (number neg d k e)
with_exponent neg d k None = None

-- the rest begins with `p`
unfoldable pub end_by : Bool → ℕ → ℕ → ℕ → List ℕ → Option Numeral
unfolding exponent_of
end_by neg d n k [] = None
end_by neg d n k (c ∷ s) = cond (leb 1 n && eqb c letter_p) (with_exponent neg d k (exponent_of s)) None

-- r has the digits before the point and those behind it, of which there are k
abbrev pub behind_by : Bool → ℕ → Run → Option Numeral
behind_by neg n r = end_by neg r.spelt (n + r.count) r.count r.rest

-- by what follows the n digits that spell d
unfoldable pub point_by : Bool → ℕ → ℕ → List ℕ → Option Numeral
unfolding run end_by
point_by neg d n [] = None
point_by neg d n (c ∷ s) = cond (eqb c point) (behind_by neg n (run 16 d 0 s)) (end_by neg d n 0 (c ∷ s))

abbrev pub ahead_by : Bool → Run → Option Numeral
ahead_by neg r = point_by neg r.spelt r.count r.rest

-- ---- `0x` and the rest
unfoldable pub unsigned_of : Bool → List ℕ → Option Numeral
unfolding run point_by
unsigned_of neg [] = None
unsigned_of neg (c ∷ []) = None
unsigned_of neg (c ∷ d ∷ s) = cond (eqb c 48 && eqb d 120) (ahead_by neg (run 16 0 0 s)) None

-- ---- the whole text
unfoldable pub after_dash : List ℕ → Option Numeral
unfolding same unsigned_of
after_dash s = cond (same s inf_text) (Some (infinity true)) (unsigned_of true s)

unfoldable pub without_sign : List ℕ → Option Numeral
unfolding same unsigned_of
without_sign s = cond (same s inf_text) (Some (infinity false)) (cond (same s nan_text) (Some not_a_number) (unsigned_of false s))

unfoldable pub numeral_of : List ℕ → Option Numeral
unfolding unsigned_of after_dash without_sign
numeral_of [] = None
numeral_of (c ∷ s) = cond (eqb c plus) (unsigned_of false s) (cond (eqb c dash) (after_dash s) (without_sign (c ∷ s)))
