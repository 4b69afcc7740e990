-- The definition of the reader by the tests of the code: the end of a number, its point, `0x`, and the sign or the word. Assumes nothing.
use Prim.Native.Nat.{ℕ, ◌≤◌, ◌<◌}
use mathlib.Core.Path.{◌≡◌, refl, sym, ap, ◌∙◌}
use mathlib.Core.Bool.{Bool, true, false, ◌&&◌, ◌||◌, cond, true≢false}
use mathlib.Core.List.{List, [], ◌∷◌}
use native.Mathlib.Omega.{arith}
use lib.Dec.{leb, eqb}
use lib.ListN.{length, drop, get_or}
use borrow.Author.Tests.{le-leb, lt-leb, eq-eqb, ne_eqb, eqb-true}
use Rattle.ieee_numeral_laws.specs.Numeral.{Numeral, inf_text, nan_text}
use Rattle.std.specs.Prelude.{Option, Some, None}
use Rattle.ieee_numeral_laws.specs.Reading.{same, run, exponent_of, with_exponent, end_by, behind_by, point_by, ahead_by, unsigned_of, after_dash, without_sign, numeral_of}
use Rattle.hex_read.specs.Found.{word_of}

not_second : (x y : Bool) → y ≡ false → (x && y) ≡ false
not_second true y e = e
not_second false y e = refl

-- a test that fails says nothing
none_if : (p : Option Numeral) {t : Bool} → t ≡ false → cond t p None ≡ None
none_if p e = ap (λ (t : Bool). cond t p None) e

-- ---- the end
module _ (neg : Bool) (d n k : ℕ) where
  pub end_none : (s : List ℕ) → n ≡ 0 → end_by neg d n k s ≡ None
  unfolding end_by
  end_none [] e = refl
  end_none (c ∷ s) e = rw (lt-leb 1 n (omega arith))

  pub end_short : (s : List ℕ) → length s < 1 → end_by neg d n k s ≡ None
  unfolding end_by
  end_short [] e = refl
  end_short (c ∷ s) e = absurd (omega arith)

  pub end_other : (s : List ℕ) → (get_or s 0 0 ≡ 112 → ⊥) → end_by neg d n k s ≡ None
  unfolding end_by
  end_other [] h = refl
  end_other (c ∷ s) h = none_if (with_exponent neg d k (exponent_of s)) (not_second (leb 1 n) (eqb c 112) (ne_eqb c 112 h))

  pub end_exponent : (s : List ℕ) → 0 < length s → 1 ≤ n → get_or s 0 0 ≡ 112 → end_by neg d n k s ≡ with_exponent neg d k (exponent_of (drop 1 s))
  unfolding end_by
  end_exponent [] l m e = absurd (omega arith)
  end_exponent (c ∷ s) l m e = rw (le-leb 1 n m, eq-eqb c 112 e)

-- ---- the point
module _ (neg : Bool) (d n : ℕ) where
  pub point_short : (s : List ℕ) → length s < 1 → point_by neg d n s ≡ end_by neg d n 0 s
  unfolding point_by end_by
  point_short [] l = refl
  point_short (c ∷ s) l = absurd (omega arith)

  pub point_other : (s : List ℕ) → (get_or s 0 0 ≡ 46 → ⊥) → point_by neg d n s ≡ end_by neg d n 0 s
  unfolding point_by
  point_other [] h = point_short [] (omega arith)
  point_other (c ∷ s) h = rw (ne_eqb c 46 h)

  pub point_behind : (s : List ℕ) → 0 < length s → get_or s 0 0 ≡ 46 → point_by neg d n s ≡ behind_by neg n (run 16 d 0 (drop 1 s))
  unfolding point_by
  point_behind [] l e = absurd (omega arith)
  point_behind (c ∷ s) l e = rw (eq-eqb c 46 e)

-- ---- `0x`
module _ (neg : Bool) where
  pub unsigned_short : (s : List ℕ) → length s < 2 → unsigned_of neg s ≡ None
  unfolding unsigned_of
  unsigned_short [] l = refl
  unsigned_short (c ∷ []) l = refl
  unsigned_short (c ∷ d ∷ s) l = absurd (omega arith)

  pub unsigned_zero : (s : List ℕ) → (get_or s 0 0 ≡ 48 → ⊥) → unsigned_of neg s ≡ None
  unfolding unsigned_of
  unsigned_zero [] h = refl
  unsigned_zero (c ∷ []) h = refl
  unsigned_zero (c ∷ d ∷ s) h = rw (ne_eqb c 48 h)

  pub unsigned_x : (s : List ℕ) → (get_or s 1 0 ≡ 120 → ⊥) → unsigned_of neg s ≡ None
  unfolding unsigned_of
  unsigned_x [] h = refl
  unsigned_x (c ∷ []) h = refl
  unsigned_x (c ∷ d ∷ s) h = none_if (ahead_by neg (run 16 0 0 s)) (not_second (eqb c 48) (eqb d 120) (ne_eqb d 120 h))

  pub unsigned_run : (s : List ℕ) → 2 ≤ length s → get_or s 0 0 ≡ 48 → get_or s 1 0 ≡ 120 → unsigned_of neg s ≡ ahead_by neg (run 16 0 0 (drop 2 s))
  unfolding unsigned_of
  unsigned_run [] l e f = absurd (omega arith)
  unsigned_run (c ∷ []) l e f = absurd (omega arith)
  unsigned_run (c ∷ d ∷ s) l e f = rw (eq-eqb c 48 e, eq-eqb d 120 f)

-- ---- the same text
and_both : (x y : Bool) → x && y ≡ true → (x ≡ true) × (y ≡ true)
and_both true y e = (refl, e)
and_both false y e = absurd (true≢false (sym e))

pub same_sound : (s t : List ℕ) → same s t ≡ true → s ≡ t
unfolding same
same_sound [] [] e = refl
same_sound [] (d ∷ t) e = absurd (true≢false (sym e))
same_sound (c ∷ s) [] e = absurd (true≢false (sym e))
same_sound (c ∷ s) (d ∷ t) e =
    let (h, l) = and_both (eqb c d) (same s t) e in
    let is : c ≡ d = eqb-true c d h in
    let rest : s ≡ t = same_sound s t l in
    cc

pub same_own : (s : List ℕ) → same s s ≡ true
unfolding same
same_own [] = refl
same_own (c ∷ s) = rw (eq-eqb c c refl) (same_own s)

-- a test that decides equality gives the definition's answer
pub same_by : (s t : List ℕ) (b : Bool) → (b ≡ true → s ≡ t) → (s ≡ t → b ≡ true) → same s t ≡ b
same_by s t true f g = ap (λ (l : List ℕ). same l t) (f refl) ∙ same_own t
same_by s t false f g = go (same s t) refl
  where
    go : (a : Bool) → same s t ≡ a → a ≡ false
    go true e = absurd (true≢false (sym (g (same_sound s t e))))
    go false e = refl

-- ---- a number is no word
inf_none : (neg : Bool) → unsigned_of neg inf_text ≡ None
unfolding unsigned_of
inf_none neg = refl

nan_none : (neg : Bool) → unsigned_of neg nan_text ≡ None
unfolding unsigned_of
nan_none neg = refl

not_just : {m : Numeral} → None ≡ Some m → ⊥
not_just e = let z : ◌≡◌ {A = ℕ} 0 1 = cc in omega arith

no_word : (neg : Bool) (s t : List ℕ) {m : Numeral} → unsigned_of neg t ≡ None → unsigned_of neg s ≡ Some m → same s t ≡ false
no_word neg s t none e = go (same s t) refl
  where
    go : (a : Bool) → same s t ≡ a → a ≡ false
    go true h = absurd (not_just (sym none ∙ ap (unsigned_of neg) (sym (same_sound s t h)) ∙ e))
    go false h = refl

-- ---- the sign; p and q say whether it is a plus or a minus
unfoldable numeral_by : List ℕ → List ℕ → Bool → Bool → Option Numeral
numeral_by s t p q = cond p (unsigned_of false t) (cond q (after_dash t) (without_sign s))

module _ (c : ℕ) (s : List ℕ) where
  by_number : (p q : Bool) (m : Numeral) → (p ≡ true → q ≡ true → ⊥) → unsigned_of q (drop (cond (p || q) 1 0) (c ∷ s)) ≡ Some m → numeral_by (c ∷ s) s p q ≡ Some m
  unfolding numeral_by after_dash without_sign
  by_number true true m f e = absurd (f refl refl)
  by_number true false m f e = e
  by_number false true m f e = rw (no_word true s inf_text (inf_none true) e) e
  by_number false false m f e = rw (no_word false (c ∷ s) inf_text (inf_none false) e, no_word false (c ∷ s) nan_text (nan_none false) e) e

  by_word : (p q : Bool) → (p ≡ true → q ≡ true → ⊥) → unsigned_of q (drop (cond (p || q) 1 0) (c ∷ s)) ≡ None
      → numeral_by (c ∷ s) s p q ≡ word_of p q (drop (cond (p || q) 1 0) (c ∷ s))
  unfolding numeral_by after_dash without_sign word_of
  by_word true true f e = absurd (f refl refl)
  by_word true false f e = e
  by_word false true f e = rw e
  by_word false false f e = rw e

not_both : (c : ℕ) → eqb c 43 ≡ true → eqb c 45 ≡ true → ⊥
not_both c p q = omega (arith, eqb-true c 43 p, eqb-true c 45 q)

pub numeral_empty : (s : List ℕ) → length s ≤ 0 → numeral_of s ≡ None
unfolding numeral_of
numeral_empty [] e = refl
numeral_empty (c ∷ s) e = absurd (omega arith)

-- the text after its sign
abbrev pub unsigned_part : List ℕ → List ℕ
unsigned_part s = drop (cond (eqb (get_or s 0 0) 43 || eqb (get_or s 0 0) 45) 1 0) s

pub numeral_number : (s : List ℕ) (m : Numeral) → 0 < length s → unsigned_of (eqb (get_or s 0 0) 45) (unsigned_part s) ≡ Some m → numeral_of s ≡ Some m
unfolding numeral_of numeral_by
numeral_number [] m l e = absurd (omega arith)
numeral_number (c ∷ s) m l e = by_number c s (eqb c 43) (eqb c 45) m (not_both c) e

pub numeral_word : (s : List ℕ) → 0 < length s → unsigned_of (eqb (get_or s 0 0) 45) (unsigned_part s) ≡ None
    → numeral_of s ≡ word_of (eqb (get_or s 0 0) 43) (eqb (get_or s 0 0) 45) (unsigned_part s)
unfolding numeral_of numeral_by
numeral_word [] l e = absurd (omega arith)
numeral_word (c ∷ s) l e = by_word c s (eqb c 43) (eqb c 45) (not_both c) e
