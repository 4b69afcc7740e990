-- Locate and choose give the answer and the flags, and all of it fits in a word. Assumes nothing.
use Prim.Native.Nat.{ℕ, zero, suc, ◌+◌, ◌%◌, ◌^◌, ◌≤◌, ◌<◌}
use mathlib.Core.Path.{◌≡◌, refl, sym, ◌∙◌}
use mathlib.Core.Bool.{Bool, true, false, not, ◌&&◌, cond}
use native.Mathlib.Omega.{arith}
use lib.Dec.{ltb, leb, eqb}
use lib.Pow.{pow_mono}
use borrow.Author.Tests.{lt-ltb, ne_eqb}
use lib.IntN.{ℤ}
use Rattle.ieee.specs.Format.{Format, Fair, inf}
use Rattle.ieee.specs.Pattern.{signed}
use Rattle.ieee.specs.Exact.{Exact}
use Rattle.ieee.specs.Round.{Way, even, away, shorter, longer, Attribute, toward_positive, toward_negative, way_of}
use Rattle.ieee.specs.Scalbn.{scaled}
use Rattle.ieee.proofs.Patterns.{inf_below_top}
use Rattle.round_laws.specs.Location.{below, location, high, beyond, chosen, stretched}
use Rattle.round_laws.specs.Flags.{exceeds, rises, flags_by}
use Rattle.round_laws.proofs.Choices.{below_finite, location_le}
use Rattle.round_laws.proofs.Flagged.{flags_by_lem}
use Rattle.round_laws.proofs.Stretched.{stretched_sound}
use Rattle.fmt_fields.specs.Width.{format, Fits}
use Rattle.round_step.specs.Outcome.{outcome}
use Rattle.round_step.proofs.Scaled.{answer_chosen}
use Rattle.round_step.proofs.MarkedFlags.{raised_scaled}

one_more : (b : Bool) (m : ℕ) → m + cond b 1 0 ≤ suc m
one_more true m = omega arith
one_more false m = omega arith

none_more : (b : Bool) (m : ℕ) → m + cond b 0 1 ≤ suc m
none_more true m = omega arith
none_more false m = omega arith

-- the choice is m or the next
pub chosen_le : (w : Way) (m p : ℕ) → chosen w m p ≤ suc m
chosen_le even m p = one_more (ltb 2 (p + m % 2)) m
chosen_le away m p = one_more (leb 2 p) m
chosen_le shorter m p = omega arith
chosen_le longer m p = none_more (eqb p 0) m

-- a finite magnitude, and the choice between it and the next, stay below the sign bit
module _ {p e : ℕ} (w : Fits p e) (m : ℕ) (l : m < inf (format p e)) where
  pub finite_in_word : m < 2 ^ 63
  finite_in_word = omega (arith, inf_below_top (format p e), pow_mono {i = p + e} {j = 63} w.word)

  pub chosen_in_word : (v : Way) (q : ℕ) → chosen v m q < 2 ^ (p + e)
  chosen_in_word v q = omega (arith, chosen_le v m q, inf_below_top (format p e))

-- a location is one that can be chosen by
pub in_bounds : {p e : ℕ} → Fits p e → {m q : ℕ} (x : Exact) → m ≡ below (format p e) x → q ≡ location (format p e) x → (m < inf (format p e)) × (q ≤ 3)
in_bounds {p} {e} w x i j = (omega (arith, i, below_finite (format p e) w.fair x), omega (arith, j, location_le (format p e) x))

-- ---- toward an infinity a value goes away from zero on its side, and toward zero on the other
later : (m l : ℕ) → m + cond (ltb 0 l) 1 0 ≡ m + cond (eqb l 0) 0 1
later m zero = refl
later m (suc l) = rw (lt-ltb 0 (suc l) (omega arith), ne_eqb (suc l) 0 (omega arith)) refl

pub down_choice : (s : Bool) (m l : ℕ) → m + cond (s && ltb 0 l) 1 0 ≡ chosen (way_of toward_negative s) m l
down_choice true m l = later m l
down_choice false m l = omega arith

pub up_choice : (s : Bool) (m l : ℕ) → m + cond (not s && ltb 0 l) 1 0 ≡ chosen (way_of toward_positive s) m l
up_choice true m l = omega arith
up_choice false m l = later m l

pub down_exceeds : (s : Bool) (l : ℕ) (b : Bool) → cond s (leb 1 l) b ≡ exceeds (way_of toward_negative s) l b
down_exceeds true l b = refl
down_exceeds false l b = refl

pub up_exceeds : (s : Bool) (l : ℕ) (b : Bool) → cond s b (leb 1 l) ≡ exceeds (way_of toward_positive s) l b
up_exceeds true l b = refl
up_exceeds false l b = refl

pub down_rises : (s : Bool) (l : ℕ) (h b : Bool) → cond s (leb 3 l) b ≡ rises (way_of toward_negative s) l h b
down_rises true l h b = refl
down_rises false l h b = refl

pub up_rises : (s : Bool) (l : ℕ) (h b : Bool) → cond s b (leb 3 l) ≡ rises (way_of toward_positive s) l h b
up_rises true l h b = refl
up_rises false l h b = refl

-- ---- locate and choose give the answer and the flags
pub round_is : (f : Format) → Fair f → (a : Attribute) (s : Bool) (u : ℕ) (n : ℤ) {m p : ℕ} {h b : Bool}
    → let x = stretched u n in (m ≡ below f x) × (p ≡ location f x) × (h ≡ high f x) × (b ≡ beyond f x)
    → (signed f s (chosen (way_of a s) m p), flags_by f (way_of a s) m p h b) ≡ outcome f a s (scaled s u n)
round_is f g a s u n (i, j, k, l) =
    let x = stretched u n in
    let w = way_of a s in
    (λ t. (signed f s (chosen w (i t) (j t)), flags_by f w (i t) (j t) (k t) (l t)))
    ∙ sym (λ t. (answer_chosen f g a s u n t, (raised_scaled f a s u n ∙ flags_by_lem f g x (stretched_sound u n) w) t))
