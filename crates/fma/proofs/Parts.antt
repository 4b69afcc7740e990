-- fma of numbers by its parts, at any width: a product, a third number, their sum, and its rounding (fma_laws: Made). Assumes nothing.
use Prim.Native.Nat.{ℕ, ◌+◌, ◌-◌, ◌*◌, ◌^◌, ◌≤◌, ◌<◌}
use mathlib.Core.Path.{◌≡◌, refl, sym, ap, ◌∙◌, subst}
use native.Mathlib.Omega.{arith}
use mathlib.Core.Bool.{Bool, true, false}
use lib.Count.{count_leading_zeros}
use lib.IntN.{ℤ, pos, ◌+ℤ◌, ◌-ℤ◌}
use Rattle.algebra.proofs.Products.{mul_lt_cancel}
use Rattle.ieee.specs.Format.{Format, low, inf}
use Rattle.ieee.specs.Pattern.{Pattern, magnitude, minus}
use Rattle.ieee.specs.Exact.{Exact}
use Rattle.ieee.specs.Round.{Attribute, ties_to_even}
use Rattle.ieee.specs.Flags.{Flags, none}
use Rattle.ieee.specs.Fma.{fma_in, fma_flags_in, fma_of, fma_flags, product_sign}
use Rattle.fmt_fields.specs.Width.{format, Fits}
use Rattle.fmt_fields.proofs.Numbers.{infinity_some}
use Rattle.fmt_decode.specs.Aside.{aside}
use Rattle.fmt_decode.proofs.Asides.{ordinary}
use Rattle.round_laws.specs.Location.{inside_at, stretched}
use Rattle.round_locate.specs.Located.{Locates}
use Rattle.round_locate.specs.declared.locate.Located.{Located}
use Rattle.round_step.specs.Outcome.{chosen_with}
use Rattle.round_step.proofs.Rounds.{in_bounds}
use Rattle.round_wide.specs.Stuck.{stuck}
use Rattle.fma_laws.specs.Aligned.{added_steps, added_sign, added_exp}
use Rattle.fma_laws.specs.Fused.{product_sig, product_exp, third_sig_of, third_exp_of, zero_in, rounded_sum, fma_gives}
use Rattle.fma_laws.proofs.Made.{rounded_none, rounded_located, rounded_folded, rounded_sum_is}
use Rattle.fma.specs.Special.{special}
use Rattle.fma.proofs.Rows.{not_special, fma_pattern}

module _ {p e : ℕ} (w : Fits p e) (x y z : ℕ) where
  pub is_pattern : (a : Attribute) {r : ℕ} → r ≡ fma_in (format p e) a x y z → Pattern (format p e) r
  is_pattern a h = subst (Pattern (format p e)) (sym h) (fma_pattern w a x y z)

  module _ (h : special (format p e) x y z ≡ false) where
    pub factors : Fits p e × (aside (format p e) x ≡ false) × (aside (format p e) y ≡ false)
    factors = let n = not_special (format p e) x y z h in (w, n.0, n.1)

    pub third : Fits p e × (magnitude (format p e) z < inf (format p e))
    third = (w, (not_special (format p e) x y z h).2)

    -- the sum in one word
    pub by_parts : (a : Attribute) (l : ℕ) → 2 ≤ p → 2 + p ≤ l → {g b sum : ℕ} {c d m : ℤ} {s t u : Bool}
        → (g ≡ product_sig (format p e) x y) × (c ≡ product_exp (format p e) x y) × (s ≡ product_sign (format p e) x y)
        → (b ≡ third_sig_of (format p e) z) × (d ≡ third_exp_of (format p e) z) × (t ≡ minus (format p e) z)
        → (sum ≡ added_steps l g c s b d t) × (u ≡ added_sign l g c s b d t) × (m ≡ added_exp l c d)
        → rounded_sum (format p e) a u sum m ≡ fma_gives (format p e) a x y z
    by_parts a l two room i j k =
        let some = infinity_some w in
        rounded_sum_is w a l two room x y z (ordinary (format p e) x some factors.1) (ordinary (format p e) y some factors.2) third.1 i j k refl

-- in two words, h and l, folded into one
pub by_fold : {p e : ℕ} → Fits p e → (a : Attribute) {G : ℕ × Flags} (h l : ℕ) {sum : ℕ} (m : ℤ) {k : ℤ} (u : Bool) {v : Bool} → h < 2 ^ 64 → rounded_sum (format p e) a u (h * 2 ^ 64 + l) m ≡ G
    → (sum ≡ stuck (h * 2 ^ 64 + l) (64 - count_leading_zeros 64 h)) × (k ≡ m +ℤ pos (64 - count_leading_zeros 64 h)) × (v ≡ u) → rounded_sum (format p e) a v sum k ≡ G
by_fold {p} {e} w a h l m u b g (i, j, n) = (λ t. rounded_sum (format p e) a (n t) (i t) (j t)) ∙ rounded_folded w a u h l m b ∙ g

-- ---- and what it gives: a zero where there are no steps, else what its location gives
pub by_none : (f : Format) (a : Attribute) {G : ℕ × Flags} (u : Bool) (sum : ℕ) (m : ℤ) → sum ≡ 0 → rounded_sum f a u sum m ≡ G → (zero_in f a, none) ≡ G
by_none f a u sum m e g = sym (rounded_none f a u sum m e) ∙ g

pub by_location : {p e : ℕ} → Fits p e → (a : Attribute) {G r : ℕ × Flags} (u : Bool) (sum : ℕ) (m : ℤ) (c : Located) → (sum ≡ 0 → ⊥)
    → Locates (format p e) (stretched sum (m +ℤ pos (low (format p e)) -ℤ pos 1)) c
    → r ≡ chosen_with (format p e) a u c → rounded_sum (format p e) a u sum m ≡ G → r ≡ G
by_location w a u sum m c some at r g = r ∙ rounded_located w a u sum m (omega (arith, some)) at.0 ∙ g

-- ---- what a location may be handed on with
pub finishes : {p e : ℕ} → Fits p e → (x : Exact) (c : Located) → Locates (format p e) x c → (c.below < inf (format p e)) × (c.location ≤ 3)
finishes w x c at = in_bounds w x at.0.0 at.0.1

pub finishes_inside : {p e : ℕ} → Fits p e → (x : Exact) (c : Located) → Locates (format p e) x c → c.inside ≡ true
    → (c.below < inf (format p e)) × (c.location ≤ 3) × (true ≡ inside_at (format p e) c.below)
finishes_inside w x c at i = let (b, l) = in_bounds w x at.0.0 at.0.1 in (b, l, sym i ∙ at.1)

-- the upper of two digits
pub upper_below : (h l b : ℕ) → h * b + l < b * b → h < b
upper_below h l b k = mul_lt_cancel h b b (omega arith)

-- ---- both parts of what is given; to the nearest even they are those of the plain call
pub both : (f : Format) (a : Attribute) (x y z : ℕ) {v : ℕ} {F : Flags} → (v, F) ≡ fma_gives f a x y z → (v ≡ fma_in f a x y z) × (F ≡ fma_flags_in f a x y z)
both f a x y z e = (ap (λ g. g.0) e, ap (λ g. g.1) e)

pub nearest : (f : Format) (x y z : ℕ) {v : ℕ} {F : Flags} → (v, F) ≡ fma_gives f ties_to_even x y z → (v ≡ fma_of f x y z) × (F ≡ fma_flags f x y z)
unfolding fma_of fma_flags
nearest f x y z e = (ap (λ g. g.0) e, ap (λ g. g.1) e)
