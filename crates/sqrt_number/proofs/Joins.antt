-- A root that makes a normal number: its location is one bit of the root and the mark, and these decide which whole number a way takes. Assumes nothing.
use Prim.Native.Nat.{ℕ, zero, suc, ◌+◌, ◌-◌, ◌*◌, ◌/◌, ◌%◌, ◌^◌, ◌≤◌, ◌<◌}
use mathlib.Core.Path.{◌≡◌, refl, ap, ap₂, ◌∙◌}
use mathlib.Core.Bool.{Bool, true, false}
use native.Mathlib.Omega.{arith}
use lib.IntN.{pos}
use lib.Pow.{pow-add}
use borrow.Author.Tests.{lt-ltb, le-ltb}
use Rattle.algebra.proofs.Products.{order}
use Rattle.algebra.proofs.Integers.{up, dn, sub_z}
use Rattle.ieee.specs.Format.{Format, Fair}
use Rattle.ieee.specs.Pattern.{signed}
use Rattle.ieee.specs.Round.{Way, even, away, shorter, longer, Attribute, way_of, answer}
use Rattle.ieee.specs.Scalbn.{scaled}
use Rattle.round_laws.specs.Location.{location, below, chosen, part, stretched}
use Rattle.round_laws.proofs.Locations.{locate_normal}
use Rattle.round_laws.proofs.Stretched.{stretched_ratio}
use Rattle.round_step.proofs.Scaled.{answer_chosen}
use Rattle.sqrt_table.proofs.Wholes.{Whole, exact_nearest}
use Rattle.sqrt_number.specs.Split.{half_of, marked_by, taken_by}

-- a root of frac + 2 bits and a lifted exponent that make a normal number
pub record NormalRoot (f : Format) (root up : ℕ) : Type 0 where
  pub least : 2 * 2 ^ f.frac ≤ root
  pub most : root < 4 * 2 ^ f.frac
  pub from : 4 ≤ up
  pub to : up / 2 < 2 ^ f.expo

part_four : (r : ℕ) → r < 4 → part r 4 ≡ r
part_four zero h = refl
part_four (suc zero) h = refl
part_four (suc (suc zero)) h = refl
part_four (suc (suc (suc zero))) h = refl
part_four (suc (suc (suc (suc r)))) h = absurd (omega arith)

-- ---- the choice by the location, from k on: at a whole number, before the middle to the next, and past it
at_whole : (w : Way) (k m : ℕ) → chosen w (k + m) 0 ≡ k + taken_by w m m true
at_whole even k m = rw (le-ltb 2 (0 + (k + m) % 2) (omega arith)) (omega arith)
at_whole away k m = omega arith
at_whole shorter k m = refl
at_whole longer k m = omega arith

before_middle : (w : Way) (k m : ℕ) → chosen w (k + m) 1 ≡ k + taken_by w m m false
before_middle even k m = rw (le-ltb 2 (1 + (k + m) % 2) (omega arith)) (omega arith)
before_middle away k m = omega arith
before_middle shorter k m = refl
before_middle longer k m = omega arith

past_middle : (w : Way) (k m : ℕ) → chosen w (k + m) 3 ≡ k + taken_by w m (m + 1) false
past_middle even k m = rw (lt-ltb 2 (3 + (k + m) % 2) (omega arith)) (omega arith)
past_middle away k m = omega arith
past_middle shorter k m = refl
past_middle longer k m = omega arith

no_sign : (f : Format) (m : ℕ) → signed f false m ≡ m
no_sign f m = omega arith

-- past the middle where the nearest number is the next
lands : (w : Way) (from : ℕ) {n m k : ℕ} {b : Bool} → Whole n m k b → chosen w (from + marked_by (m + k) b / 4) (marked_by (m + k) b % 4) ≡ from + taken_by w m k b
lands w from {n} {m} {k} {b = true} v =
    let e : k ≡ m = exact_nearest v refl in
    let r : (2 * (m + k) + 0) % 4 ≡ 0 = omega arith in
    let s : (2 * (m + k) + 0) / 4 ≡ m = omega arith in
    rw (r, s, e) (at_whole w from m)
lands w from {n} {m} {k} {b = false} v =
    order k m
    (λ h.
    let e : k ≡ m = omega (arith, v.low) in
    let r : (2 * (m + k) + 1) % 4 ≡ 1 = omega arith in
    let s : (2 * (m + k) + 1) / 4 ≡ m = omega arith in
    rw (r, s, e) (before_middle w from m))
    (λ h.
    let e : k ≡ m + 1 = omega (arith, v.high) in
    let r : (2 * (m + k) + 1) % 4 ≡ 3 = omega arith in
    let s : (2 * (m + k) + 1) / 4 ≡ m = omega arith in
    rw (r, s, e) (past_middle w from m))

module _ (f : Format) (g : Fair f) (t lifted : ℕ) (i : NormalRoot f t lifted) where
  length : (b : Bool) → (2 ^ (2 + f.frac) ≤ marked_by t b) × (marked_by t b < 2 ^ (2 + suc f.frac))
  length true = omega (arith, i.least, i.most, pow-add 2 2 f.frac, pow-add 2 2 (suc f.frac), pow-add 2 1 f.frac)
  length false = omega (arith, i.least, i.most, pow-add 2 2 f.frac, pow-add 2 2 (suc f.frac), pow-add 2 1 f.frac)

  known_location : (b : Bool) → let x = stretched (marked_by t b) (half_of lifted) in (below f x ≡ (lifted / 2 - 2) * 2 ^ f.frac + marked_by t b / 4) × (location f x ≡ marked_by t b % 4)
  known_location b =
      let s : ℕ = marked_by t b in
      let (l, h) = length b in
      let (m, q, _, _) = locate_normal f g 2 s (up (half_of lifted)) (dn (half_of lifted)) (lifted / 2 - 2) l h (omega (arith, sub_z (pos (lifted / 2)) (pos 4), i.from)) (omega (arith, i.from, i.to)) in
      rw stretched_ratio (m, q ∙ part_four (s % 4) (omega arith))

-- the root rounded down to m, with the nearest number k, as a number
pub rounded_is : (f : Format) → Fair f → {n m k : ℕ} {b : Bool} → Whole n m k b → (lifted : ℕ) → NormalRoot f (m + k) lifted → (a : Attribute)
    → answer f a false (scaled false (marked_by (m + k) b) (half_of lifted)) ≡ (lifted / 2 - 2) * 2 ^ f.frac + taken_by (way_of a false) m k b
rounded_is f g {n} {m} {k} {b} v lifted i a =
    let (l, q) = known_location f g (m + k) lifted i b in
    answer_chosen f g a false (marked_by (m + k) b) (half_of lifted) ∙ ap (signed f false) (ap₂ (chosen (way_of a false)) l q) ∙ no_sign f _ ∙ lands (way_of a false) _ v
