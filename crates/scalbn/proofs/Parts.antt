-- scalbn by its parts, at any width and under any attribute: a moved field, a location and its rounding, or a row (scalbn_laws: Scales). Assumes nothing.
use Prim.Native.Nat.{ℕ, ◌+◌, ◌-◌, ◌*◌, ◌^◌, ◌≤◌, ◌<◌}
use mathlib.Core.Path.{◌≡◌, sym, ap, ◌∙◌, subst}
use mathlib.Core.Logic.{⊎_elim}
use mathlib.Core.Bool.{Bool, true, false, cond}
use native.Mathlib.Omega.{arith}
use lib.Dec.{eqb}
use lib.IntN.{ℤ, pos}
use mir.Syntax.{w32}
use mir.Val.{SFits, to_z, of_z}
use mir.Facts.{to_z-of_z}
use Rattle.ieee.specs.Format.{Format, inf, canonical}
use Rattle.ieee.specs.Pattern.{Pattern, minus, field, fraction}
use Rattle.ieee.specs.Exact.{Exact}
use Rattle.ieee.specs.Round.{Attribute, way_of}
use Rattle.ieee.specs.Flags.{Flags, none, nan_flags, signals}
use Rattle.ieee.specs.Scalbn.{scaled, reach, clamp}
use Rattle.ieee.proofs.Patterns.{pattern_signed, canonical_pattern}
use Rattle.fmt_fields.specs.Width.{format, Fits}
use Rattle.fmt_fields.specs.Normal.{normal, normal_field}
use Rattle.fmt_fields.proofs.Normals.{normal_field_lem, not_normal}
use Rattle.fmt_exponents.specs.Field.{above}
use Rattle.fmt_exponents.proofs.Exponents.{above_is}
use Rattle.round_laws.specs.Location.{stretched, chosen}
use Rattle.round_locate.specs.declared.locate.Located.{Located}
use Rattle.round_locate.specs.Located.{Locates}
use Rattle.round_step.specs.Outcome.{outcome, chosen_with}
use Rattle.round_step.proofs.Rounds.{in_bounds, chosen_in_word, round_is}
use Rattle.scalbn_laws.specs.Normal.{full_of, full_exp, moved_to, scalbn_gives}
use Rattle.scalbn.specs.Scales.{Scales}
use Rattle.scalbn_laws.proofs.Scales.{moved_pattern, moved_gives, normal_gives, subnormal_gives, special_gives}

module _ {p e : ℕ} (w : Fits p e) where
  abbrev f : Format
  f = format p e

  -- ---- what the rounding requires
  pub ready : (y : Exact) (l : Located) → Locates f y l → (l.below < inf f) × (l.location ≤ 3)
  ready y l at = in_bounds w y at.0.0 at.0.1

  -- what is chosen is a pattern
  chosen_pattern : (a : Attribute) (s : Bool) (y : Exact) (l : Located) → Locates f y l → {v : ℕ} {F : Flags} → (v, F) ≡ chosen_with f a s l → Pattern f v
  chosen_pattern a s y l at o =
      subst (Pattern f) (sym (ap (λ g. g.0) o))
      (pattern_signed f s (chosen (way_of a s) l.below l.location) (chosen_in_word w l.below (ready y l at).0 (way_of a s) l.location))

  -- ---- the cases, by what the parts ensure; z is n as the code hands it on
  module _ (a : Attribute) {x : ℕ} (pattern : Pattern f x) {n : ℤ} (i32 : SFits w32 n) where
    abbrev z : ℤ
    z = to_z w32 (of_z w32 n)

    both : {v : ℕ} {F : Flags} → (v, F) ≡ scalbn_gives f a x z → Pattern f v → Scales f a x n v F
    both h i = let k = h ∙ ap (scalbn_gives f a x) (to_z-of_z i32) in record { value = ap (λ g. g.0) k; flags = ap (λ g. g.1) k; pattern = i }

    -- a field that moves among those of normal numbers
    pub moved : normal f x ≡ true → {q : ℕ} → q ≡ above (moved_to f x z) → {c : Bool} → c ≡ normal_field e q → c ≡ true
        → {v : ℕ} → v ≡ x - field f x * 2 ^ p + q * 2 ^ p → {F : Flags} → F ≡ none → Scales f a x n v F
    moved h {q} j k l r s =
        let (t, u) = normal_field_lem e q (sym k ∙ l) in
        let up = above_is (moved_to f x z) (omega (arith, j)) ∙ ap pos (sym j) in
        both ((λ m. (r m, s m)) ∙ moved_gives f w.fair x z h a q pattern up t u) (subst (Pattern f) (sym r) (moved_pattern f x pattern q (omega arith)))

    -- a value that is located and chosen by
    finished : (u : ℕ) (k : ℤ) → outcome f a (minus f x) (scaled (minus f x) u k) ≡ scalbn_gives f a x z → (l : Located) → Locates f (stretched u k) l
        → {s : Bool} → s ≡ minus f x → {v : ℕ} {F : Flags} → (v, F) ≡ chosen_with f a s l → Scales f a x n v F
    finished u k h l at i o =
        both (o ∙ ap (λ s. chosen_with f a s l) i ∙ round_is f w.fair a (minus f x) u k at.0 ∙ h) (chosen_pattern a _ (stretched u k) l at o)

    -- a normal number that leaves them
    pub located : normal f x ≡ true → (l : Located) → Locates f (stretched (full_of f x) (full_exp f x z)) l
        → {s : Bool} → s ≡ minus f x → {v : ℕ} {F : Flags} → (v, F) ≡ chosen_with f a s l → Scales f a x n v F
    located h = finished (full_of f x) (full_exp f x z) (normal_gives f w.fair x z h a)

    -- a subnormal number, or a zero
    pub low_located : field f x ≡ 0 → (l : Located) → Locates f (stretched (fraction f x) (clamp (reach f) z)) l
        → {s : Bool} → s ≡ minus f x → {v : ℕ} {F : Flags} → (v, F) ≡ chosen_with f a s l → Scales f a x n v F
    low_located h = finished (fraction f x) (clamp (reach f) z) (subnormal_gives f w.fair a x z h)

-- neither: an infinity or a NaN
either : (f : Format) (b : Bool) (x c : ℕ) → Pattern f x → Pattern f c → Pattern f (cond b x c)
either f true x c p q = p
either f false x c p q = q

module _ (f : Format) {x : ℕ} (pattern : Pattern f x) (h : normal f x ≡ false) (some : field f x ≡ 0 → ⊥) where
  pub special : {v : ℕ} → v ≡ cond (eqb (fraction f x) 0) x (canonical f) → {s : Bool} → s ≡ signals f x → {F : Flags} → F ≡ nan_flags s
      → (a : Attribute) (n : ℤ) → Scales f a x n v F
  special r s t a n =
      let last = ⊎_elim (λ u. absurd (some u)) (λ u. u) (not_normal f x h) in
      let k = (λ m. (r m, (t ∙ ap nan_flags s) m)) ∙ special_gives f a x n last in
      record {
        value = ap (λ g. g.0) k;
        flags = ap (λ g. g.1) k;
        pattern = subst (Pattern f) (sym r) (either f (eqb (fraction f x) 0) x (canonical f) pattern (canonical_pattern f));
      }
