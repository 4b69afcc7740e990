-- Normal numbers by their exponent field, and the one comparison that finds them. Assumes nothing.
use Rattle.std.proofs.Common.{◌≡◌, ℕ, zero, suc, ◌+◌, ◌-◌, ◌%◌, ◌^◌, ◌<◌, ◌≤◌, Bool, true, false, ◌&&◌, ltb, ◌⊎◌, sym, refl, ap, ◌∙◌, inl, inr, ⊎_elim, true≢false, arith, ltb-false, ltb-true, le-ltb, lt-ltb}
use Rattle.algebra.proofs.Products.{order}
use Rattle.ieee.specs.Format.{Format}
use Rattle.ieee.specs.Pattern.{field}
use Rattle.ieee.proofs.Fields.{field_small}
use Rattle.fmt_fields.specs.Normal.{normal, normal_field}

-- a field that is not of normal numbers is 0, or is the last or past it
pub not_normal_field : (e q : ℕ) → normal_field e q ≡ false → (q ≡ 0) ⊎ (2 ^ e - 1 ≤ q)
not_normal_field e q h = by (ltb 0 q) (ltb q (2 ^ e - 1)) refl refl h
  where
    by : (a b : Bool) → ltb 0 q ≡ a → ltb q (2 ^ e - 1) ≡ b → a && b ≡ false → (q ≡ 0) ⊎ (2 ^ e - 1 ≤ q)
    by true true i j h = absurd (true≢false h)
    by true false i j h = inr (ltb-false q (2 ^ e - 1) j)
    by false b i j h = inl (omega (arith, ltb-false 0 q i))

pub normal_field_lem : (e q : ℕ) → normal_field e q ≡ true → (0 < q) × (q < 2 ^ e - 1)
normal_field_lem e q h = by (ltb 0 q) (ltb q (2 ^ e - 1)) refl refl h
  where
    by : (a b : Bool) → ltb 0 q ≡ a → ltb q (2 ^ e - 1) ≡ b → a && b ≡ true → (0 < q) × (q < 2 ^ e - 1)
    by true true i j h = (ltb-true 0 q i, ltb-true q (2 ^ e - 1) j)
    by true false i j h = absurd (true≢false (sym h))
    by false b i j h = absurd (true≢false (sym h))

module _ (f : Format) (x : ℕ) where
  pub normal_between : normal f x ≡ true → (0 < field f x) × (field f x < 2 ^ f.expo - 1)
  normal_between e = normal_field_lem f.expo (field f x) e

  pub not_normal : normal f x ≡ false → (field f x ≡ 0) ⊎ (field f x ≡ 2 ^ f.expo - 1)
  not_normal e = ⊎_elim (λ z. inl z) (λ l. inr (omega (arith, l, field_small f x))) (not_normal_field f.expo (field f x) e)

-- a field q less one, in a word, beside the last of l fields less one
pub by_wrap : (q w l : ℕ) → (w + 1) % 2 ^ 64 ≡ q → w < 2 ^ 64 → 2 ≤ l → l < 2 ^ 64 → ltb w (l - 2) ≡ ltb 0 q && ltb q (l - 1)
by_wrap zero w l e b p g = le-ltb w (l - 2) (omega arith)
by_wrap (suc q) w l e b p g =
    (order (l - 1) (suc q)
    (λ h. le-ltb w (l - 2) (omega arith) ∙ sym (le-ltb (suc q) (l - 1) h))
    (λ h. lt-ltb w (l - 2) (omega arith) ∙ sym (lt-ltb (suc q) (l - 1) h)))
    ∙ ap (λ t. t && ltb (suc q) (l - 1)) (sym (lt-ltb 0 (suc q) (omega arith)))
