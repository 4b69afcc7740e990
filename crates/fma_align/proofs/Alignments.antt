-- A product and a third number aligned to one exponent, by where the third is: below the product, above it with room, or further up. Assumes nothing.
use Prim.Native.Nat.{ℕ, suc, ◌+◌, ◌-◌, ◌*◌, ◌^◌, min, ◌≤◌, ◌<◌}
use mathlib.Core.Path.{◌≡◌, refl, sym, ap, ◌∙◌, subst}
use mathlib.Core.Logic.{◌⊎◌, inl, inr}
use mathlib.Core.Bool.{Bool, true, false, cond}
use native.Mathlib.Omega.{arith}
use lib.IntN.{ℤ, pos, negsuc, ◌-ℤ◌}
use lib.Signed.{mag, lt_z}
use Rattle.algebra.proofs.Products.{order, times}
use Rattle.algebra.proofs.Powers.{pow_diff}
use Rattle.algebra.proofs.Integers.{up, dn, one_z, sub_z, eq_z_fact, lt_z_true, lt_z_false}
use Rattle.fmt_exponents.specs.Field.{above}
use Rattle.round_wide.specs.Stuck.{stuck}
use Rattle.round_wide.proofs.Stuck.{stuck_none, stuck_whole, stuck_shifted}
use Rattle.fma_laws.specs.Aligned.{product_at, third_at, down_by}

-- ---- how far below and above
above_up : (z : ℤ) → above z ≡ up z
above_up (pos n) = refl
above_up (negsuc n) = refl

-- t is the larger of a and b
pub record Top (a b t : ℤ) : Type 0 where
  pub some : (dn (t -ℤ a) ≡ 0) × (dn (t -ℤ b) ≡ 0)
  pub sides : (up (t -ℤ a) ≡ above (b -ℤ a)) × (up (t -ℤ b) ≡ above (a -ℤ b))
  pub small : (h : ℕ) → mag a < h → mag b < h → mag t < h

pub top_is : (a b t : ℤ) → t ≡ cond (lt_z a b) b a → Top a b t
top_is a b t e = go (lt_z a b) refl e
  where
    -- t less c, where t is c or d, and d or c is t
    lower : (c d : ℤ) → up c + dn t ≤ up t + dn c → (t ≡ d) ⊎ ((t ≡ c) × (up d + dn c ≤ up c + dn d)) → (dn (t -ℤ c) ≡ 0) × (up (t -ℤ c) ≡ above (d -ℤ c))
    lower c d l (inl i) = omega (arith, l, eq_z_fact i, sub_z t c, sub_z d c, one_z (t -ℤ c), one_z (d -ℤ c), above_up (d -ℤ c))
    lower c d l (inr (i, m)) = omega (arith, l, m, eq_z_fact i, sub_z t c, sub_z d c, one_z (t -ℤ c), one_z (d -ℤ c), above_up (d -ℤ c))

    go : (s : Bool) → lt_z a b ≡ s → t ≡ cond s b a → Top a b t
    go true i j =
        let l = lt_z_true a b i in
        let x = lower a b (omega (arith, l, eq_z_fact j)) (inl j) in
        let y = lower b a (omega (arith, eq_z_fact j)) (inr (j, omega (arith, l))) in
        record { some = (x.0, y.0); sides = (x.1, y.1); small = λ h p q. subst (λ z. mag z < h) (sym j) q }
    go false i j =
        let l = lt_z_false a b i in
        let x = lower a b (omega (arith, eq_z_fact j)) (inr (j, l)) in
        let y = lower b a (omega (arith, l, eq_z_fact j)) (inl j) in
        record { some = (x.0, y.0); sides = (x.1, y.1); small = λ h p q. subst (λ z. mag z < h) (sym j) p }

pub sides_told : (e g : ℤ) {a b : ℕ} → a ≡ above (g -ℤ e) → b ≡ above (e -ℤ g) → (a ≡ up (g -ℤ e)) × (b ≡ dn (g -ℤ e))
sides_told e g s t = omega (arith, s, t, above_up (g -ℤ e), above_up (e -ℤ g), sub_z g e, sub_z e g, one_z (g -ℤ e), one_z (e -ℤ g))

-- ---- x and y are the product p and the third number q, which is d bits above p, aligned k bits above the product's own exponent
abbrev pub Aligns : ℕ → ℕ → ℕ → ℤ → ℕ → ℕ → ℕ → Type 0
Aligns l p q d x y k = (x ≡ product_at l p d) × (y ≡ third_at l q d) × (k ≡ down_by l d)

module _ (l p q : ℕ) where
  -- q, l bits up, lowered to n: no bit is lost on the way
  lowered : (n : ℕ) → stuck (q * 2 ^ l) (l - n) ≡ q * 2 ^ min n l
  lowered n =
      order n l
      (λ h.
      let m : q * 2 ^ l ≡ q * 2 ^ n * 2 ^ (l - n) = omega (arith, times q (pow_diff {a = l} {b = n} h)) in
      ap (λ v. stuck v (l - n)) m ∙ stuck_whole (q * 2 ^ n) (l - n) ∙ ap (λ k. q * 2 ^ k) (omega arith))
      (λ h. let z : l - n ≡ 0 = omega arith in ap (stuck (q * 2 ^ l)) z ∙ stuck_none (q * 2 ^ l) ∙ ap (λ k. q * 2 ^ k) (omega arith))

  pub aligns_below : (d : ℤ) (y b : ℕ) → b ≡ dn d → 0 < b → y ≡ stuck q b → Aligns l p q d p y 0
  unfolding product_at third_at
  aligns_below (pos n) y b s h e = absurd (omega arith)
  aligns_below (negsuc n) y b s h e = (refl, e ∙ ap (stuck q) s, refl)

  pub aligns_near : (d : ℤ) (y n b : ℕ) → b ≡ dn d → b ≤ 0 → n ≡ up d → n < l → y ≡ q * 2 ^ n → Aligns l p q d p y 0
  unfolding product_at third_at
  aligns_near (pos m) y n b s h t g e =
      let z : m - l ≡ 0 = omega arith in
      let i : n ≡ min m l = omega arith in
      (sym (ap (stuck p) z ∙ stuck_none p), e ∙ ap (λ k. q * 2 ^ k) i, sym z)
  aligns_near (negsuc m) y n b s h t g e = absurd (omega arith)

  pub aligns_far : (d : ℤ) (x y n b : ℕ) → b ≡ dn d → b ≤ 0 → n ≡ up d → l ≤ n → x ≡ stuck p (n - l) → y ≡ q * 2 ^ l → Aligns l p q d x y (n - l)
  unfolding product_at third_at
  aligns_far (pos m) x y n b s h t g e f =
      let i : l ≡ min m l = omega arith in
      let j : n - l ≡ m - l = omega arith in
      (e ∙ ap (stuck p) j, f ∙ ap (λ k. q * 2 ^ k) i, j)
  aligns_far (negsuc m) x y n b s h t g e f = absurd (omega arith)

  -- q begins l bits up, and the lower of the two is shifted right: p by a, or q by b
  pub aligns_from_room : (d : ℤ) (x y a b : ℕ) → a + l + dn d ≡ b + up d → min a b ≡ 0 → x ≡ stuck p a → y ≡ stuck (q * 2 ^ l) b → Aligns l p q d x y a
  unfolding product_at third_at
  aligns_from_room (pos n) x y a b i o g h =
      let (j, k) : (a ≡ n - l) × (b ≡ l - n) = omega (arith, i, o) in
      (g ∙ ap (stuck p) j, h ∙ ap (stuck (q * 2 ^ l)) k ∙ lowered n, j)
  aligns_from_room (negsuc n) x y a b i o g h =
      let (j, k) : (a ≡ 0) × (b ≡ l + suc n) = omega (arith, i, o) in
      (g ∙ ap (stuck p) j ∙ stuck_none p, h ∙ ap (stuck (q * 2 ^ l)) k ∙ stuck_shifted q l (suc n), j)
