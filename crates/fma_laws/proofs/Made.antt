-- A fused sum by its parts, whatever words hold them: where each part is the definition's, so is the answer. Assumes nothing.
use Prim.Native.Nat.{ℕ, suc, ◌+◌, ◌-◌, ◌*◌, ◌^◌, ◌≤◌, ◌<◌}
use mathlib.Core.Path.{◌≡◌, refl, sym, ap, ◌∙◌}
use mathlib.Core.Bool.{Bool, true, false, cond}
use native.Mathlib.Omega.{arith}
use borrow.Author.Tests.{eqb-true, eqb-false, ne_eqb}
use lib.Dec.{eqb}
use lib.Count.{count_leading_zeros}
use lib.IntN.{ℤ, pos, negsuc, ◌+ℤ◌, ◌-ℤ◌}
use lib.Signed.{mag}
use Rattle.algebra.proofs.Products.{order}
use Rattle.algebra.proofs.Integers.{up, dn, add_z, sub_z, one_z, eq_z, mag_z, mag_z_fact}
use Rattle.ieee.specs.Format.{Format, low, inf}
use Rattle.ieee.specs.Pattern.{minus, magnitude, signed, unlike}
use Rattle.ieee.specs.Round.{Attribute, way_of}
use Rattle.ieee.specs.Flags.{Flags, none}
use Rattle.ieee.specs.Scalbn.{scaled}
use Rattle.ieee.specs.Fma.{product_sign}
use Rattle.round_step.specs.Outcome.{outcome}
use Rattle.fmt_fields.specs.Width.{format, Fits}
use Rattle.fmt_decode.specs.Significand.{exp_of}
use Rattle.fmt_decode.proofs.Asides.{Ordinary}
use Rattle.fmt_decode.proofs.Ranges.{low_small}
use Rattle.round_laws.specs.Location.{below, location, high, beyond, chosen, stretched}
use Rattle.round_laws.specs.Flags.{flags_by}
use Rattle.round_step.proofs.Rounds.{round_is}
use Rattle.round_wide.specs.Stuck.{stuck}
use Rattle.round_wide.proofs.Folds.{folded_outcome, folded_none}
use Rattle.round_wide.proofs.Stuck.{stuck_none, stuck_le}
use Rattle.fma_laws.specs.Aligned.{product_at, third_at, down_by, joined, joined_sign, added_steps, added_sign, added_exp}
use Rattle.fma_laws.specs.Fused.{product_sig, product_exp, third_sig, third_sig_of, third_exp_of, lowest, fused_steps, fused_sign, zero_in, rounded_sum, fma_gives}
use Rattle.fma_laws.proofs.Sums.{sign_first}
use Rattle.fma_laws.proofs.Fused.{fused_none, fused_own, joined_nothing, product_twice}
use Rattle.fma_laws.proofs.Room.{product_small, product_some}

-- ---- a sum rounded
pub rounded_some : (f : Format) (a : Attribute) (s : Bool) (n : ℕ) (e : ℤ) → 0 < n → rounded_sum f a s n e ≡ outcome f a s (scaled s n (e +ℤ pos (low f) -ℤ pos 1))
unfolding rounded_sum
rounded_some f a s n e l = ap (λ b. cond b (zero_in f a, none) (outcome f a s (scaled s n (e +ℤ pos (low f) -ℤ pos 1)))) (ne_eqb n 0 (omega arith))

pub rounded_none : (f : Format) (a : Attribute) (s : Bool) (n : ℕ) (e : ℤ) → n ≡ 0 → rounded_sum f a s n e ≡ (zero_in f a, none)
unfolding rounded_sum
rounded_none f a s n e h = ap (λ m. cond (eqb m 0) (zero_in f a, none) (outcome f a s (scaled s n (e +ℤ pos (low f) -ℤ pos 1)))) h

-- by its location
pub rounded_located : {p e : ℕ} → Fits p e → (a : Attribute) {m l : ℕ} {h b : Bool} (s : Bool) (n : ℕ) (k : ℤ) → 0 < n
    → let f = format p e in let x = stretched n (k +ℤ pos (low f) -ℤ pos 1) in
    (m ≡ below f x) × (l ≡ location f x) × (h ≡ high f x) × (b ≡ beyond f x) → (signed f s (chosen (way_of a s) m l), flags_by f (way_of a s) m l h b) ≡ rounded_sum f a s n k
rounded_located {p} {e} w a s n k some at =
    let f = format p e in
    round_is f w.fair a s n (k +ℤ pos (low f) -ℤ pos 1) at ∙ sym (rounded_some f a s n k some)

-- folded into one word
pub rounded_folded : {p e : ℕ} → Fits p e → (a : Attribute) (s : Bool) (h l : ℕ) (n : ℤ) → h < 2 ^ 64
    → let k = 64 - count_leading_zeros 64 h in rounded_sum (format p e) a s (stuck (h * 2 ^ 64 + l) k) (n +ℤ pos k) ≡ rounded_sum (format p e) a s (h * 2 ^ 64 + l) n
rounded_folded {p} {e} w a s h l n b =
    let f = format p e in
    let k : ℕ = 64 - count_leading_zeros 64 h in
    let v : ℕ = h * 2 ^ 64 + l in
    order 1 v
    (λ some.
    let kept : 0 < stuck v k = order 1 (stuck v k) (λ g. g) (λ g. absurd (omega (arith, folded_none h l b (omega arith)))) in
    let i : ℤ = n +ℤ pos (low f) -ℤ pos 1 in
    let j : ℤ = n +ℤ pos k +ℤ pos (low f) -ℤ pos 1 in
    let moved : j ≡ i +ℤ pos k = eq_z j (i +ℤ pos k) (omega (arith, sub_z (n +ℤ pos k +ℤ pos (low f)) (pos 1), add_z (n +ℤ pos k) (pos (low f)), add_z n (pos k), add_z i (pos k), sub_z (n +ℤ pos (low f)) (pos 1), add_z n (pos (low f)))) in
    rounded_some f a s (stuck v k) (n +ℤ pos k) kept
    ∙ ap (λ m. outcome f a s (scaled s (stuck v k) m)) moved
    ∙ sym (folded_outcome w a s h l i b)
    ∙ sym (rounded_some f a s v n some))
    (λ none.
    let gone : v ≡ 0 = omega arith in
    rounded_none f a s (stuck v k) (n +ℤ pos k) (omega (arith, gone, stuck_le v k)) ∙ sym (rounded_none f a s v n gone))

-- its exponent, in smallest units
pub units_small : {p e : ℕ} → Fits p e → (n : ℤ) → mag n < 2 ^ 19 + 2 ^ 18 + 2 ^ 7 → mag (n +ℤ pos (low (format p e)) -ℤ pos 1) < 2 ^ 20 - 64
units_small {p} {e} w n l =
    let b = n +ℤ pos (low (format p e)) in
    let bounds : (up (b -ℤ pos 1) < 2 ^ 20 - 64 + dn (b -ℤ pos 1)) × (dn (b -ℤ pos 1) ≤ 2 ^ 20 - 64 + up (b -ℤ pos 1)) =
    omega (arith, sub_z b (pos 1), add_z n (pos (low (format p e))), mag_z_fact n l, low_small w) in
    mag_z (b -ℤ pos 1) (2 ^ 20 - 64) bounds.0 bounds.1

-- ---- a zero added: the product stays as it is
module _ (l p : ℕ) where
  product_stays : (d : ℤ) → up d ≡ 0 → (product_at l p d ≡ p) × (down_by l d ≡ 0)
  unfolding product_at
  product_stays (pos n) e = let z : n - l ≡ 0 = omega arith in (ap (stuck p) z ∙ stuck_none p, z)
  product_stays (negsuc n) e = (refl, refl)

nothing_comes : (l : ℕ) (d : ℤ) → third_at l 0 d ≡ 0
unfolding third_at
nothing_comes l (pos n) = omega arith
nothing_comes l (negsuc n) = let h = stuck_le 0 (suc n) in omega arith

-- ---- x and y are numbers that are not zero, and z is a number
module _ {p e : ℕ} (w : Fits p e) (a : Attribute) (l : ℕ) (two : 2 ≤ p) (room : 2 + p ≤ l) (x y z : ℕ) (ox : Ordinary (format p e) x) (oy : Ordinary (format p e) y) where
  abbrev f : Format
  f = format p e

  abbrev P : ℕ
  P = product_sig f x y

  abbrev E : ℤ
  E = product_exp f x y

  abbrev S : Bool
  S = product_sign f x y

  some_added : Ordinary f z → rounded_sum f a (fused_sign f l x y z) (fused_steps f l x y z) (added_exp l E (exp_of f z)) ≡ fma_gives f a x y z
  some_added oz =
      order 1 (fused_steps f l x y z)
      (λ h. rounded_some f a _ _ _ h ∙ sym (fused_own f w.fair a l x y z ox oy oz two room h))
      (λ h. let none : fused_steps f l x y z ≡ 0 = omega arith in rounded_none f a _ _ _ none ∙ sym (fused_none f w.fair a l x y z ox oy oz none))

  zero_added : magnitude f z ≡ 0 → rounded_sum f a (added_sign l P E S 0 lowest (minus f z)) (added_steps l P E S 0 lowest (minus f z)) (added_exp l E lowest) ≡ fma_gives f a x y z
  zero_added h =
      let d = lowest -ℤ E in
      let under : up d ≡ 0 = omega (arith, sub_z lowest E, one_z d, one_z E, mag_z_fact E (product_small w x y ox oy)) in
      let (stays, b) = product_stays l P d under in
      let n = nothing_comes l d in
      (λ i. rounded_sum f a (joined_sign S (minus f z) (stays i) (n i)) (joined (unlike S (minus f z)) (stays i) (n i)) (E +ℤ pos (b i)))
      ∙ (λ i. rounded_sum f a (sign_first S (minus f z) P 0 (omega arith) i) (joined_nothing (unlike S (minus f z)) P i) (E +ℤ pos 0))
      ∙ rounded_some f a S P (E +ℤ pos 0) (product_some f w.fair x y ox oy)
      ∙ sym (product_twice f w.fair a x y z ox oy h)

  added : magnitude f z < inf f → rounded_sum f a (added_sign l P E S (third_sig_of f z) (third_exp_of f z) (minus f z)) (added_steps l P E S (third_sig_of f z) (third_exp_of f z) (minus f z)) (added_exp l E (third_exp_of f z)) ≡ fma_gives f a x y z
  added h = by_zero (eqb (magnitude f z) 0) refl
    where
      by_zero : (b : Bool) → eqb (magnitude f z) 0 ≡ b
          → let q = cond b 0 (third_sig f z) in let g = cond b lowest (exp_of f z) in
          rounded_sum f a (added_sign l P E S q g (minus f z)) (added_steps l P E S q g (minus f z)) (added_exp l E g) ≡ fma_gives f a x y z
      by_zero true i = zero_added (eqb-true (magnitude f z) 0 i)
      by_zero false i = let t = eqb-false (magnitude f z) 0 i in some_added (record { least = omega (arith, t); most = h })

  -- the parts, each as its function gives it
  pub rounded_sum_is : magnitude f z < inf f → {g b sum : ℕ} {r : ℕ × Flags} {c d m : ℤ} {s t u : Bool} → (g ≡ P) × (c ≡ E) × (s ≡ S) → (b ≡ third_sig_of f z) × (d ≡ third_exp_of f z) × (t ≡ minus f z)
      → (sum ≡ added_steps l g c s b d t) × (u ≡ added_sign l g c s b d t) × (m ≡ added_exp l c d) → r ≡ rounded_sum f a u sum m → r ≡ fma_gives f a x y z
  rounded_sum_is h (i, j, k) (i', j', k') (g, v, o) q =
      q
      ∙ (λ n. rounded_sum f a (v n) (g n) (o n))
      ∙ (λ n. rounded_sum f a (added_sign l (i n) (j n) (k n) (i' n) (j' n) (k' n)) (added_steps l (i n) (j n) (k n) (i' n) (j' n) (k' n)) (added_exp l (j n) (j' n)))
      ∙ added h
