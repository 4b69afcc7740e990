-- Two numbers in steps of one size: one count is exact and even, the other marks its number. Assumes nothing.
use Prim.Native.Nat.{ℕ, suc, ◌+◌, ◌-◌, ◌*◌, ◌/◌, ◌%◌, ◌^◌, ◌≤◌, ◌<◌, min}
use mathlib.Core.Path.{◌≡◌, sym, ap, ◌∙◌, subst}
use mathlib.Core.Bool.{Bool, true, false}
use native.Mathlib.Omega.{arith}
use lib.Pow.{pow-add, pow_pos}
use lib.IntN.{ℤ, pos, negsuc}
use Rattle.algebra.proofs.Products.{order, times, times_le}
use Rattle.algebra.proofs.Integers.{up, dn}
use Rattle.round_step.specs.Mark.{Marks}
use Rattle.round_step.proofs.Marks.{marks_times, marked_le, le_marked}
use Rattle.round_wide.specs.Stuck.{stuck}
use Rattle.round_wide.proofs.Stuck.{stuck_marks, stuck_none, stuck_half}
use Rattle.fma_laws.specs.Aligned.{product_at, third_at, down_by, joined}

-- P and Q in steps of n: a and b of them
pub data Level (P Q n a b : ℕ) : Type 0 where
  first_whole : P ≡ a * n → a % 2 ≡ 0 → Marks Q n b → Level P Q n a b
  second_whole : Q ≡ b * n → b % 2 ≡ 0 → Marks P n a → Level P Q n a b

-- q, n bits above A, is shifted left by at most l, and the step by the rest
third_up : (l q n A B : ℕ) → n + A ≡ B → q * 2 ^ B ≡ q * 2 ^ min n l * 2 ^ (A + (n - l))
third_up l q n A B e = omega (arith, times q level)
  where
    level : 2 ^ B ≡ 2 ^ min n l * 2 ^ (A + (n - l))
    level = ap (λ k. 2 ^ k) (omega arith) ∙ pow-add 2 (min n l) (A + (n - l))

-- p has the exponent A and q the exponent B, which is d above
pub aligned : (l p q A B : ℕ) (d : ℤ) → p % 2 ≡ 0 → q % 2 ≡ 0 → up d + A ≡ dn d + B
    → Level (p * 2 ^ A) (q * 2 ^ B) (2 ^ (A + down_by l d)) (product_at l p d) (third_at l q d)
unfolding product_at third_at
aligned l p q A B (pos n) e h w =
    second_whole (third_up l q n A B (omega arith)) (omega (arith, times (2 ^ min n l) half))
    (subst (λ k. Marks (p * 2 ^ A) k (stuck p (n - l))) step (marks_times (stuck_marks p (n - l)) (2 ^ A) (pow_pos A)))
  where
    half : q ≡ q / 2 * 2
    half = omega arith

    step : 2 ^ (n - l) * 2 ^ A ≡ 2 ^ (A + (n - l))
    step = omega (arith, pow-add 2 A (n - l))
aligned l p q A B (negsuc n) e h w =
    first_whole (ap (λ k. p * 2 ^ k) (omega arith)) e
    (subst (λ k. Marks (q * 2 ^ B) k (stuck q (suc n))) step (marks_times (stuck_marks q (suc n)) (2 ^ B) (pow_pos B)))
  where
    step : 2 ^ suc n * 2 ^ B ≡ 2 ^ (A + 0)
    step = sym (pow-add 2 (suc n) B) ∙ ap (λ k. 2 ^ k) (omega arith)

-- ---- the counts compare as the numbers do
module _ {P Q n a b : ℕ} where
  pub level_le : Level P Q n a b → a ≤ b → P ≤ Q
  level_le (first_whole e h m) l = omega (arith, le_marked m a h l)
  level_le (second_whole e h m) l = omega (arith, marked_le m b h l)

  pub level_ge : Level P Q n a b → b ≤ a → Q ≤ P
  level_ge (first_whole e h m) l = omega (arith, marked_le m a h l)
  level_ge (second_whole e h m) l = omega (arith, le_marked m b h l)

-- ---- where anything was lost, the sum has two bits more than the format keeps: h is 2 ^ frac
far_apart : (u : Bool) (a b h : ℕ) → (a + 4 * h ≤ b → 4 * h ≤ joined u a b) × (b + 4 * h ≤ a → 4 * h ≤ joined u a b)
far_apart false a b h = (λ l. omega arith, λ l. omega arith)
far_apart true a b h = (λ l. omega arith, λ l. omega arith)

-- the sizes of the counts p of a product and q of a third number, where h is 2 ^ frac
pub record Sized (h p q : ℕ) : Type 0 where
  pub even_p : p % 2 ≡ 0
  pub even_q : q % 2 ≡ 0
  pub least_p : 2 * h * h ≤ p
  pub most_p : p < 8 * h * h
  pub least_q : 2 * h ≤ q
  pub most_q : q < 4 * h

module _ (l h p q : ℕ) (z : Sized h p q) (four : 4 ≤ h) (room : 4 * h ≤ 2 ^ l) where
  -- nothing was lost, or the sum is long
  pub kept : (d : ℤ) (A B : ℕ) → up d + A ≡ dn d + B → {G : Type 0}
      → (p * 2 ^ A ≡ product_at l p d * 2 ^ (A + down_by l d) → q * 2 ^ B ≡ third_at l q d * 2 ^ (A + down_by l d) → G)
      → (((u : Bool) → 4 * h ≤ joined u (product_at l p d) (third_at l q d)) → G) → G
  unfolding product_at third_at
  kept (pos n) A B e whole long =
      order n l
      (λ w.
      let none : n - l ≡ 0 = omega arith in
      let same : stuck p (n - l) ≡ p = ap (stuck p) none ∙ stuck_none p in
      let here : A ≡ A + (n - l) = omega arith in
      whole (λ i. sym same i * 2 ^ here i) (third_up l q n A B (omega arith)))
      (λ w.
      let m : min n l ≡ l = omega arith in
      let above : 8 * h * h ≤ q * 2 ^ min n l = rw m (omega (arith, times_le (2 ^ l) z.least_q, times_le h room)) in
      long (λ u. (far_apart u (stuck p (n - l)) (q * 2 ^ min n l) h).0 (omega (arith, stuck_half p (n - l) (omega arith), z.most_p, times_le h four))))
  kept (negsuc n) A B e whole long = long (λ u. (far_apart u p (stuck q (suc n)) h).1 (omega (arith, stuck_half q (suc n) (omega arith), z.least_p, z.most_q, times_le h four)))
