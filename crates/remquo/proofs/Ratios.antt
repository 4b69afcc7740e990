-- Two numbers over one scale have the quotient of their numerators, their remainder over the scale, and their nearest multiple. Assumes nothing.
use Rattle.std.proofs.Common.{◌≡◌, ℕ, ◌+◌, ◌-◌, ◌*◌, ◌/◌, ◌%◌, ◌<◌, ◌≤◌, cond, ◌&&◌, ◌||◌, eqb, ltb, sym, ap, ◌∙◌, arith, eq-eqb, ne_eqb}
use native.Mathlib.Decide.{dec_le}
use native.Mathlib.Omega.{both_ways}
use Rattle.algebra.proofs.Products.{times, times_le, diff, mul_le_cancel, mul_lt_cancel, mul_eq_cancel}
use Rattle.algebra.proofs.Quotients.{div_mod, div_is}
use Rattle.word_wide.proofs.Pairs.{same_test}
use Rattle.ieee.specs.Round.{even}
use Rattle.ieee.specs.Whole.{whole}
use Rattle.remquo.specs.Nearest.{goes_up, counted}

same_eqb : (a b c d : ℕ) → (a ≡ b → c ≡ d) → (c ≡ d → a ≡ b) → eqb a b ≡ eqb c d
same_eqb a b c d f g = go (dec_le a b) (dec_le b a)
  where
    unlike : (a ≡ b → ⊥) → eqb a b ≡ eqb c d
    unlike n = ne_eqb a b n ∙ sym (ne_eqb c d (λ e. n (g e)))

    go : Dec (a ≤ b) → Dec (b ≤ a) → eqb a b ≡ eqb c d
    go (yes h) (yes k) = let e = both_ways a b h k in eq-eqb a b e ∙ sym (eq-eqb c d (f e))
    go (no h) k = unlike (λ e. h (omega arith))
    go (yes h) (no k) = unlike (λ e. k (omega arith))

-- u and v over the scale h, and a and d over s
module _ (u v a d h s : ℕ) (scale : 0 < h) (unit : 0 < s) (some : 0 < d) (first : u * h ≡ a * s) (second : v * h ≡ d * s) where
  pub ratio_parts : (u / v ≡ a / d) × (u % v * h ≡ a % d * s)
  ratio_parts =
      let (e, l) = div_mod a d some in
      let k : a / d * v ≤ u = mul_le_cancel (a / d * v) u h scale (omega (arith, times s e, times (a / d) second, first)) in
      let left : (u - a / d * v) * h ≡ a % d * s = omega (arith, diff h k, times s e, times (a / d) second, first) in
      let small : u - a / d * v < v = mul_lt_cancel (u - a / d * v) v h (omega (arith, left, times_le s l, second, unit)) in
      let (q, r) = div_is u v (a / d) (u - a / d * v) small (omega arith) in
      (q, ap (λ n. n * h) r ∙ left)

  goes_up_alike : goes_up (u % v) v (u / v) ≡ goes_up (a % d) d (a / d)
  goes_up_alike =
      let (q, r) = ratio_parts in
      (λ i. past i || (tie i && eqb (q i % 2) 1))
    where
      past : ltb v (2 * (u % v)) ≡ ltb d (2 * (a % d))
      past =
          let (q, r) = ratio_parts in
          same_test v (2 * (u % v)) d (2 * (a % d))
          (λ l. mul_lt_cancel d (2 * (a % d)) s (omega (arith, r, second, times_le h l, scale)))
          (λ l. mul_le_cancel (2 * (a % d)) d s unit (omega (arith, r, second, times_le h l)))

      tie : eqb (2 * (u % v)) v ≡ eqb (2 * (a % d)) d
      tie =
          let (q, r) = ratio_parts in
          same_eqb (2 * (u % v)) v (2 * (a % d)) d
          (λ e. mul_eq_cancel (2 * (a % d)) d s unit (omega (arith, r, second, times h e)))
          (λ e. mul_eq_cancel (2 * (u % v)) v h scale (omega (arith, r, second, times s e)))

  pub nearest_alike : whole even u v ≡ counted (a % d) d (a / d)
  nearest_alike = (λ i. ratio_parts.0 i + cond (goes_up_alike i) 1 0)
