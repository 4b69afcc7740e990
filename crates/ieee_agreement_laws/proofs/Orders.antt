-- The toolchain compares numbers as our values compare. Assumes nothing.
use Prim.Native.Nat.{ℕ, ◌+◌, ◌*◌, ◌^◌, ◌≤◌, ◌<◌}
use mathlib.Core.Path.{◌≡◌, refl, sym, ap, ◌∙◌, subst₂}
use mathlib.Core.Logic.{◌↔◌}
use mathlib.Core.Bool.{Bool, true, false, beq, ◌||◌, true≢false}
use native.Mathlib.Nat.{mul-pos}
use native.Mathlib.Omega.{arith}
use lib.Dec.{T, eqb, eqb→eq, ltb→lt, lt→ltb}
use lib.IntN.{ℤ, pos, neg_ℤ}
use lib.Signed.{lt_z, ◌<ℤ◌}
use lib.Pow.{pow_pos}
use lib.Ieee.{Float, fin, Format as Theirs, up, down, below, level, lt, eq, of_bits}
use lib.Ieee.Fits.{down_pos, and_i, and_l, and_r, eq→eqb}
use Rattle.algebra.proofs.Products.{order, times, times_le, mul_lt_cancel, mul_eq_cancel}
use Rattle.algebra.proofs.Integers.{neg_z, lt_z_fact, lt_z_of}
use Rattle.ieee.specs.Format.{low}
use Rattle.ieee.specs.Pattern.{minus, with_sign, value, finite, kind}
use Rattle.ieee.proofs.Patterns.{value_finite}
use Rattle.ieee.proofs.Signs.{signed_tells, signed_zero}
use Rattle.ieee_agreement_laws.specs.Toolchain.{ours}
use Rattle.ieee_agreement_laws.proofs.Patterns.{unpacked}

-- ---- signed numbers: one is less, or they are equal
abbrev Less : Bool → ℕ → Bool → ℕ → Type 0
Less false a false b = a < b
Less false a true b = ⊥
Less true a false b = 0 < a + b
Less true a true b = b < a

abbrev Equal : Bool → ℕ → Bool → ℕ → Type 0
Equal s a t b = (a ≡ b) × (0 < a → s ≡ t)

their_less : (s : Bool) (a : ℕ) (t : Bool) (b : ℕ) → T (below s a t b) ↔ Less s a t b
their_less false a false b = (ltb→lt a b, lt→ltb a b)
their_less false a true b = (λ h. h, λ h. h)
their_less true a false b = (ltb→lt 0 (a + b), lt→ltb 0 (a + b))
their_less true a true b = (ltb→lt b a, lt→ltb b a)

our_less : (s : Bool) (a : ℕ) (t : Bool) (b : ℕ) → T (lt_z (with_sign s a) (with_sign t b)) ↔ Less s a t b
our_less false a false b = (ltb→lt a b, lt→ltb a b)
our_less false a true b = (λ h. omega (arith, lt_z_fact (pos a) (neg_ℤ (pos b)) h, neg_z (pos b)), λ h. absurd h)
our_less true a false b = (λ h. omega (arith, lt_z_fact (neg_ℤ (pos a)) (pos b) h, neg_z (pos a)), λ h. lt_z_of (neg_ℤ (pos a)) (pos b) (omega (arith, neg_z (pos a))))
our_less true a true b = (
  λ h. omega (arith, lt_z_fact (neg_ℤ (pos a)) (neg_ℤ (pos b)) h, neg_z (pos a), neg_z (pos b)),
  λ h. lt_z_of (neg_ℤ (pos a)) (neg_ℤ (pos b)) (omega (arith, neg_z (pos a), neg_z (pos b))),
)

-- of unlike signs only zeros are equal
zero_or_like : (s t : Bool) (a : ℕ) → T (beq s t || eqb a 0) ↔ (0 < a → s ≡ t)
zero_or_like false false a = (λ h l. refl, λ h. tt)
zero_or_like true true a = (λ h l. refl, λ h. tt)
zero_or_like false true a = (λ h l. absurd (omega (arith, eqb→eq a 0 h)), λ h. eq→eqb {a = a} {b = 0} (order a 0 (λ z. omega arith) (λ z. absurd (true≢false (sym (h z))))))
zero_or_like true false a = (λ h l. absurd (omega (arith, eqb→eq a 0 h)), λ h. eq→eqb {a = a} {b = 0} (order a 0 (λ z. omega arith) (λ z. absurd (true≢false (h z)))))

their_equal : (s : Bool) (a : ℕ) (t : Bool) (b : ℕ) → T (level s a t b) ↔ Equal s a t b
their_equal s a t b =
    let e = eqb a b in
    let z = beq s t || eqb a 0 in
    (λ h. (eqb→eq a b (and_l e z h), (zero_or_like s t a).0 (and_r e z h)), λ h. and_i e z (eq→eqb h.0) ((zero_or_like s t a).1 h.1))

our_equal : (s : Bool) (a : ℕ) (t : Bool) (b : ℕ) → (with_sign s a ≡ with_sign t b) ↔ Equal s a t b
our_equal s a t b = (signed_tells s t a b, λ h. order a 0 (zeros h) (λ l. λ i. with_sign (h.1 l i) (h.0 i)))
  where
    zeros : Equal s a t b → a ≤ 0 → with_sign s a ≡ with_sign t b
    zeros h l =
        let p : a ≡ 0 = omega arith in
        let q : 0 ≡ b = sym p ∙ h.0 in
        ap (with_sign s) p ∙ signed_zero s ∙ sym (signed_zero t) ∙ ap (with_sign t) q

-- ---- in proportion
module _ (a b u v P D : ℕ) (p : 0 < P) (q : 0 < D) (A : a * P ≡ u * D) (B : b * P ≡ v * D) where
  less_scaled : (s t : Bool) → Less s a t b → Less s u t v
  less_scaled false false h = mul_lt_cancel u v D (omega (arith, times_le P h))
  less_scaled false true h = h
  less_scaled true false h = mul_lt_cancel 0 (u + v) D (omega (arith, times_le P h))
  less_scaled true true h = mul_lt_cancel v u D (omega (arith, times_le P h))

  equal_scaled : (s t : Bool) → Equal s a t b → Equal s u t v
  equal_scaled s t h = (
    mul_eq_cancel u v D q (omega (arith, times P h.0)),
    λ l. h.1 (order a 0 (λ z. let e : a ≡ 0 = omega arith in absurd (omega (arith, mul-pos l q, times P e))) (λ z. z)),
  )

-- ---- of two numbers
record Compares (v w : Float) (a b : ℤ) : Type 0 where
  is_less : T (lt v w) ↔ T (lt_z a b)
  is_equal : T (eq v w) ↔ (a ≡ b)

compares : (l : ℕ) (s t : Bool) (m n : ℕ) (e d : ℤ) (u y : ℕ) → m * up e * 2 ^ l ≡ u * down e → n * up d * 2 ^ l ≡ y * down d → Compares (fin s m e) (fin t n d) (with_sign s u) (with_sign t y)
unfolding lt eq
compares l s t m n e d u y h g =
    let P = 2 ^ l in
    let D = down e * down d in
    let P_pos = pow_pos l in
    let D_pos : 0 < D = mul-pos (down_pos e) (down_pos d) in
    let a = m * up e * down d in
    let b = n * up d * down e in
    let A : a * P ≡ u * D = omega (arith, times (down d) h) in
    let B : b * P ≡ y * D = omega (arith, times (down e) g) in
    record {
      is_less = (
        λ c. (our_less s u t y).1 (less_scaled a b u y P D P_pos D_pos A B s t ((their_less s a t b).0 c)),
        λ c. (their_less s a t b).1 (less_scaled u y a b D P D_pos P_pos (sym A) (sym B) s t ((our_less s u t y).0 c)),
      );
      is_equal = (
        λ c. (our_equal s u t y).1 (equal_scaled a b u y P D P_pos D_pos A B s t ((their_equal s a t b).0 c)),
        λ c. (their_equal s a t b).1 (equal_scaled u y a b D P D_pos P_pos (sym A) (sym B) s t ((our_equal s u t y).0 c)),
      );
    }

module _ (k : Theirs) (x y u v : ℕ) (p : kind (ours k) x ≡ finite u) (q : kind (ours k) y ≡ finite v) where
  says : Compares (of_bits k x) (of_bits k y) (value (ours k) x) (value (ours k) y)
  says =
      let f = ours k in
      let nx = unpacked k x u p in
      let ny = unpacked k y v q in
      let c = compares (low f) (minus f x) (minus f y) nx.significand ny.significand nx.exponent ny.exponent u v nx.number.counts ny.number.counts in
      subst₂ (λ a b. Compares (of_bits k x) (of_bits k y) a b) (sym (value_finite f x u p)) (sym (value_finite f y v q))
      (subst₂ (λ a b. Compares a b (with_sign (minus f x) u) (with_sign (minus f y) v)) (sym nx.number.read_as) (sym ny.number.read_as) c)

  pub less_same : T (lt (of_bits k x) (of_bits k y)) ↔ (value (ours k) x <ℤ value (ours k) y)
  less_same = (λ h. record { lt = says.is_less.0 h }, λ h. says.is_less.1 h.lt)

  pub equal_same : T (eq (of_bits k x) (of_bits k y)) ↔ (value (ours k) x ≡ value (ours k) y)
  equal_same = says.is_equal
