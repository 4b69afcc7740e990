-- Our square root, by the toolchain's rounding. The toolchain has no root, but it rounds fractions, and fractions on both sides of the root of x round to our answer.
-- So every fraction whose square is at most x rounds to at most our root, and every one whose square is at least x to at least our root. Assumes nothing.
use Prim.Native.Nat.{ℕ, zero, suc, ◌*◌, ◌^◌, ◌≤◌, ◌<◌}
use mathlib.Core.Path.{◌≡◌, refl, sym, ap, ◌∙◌, subst}
use mathlib.Core.Bool.{true, false, true≢false}
use native.Mathlib.Nat.{mul-pos}
use native.Mathlib.Omega.{arith, both_ways}
use lib.Dec.{T}
use lib.IntN.{ℤ, nat_abs}
use lib.Pow.{pow_pos}
use lib.Ieee.{fin, Format as Theirs, up, down, round, le, of_bits, to_bits}
use lib.Ieee.Fits.{down_pos, round-fits}
use lib.Ieee.Bits.{of_bits-to_bits}
use lib.Ieee.Order.{round_mono}
use Rattle.algebra.proofs.Products.{times, times_le, mul_le_cancel}
use Rattle.algebra.proofs.Roots.{sq_le}
use Rattle.ieee.specs.Format.{Format, low}
use Rattle.ieee.specs.Pattern.{minus, signed, value}
use Rattle.ieee.specs.Exact.{surd, root, ratio}
use Rattle.ieee.specs.Round.{even, ties_to_even, rounded, answer}
use Rattle.ieee.specs.Sqrt.{sqrt_of}
use Rattle.ieee.proofs.Patterns.{value_finite}
use Rattle.ieee.proofs.Signs.{abs_signed}
use Rattle.ieee.proofs.Sqrts.{sqrt_answer}
use Rattle.ieee_agreement_laws.specs.Toolchain.{ours, AtMostRoot, AtLeastRoot, SomeRounds, RootRounds}
use Rattle.ieee_agreement_laws.proofs.Rounding.{round_as, written_rises}
use Rattle.ieee_agreement_laws.proofs.Patterns.{Counted, counted}
use Rattle.ieee_agreement_laws.proofs.Roots.{Beside, below, above}

-- the answer is the root in units, rounded
answer_root : (f : Format) (N : ℕ) → answer f ties_to_even false (surd N) ≡ signed f false (rounded f even (root N))
unfolding answer
answer_root f zero = refl
answer_root f (suc N) = refl

module _ (k : Theirs) (x m : ℕ) (e : ℤ) (h : of_bits k x ≡ fin false m e) where
  is : Counted k x false m e
  is = counted k x false m e h

  P : ℕ
  P = 2 ^ low (ours k)

  N : ℕ
  unfolding P is
  N = is.count * P

  root_is : sqrt_of (ours k) x ≡ signed (ours k) false (rounded (ours k) even (root N))
  unfolding sqrt_of N P
  root_is =
      let f = ours k in
      sqrt_answer f ties_to_even x is.count is.number.kind_is (λ t. absurd (true≢false (sym t ∙ sym is.number.sign_is)))
      ∙ (λ i. answer f ties_to_even (sym is.number.sign_is i) (surd (nat_abs (value f x) * 2 ^ low f)))
      ∙ ap (λ n. answer f ties_to_even false (surd (n * 2 ^ low f))) (ap nat_abs (value_finite f x is.count is.number.kind_is) ∙ abs_signed (minus f x) is.count)
      ∙ answer_root f (is.count * 2 ^ low f)

  -- n / d units, as a fraction of the toolchain's
  as_fraction : (n d : ℕ) → 0 < d → rounded (ours k) even (ratio n d) ≡ rounded (ours k) even (root N) → to_bits k (round k false n (d * P)) ≡ sqrt_of (ours k) x
  unfolding P
  as_fraction n d s r =
      round_as k false n (d * 2 ^ low (ours k)) n d (mul-pos s (pow_pos (low (ours k)))) s (omega arith)
      ∙ ap (signed (ours k) false) r ∙ sym root_is

  counts : m * up e * P ≡ is.count * down e
  unfolding P is
  counts = is.number.counts

  carried : {S S' : ℕ → ℕ → Type 0} → Beside (ours k) S (rounded (ours k) even (root N)) → ((a d : ℕ) → S a d → S' a (d * P)) → SomeRounds k S' (sqrt_of (ours k) x)
  carried b c =
      record {
        num = b.num;
        den = b.den * P;
        sound = mul-pos b.sound (unfold P in pow_pos (low (ours k)));
        holds = c b.num b.den b.holds;
        rounds = as_fraction b.num b.den b.sound b.rounds;
      }

  pub root_same : RootRounds k m e (sqrt_of (ours k) x)
  unfolding N is
  root_same = (
    carried (below (ours k) N) (λ a d h. omega (arith, times_le (down e) h, times (P * (d * d)) counts)),
    carried (above (ours k) N) (λ a d h. omega (arith, times_le (down e) h, times (P * (d * d)) counts)),
  )

-- ---- a fraction at most a root is at most a fraction at least the root
sides : (a c b d M E : ℕ) → 0 < E → a * a * E ≤ M * (c * c) → M * (d * d) ≤ b * b * E → a * d ≤ b * c
sides a c b d M E s p q = sq_le (a * d) (b * c) (mul_le_cancel (a * d * (a * d)) (b * c * (b * c)) E s (omega (arith, times_le (d * d) p, times_le (c * c) q)))

module _ (k : Theirs) (m : ℕ) (e : ℤ) where
  reads : (r num den : ℕ) → to_bits k (round k false num den) ≡ r → round k false num den ≡ of_bits k r
  reads r num den h = sym (of_bits-to_bits k (round k false num den) (round-fits k false num den)) ∙ ap (of_bits k) h

  -- in their order: a fraction at most the root rounds to at most r, and one at least the root to at least r
  least : (r : ℕ) → RootRounds k m e r → (a c : ℕ) → 0 < c → AtMostRoot m e a c → T (le (round k false a c) (of_bits k r))
  least r (u, o) a c s p =
      subst (λ v. T (le (round k false a c) v)) (reads r o.num o.den o.rounds)
      (round_mono k a c o.num o.den s o.sound (sides a c o.num o.den (m * up e) (down e) (down_pos e) p o.holds))

  most : (r : ℕ) → RootRounds k m e r → (a c : ℕ) → 0 < c → AtLeastRoot m e a c → T (le (of_bits k r) (round k false a c))
  most r (u, o) a c s p =
      subst (λ v. T (le v (round k false a c))) (reads r u.num u.den u.rounds)
      (round_mono k u.num u.den a c u.sound s (sides u.num u.den a c (m * up e) (down e) (down_pos e) u.holds p))

  -- two roundings of the root are equal
  at_most : (q r : ℕ) → RootRounds k m e q → RootRounds k m e r → q ≤ r
  at_most q r (u, o) (u', o') =
      omega (arith, u.rounds, o'.rounds, written_rises k u.num u.den o'.num o'.den u.sound o'.sound (sides u.num u.den o'.num o'.den (m * up e) (down e) (down_pos e) u.holds o'.holds))

module _ (k : Theirs) (x m : ℕ) (e : ℤ) (h : of_bits k x ≡ fin false m e) where
  pub root_only : (r : ℕ) → RootRounds k m e r → r ≡ sqrt_of (ours k) x
  root_only r o =
      let o' = root_same k x m e h in
      both_ways r (sqrt_of (ours k) x) (at_most k m e r (sqrt_of (ours k) x) o o') (at_most k m e (sqrt_of (ours k) x) r o' o)

  pub root_least : (a c : ℕ) → 0 < c → AtMostRoot m e a c → T (le (round k false a c) (of_bits k (sqrt_of (ours k) x)))
  root_least = least k m e (sqrt_of (ours k) x) (root_same k x m e h)

  pub root_most : (a c : ℕ) → 0 < c → AtLeastRoot m e a c → T (le (of_bits k (sqrt_of (ours k) x)) (round k false a c))
  root_most = most k m e (sqrt_of (ours k) x) (root_same k x m e h)
