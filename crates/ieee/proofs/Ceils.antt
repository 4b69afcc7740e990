-- ceil is exact: it gives the least whole number of ones not below its operand, and no other. Assumes nothing.
use Prim.Native.Nat.{ℕ, ◌+◌, ◌*◌, ◌/◌, ◌^◌, ◌≤◌, ◌<◌}
use mathlib.Core.Path.{◌≡◌, refl, sym, ap, ◌∙◌}
use mathlib.Core.Bool.{Bool, true, false}
use native.Mathlib.Omega.{arith}
use lib.Pow.{pow_pos}
use lib.IntN.{ℤ, pos, neg_ℤ, ◌-ℤ◌, ◌*ℤ◌}
use lib.Signed.{◌≤ℤ◌, ◌<ℤ◌}
use Rattle.algebra.proofs.Products.{times, mul_lt_cancel}
use Rattle.algebra.proofs.Quotients.{div_mod}
use Rattle.algebra.proofs.Integers.{up, dn, neg_z, sub_z, times_z, eq_z, le_z_fact, lt_z_fact, le_z_of, lt_z_of}
use Rattle.ieee.specs.Format.{Format, Fair, low, units}
use Rattle.ieee.specs.Pattern.{Pattern, minus, magnitude, signed, finite, kind, with_sign, value}
use Rattle.ieee.specs.Round.{longer, toward_positive, way_of}
use Rattle.ieee.specs.Whole.{whole, whole_in, ceil_of}
use Rattle.ieee.specs.WholeRule.{Ceiled, CeilRows}
use Rattle.ieee.proofs.Patterns.{value_is}
use Rattle.ieee.proofs.WholeParts.{whole_in_sent, whole_pattern}
use Rattle.ieee.proofs.Wholes.{longer_sides, sent_counts, whole_in_rows, value_only, toward_zero_none, away_one}

-- ---- ceil sends a positive number away from zero, and a negative one toward it
ceil_least : (s : Bool) (n d : ℕ) → 0 < d → ((with_sign s (whole (way_of toward_positive s) n d) -ℤ pos 1) *ℤ pos d) <ℤ with_sign s n
ceil_least false n d p =
    let k = pos (whole longer n d) -ℤ pos 1 in
    record { lt = lt_z_of (k *ℤ pos d) (pos n) (omega (arith, times_z k d, times d (sub_z (pos (whole longer n d)) (pos 1)), longer_sides n d p)) }
ceil_least true n d p =
    let k = neg_ℤ (pos (n / d)) in
    let m = k -ℤ pos 1 in
    let (u, v) = neg_z (pos (n / d)) in
    record { lt = lt_z_of (m *ℤ pos d) (neg_ℤ (pos n)) (omega (arith, neg_z (pos n), times_z m d, times d (sub_z k (pos 1)), times d u, times d v, div_mod n d p)) }

ceil_most : (s : Bool) (n d : ℕ) → 0 < d → with_sign s n ≤ℤ (with_sign s (whole (way_of toward_positive s) n d) *ℤ pos d)
ceil_most false n d p = record { le = le_z_of (pos n) (pos (whole longer n d) *ℤ pos d) (omega (arith, times_z (pos (whole longer n d)) d, longer_sides n d p)) }
ceil_most true n d p =
    let k = neg_ℤ (pos (n / d)) in
    let (u, v) = neg_z (pos (n / d)) in
    record { le = le_z_of (neg_ℤ (pos n)) (k *ℤ pos d) (omega (arith, neg_z (pos n), times_z k d, times d u, times d v, div_mod n d p)) }

pub ceil_is : (f : Format) → Fair f → (x u : ℕ) → kind f x ≡ finite u → Ceiled f x (ceil_of f x)
unfolding ceil_of
ceil_is f g x u h =
    let s = whole_in_sent f toward_positive g x u h in
    let k = whole (way_of toward_positive (minus f x)) (units f (magnitude f x)) (2 ^ low f) in
    record {
      k = with_sign (minus f x) k;
      pattern = s.pattern;
      finite = s.finite;
      counts = sent_counts f toward_positive g x u h;
      least = rw (value_is f x) (ceil_least (minus f x) (units f (magnitude f x)) (2 ^ low f) (pow_pos (low f)));
      most = rw (value_is f x) (ceil_most (minus f x) (units f (magnitude f x)) (2 ^ low f) (pow_pos (low f)));
      sign = s.sign;
    }

-- k - 1 < z ≤ l puts k at most at l
ceil_below : (d : ℕ) (z k l : ℤ) → ((k -ℤ pos 1) *ℤ pos d) <ℤ z → z ≤ℤ (l *ℤ pos d) → up k + dn l ≤ up l + dn k
ceil_below d z k l a b =
    let m = k -ℤ pos 1 in
    let h = mul_lt_cancel (up m + dn l) (up l + dn m) d (omega (arith, lt_z_fact (m *ℤ pos d) z a.lt, le_z_fact z (l *ℤ pos d) b.le, times_z m d, times_z l d)) in
    omega (arith, sub_z k (pos 1))

pub ceil_only : (f : Format) (x r q : ℕ) → Ceiled f x r → Ceiled f x q → r ≡ q
ceil_only f x r q a b =
    let i = ceil_below (2 ^ low f) (value f x) a.k b.k a.least b.most in
    let j = ceil_below (2 ^ low f) (value f x) b.k a.k b.least a.most in
    let k = eq_z a.k b.k (omega arith) in
    value_only f r q a.pattern b.pattern (a.sign ∙ sym b.sign) (a.counts ∙ ap (λ n. n *ℤ pos (2 ^ low f)) k ∙ sym b.counts)

pub ceil_pattern : (f : Format) → Fair f → (x : ℕ) → Pattern f x → Pattern f (ceil_of f x)
unfolding ceil_of
ceil_pattern f g x p = whole_pattern f toward_positive g x p

pub ceil_rows : (f : Format) → Fair f → CeilRows f (ceil_of f)
unfolding ceil_of
ceil_rows f g =
    record {
      rows = whole_in_rows f toward_positive;
      above_zero = λ x u h p l s. away_one f toward_positive x u h l g p false s refl;
      below_zero = λ x u h l s. toward_zero_none f toward_positive x u h l true s refl;
    }
