-- modf is exact: the whole part and what is behind the point add to the number, nothing rounded, and no other two do. Assumes nothing.
use Prim.Native.Nat.{ℕ, ◌+◌, ◌*◌, ◌/◌, ◌%◌, ◌^◌, ◌<◌}
use mathlib.Core.Path.{◌≡◌, refl, sym, ap, ◌∙◌, subst}
use mathlib.Core.Bool.{Bool}
use native.Mathlib.Nat.{mod-eq_of_lt}
use native.Mathlib.Omega.{arith}
use lib.IntN.{◌+ℤ◌}
use lib.Pow.{pow_pos}
use Rattle.algebra.proofs.Products.{times}
use Rattle.algebra.proofs.Quotients.{div_mod, quot_unique}
use Rattle.ieee.specs.Format.{Format, Fair, low, canonical, units}
use Rattle.ieee.specs.Pattern.{Pattern, minus, magnitude, signed, Kind, nan, infinite, finite, kind, with_sign, value}
use Rattle.ieee.specs.Round.{even, exactly, toward_zero}
use Rattle.ieee.specs.Whole.{trunc_of}
use Rattle.ieee.specs.Modf.{modf_by, modf_of, modf_whole}
use Rattle.ieee.specs.ModfRule.{Parted, ModfRows}
use Rattle.ieee.proofs.Units.{units_zero, units_inj}
use Rattle.ieee.proofs.Patterns.{canonical_pattern, pattern_signed, same_pattern, zero_is, finite_is, value_is, value_with}
use Rattle.ieee.proofs.Fixed.{fixed_whole}
use Rattle.ieee.proofs.Held.{held}
use Rattle.ieee.proofs.Signs.{signed_tells}
use Rattle.ieee.proofs.SignedSums.{plus_like}
use Rattle.ieee.proofs.Remainders.{Stands, difference_stands}
use Rattle.ieee.proofs.WholeParts.{whole_in_sent}
use Rattle.ieee.proofs.Wholes.{trunc_rows, trunc_pattern}

pub modf_whole_is_trunc : (f : Format) (x : ℕ) → modf_whole f x ≡ trunc_of f x
unfolding modf_whole
modf_whole_is_trunc f x = refl

-- ---- what is behind the point, by the kind of the operand
module _ (f : Format) (x : ℕ) where
  pub modf_nan : kind f x ≡ nan → modf_of f x ≡ canonical f
  unfolding modf_of modf_by
  modf_nan h = rw h

  pub modf_infinite : kind f x ≡ infinite → modf_of f x ≡ signed f (minus f x) 0
  unfolding modf_of modf_by
  modf_infinite h = rw h

  pub modf_finite : (u : ℕ) → kind f x ≡ finite u → modf_of f x ≡ signed f (minus f x) (exactly f (u % 2 ^ low f))
  unfolding modf_of modf_by
  modf_finite u h = rw h

  -- where nothing is behind it, the sign alone
  pub modf_none : (u : ℕ) → kind f x ≡ finite u → u % 2 ^ low f ≡ 0 → modf_of f x ≡ signed f (minus f x) 0
  modf_none u h e = modf_finite u h ∙ ap (signed f (minus f x)) (ap (exactly f) (e ∙ sym (units_zero f)) ∙ fixed_whole f even 0 (omega arith))

  -- the format holds it, as it holds what is left of x by any number: here by 1
  modf_stands : (u : ℕ) → kind f x ≡ finite u → Stands f (minus f x) (u % 2 ^ low f) (modf_of f x)
  modf_stands u h =
      let a = finite_is f x u h in
      let (k, e) = held f (low f) 1 (omega (arith, pow_pos f.frac)) in
      let d = div_mod u (2 ^ low f) (pow_pos (low f)) in
      subst (Stands f (minus f x) (u % 2 ^ low f)) (sym (modf_finite u h))
      (difference_stands f (minus f x) (magnitude f x) k (u / 2 ^ low f) (u % 2 ^ low f) a.below (omega (arith, times (u / 2 ^ low f) e)) (omega arith) (omega arith))

  pub modf_pattern : Pattern f (modf_of f x)
  modf_pattern = go (kind f x) refl
    where
      go : (k : Kind) → kind f x ≡ k → Pattern f (modf_of f x)
      go nan h = rw (modf_nan h) (canonical_pattern f)
      go infinite h = rw (modf_infinite h) (pattern_signed f (minus f x) 0 (pow_pos (f.frac + f.expo)))
      go (finite u) h = (modf_stands u h).pattern

pub modf_whole_pattern : (f : Format) → Fair f → (x : ℕ) → Pattern f x → Pattern f (modf_whole f x)
unfolding modf_whole
modf_whole_pattern f g x p = trunc_pattern f g x p

-- ---- a number is the sum of its parts
-- numbers of one sign add as their magnitudes do
values_add : (f : Format) (s : Bool) (r w : ℕ) → minus f r ≡ s → minus f w ≡ s → value f r +ℤ value f w ≡ with_sign s (units f (magnitude f r) + units f (magnitude f w))
values_add f s r w a b = (λ i. value_with f r s a i +ℤ value_with f w s b i) ∙ plus_like s (units f (magnitude f r)) (units f (magnitude f w))

pub modf_is : (f : Format) → Fair f → (x u : ℕ) → kind f x ≡ finite u → Parted f x (modf_of f x) (modf_whole f x)
unfolding modf_whole trunc_of
modf_is f g x u h =
    let r = modf_stands f x u h in
    let w = whole_in_sent f toward_zero g x u h in
    let n = units f (magnitude f x) in
    let c = (finite_is f x u h).counts in
    let d = div_mod u (2 ^ low f) (pow_pos (low f)) in
    let e : units f (magnitude f (modf_of f x)) + units f (magnitude f (modf_whole f x)) ≡ n = omega (arith, r.counts, w.counts, times (2 ^ low f) (ap (λ m. m / 2 ^ low f) c)) in
    record {
      k = n / 2 ^ low f;
      pattern = r.pattern;
      whole_pattern = w.pattern;
      whole_finite = w.finite;
      small = omega arith;
      counts = w.counts;
      adds = values_add f (minus f x) (modf_of f x) (modf_whole f x) r.sign w.sign ∙ ap (with_sign (minus f x)) e ∙ sym (value_is f x);
      sign = r.sign;
      whole_sign = w.sign;
    }

-- the parts as whole numbers of smallest units
parted_units : (f : Format) (x r w : ℕ) → Parted f x r w → units f (magnitude f r) + units f (magnitude f w) ≡ units f (magnitude f x)
parted_units f x r w a =
    (signed_tells (minus f x) (minus f x) (units f (magnitude f r) + units f (magnitude f w)) (units f (magnitude f x))
    (sym (values_add f (minus f x) r w a.sign a.whole_sign) ∙ a.adds ∙ value_is f x)).0

pub modf_only : (f : Format) (x r q w v : ℕ) → Parted f x r w → Parted f x q v → (r ≡ q) × (w ≡ v)
modf_only f x r q w v a b =
    let s : a.k * 2 ^ low f + units f (magnitude f r) ≡ b.k * 2 ^ low f + units f (magnitude f q) = omega (arith, parted_units f x r w a, parted_units f x q v b) in
    let (k, e) = quot_unique (2 ^ low f) a.k (units f (magnitude f r)) b.k (units f (magnitude f q)) a.small b.small s in
    let n = a.counts ∙ times (2 ^ low f) k ∙ sym b.counts in (
      same_pattern f r q a.pattern b.pattern (a.sign ∙ sym b.sign) (units_inj f (magnitude f r) (magnitude f q) e),
      same_pattern f w v a.whole_pattern b.whole_pattern (a.whole_sign ∙ sym b.whole_sign) (units_inj f (magnitude f w) (magnitude f v) n),
    )

pub modf_rows : (f : Format) → ModfRows f (modf_of f) (modf_whole f)
unfolding modf_whole
modf_rows f =
    let w = trunc_rows f in
    record {
      of_nan = λ x h. (modf_nan f x h, w.of_nan x h);
      of_infinity = λ x h. (modf_infinite f x h, w.of_infinity x h);
      of_zero = λ x p h. (modf_none f x 0 h (mod-eq_of_lt (pow_pos (low f))) ∙ zero_is f x p h, w.of_zero x p h);
    }
