-- A number by its significand and its exponent: as the fields give them they make up its smallest units, and normalised the leading bit is bit frac. Assumes nothing.
use Rattle.std.proofs.Common.{◌≡◌, ℕ, zero, suc, ◌+◌, ◌-◌, ◌*◌, ◌^◌, ◌<◌, ◌≤◌, pos, ◌-ℤ◌, sym, refl, ap, ◌∙◌, arith, pow_pos, pow_mono, pow-add}
use native.Mathlib.Nat.{two-pow-succ}
use native.Mathlib.Omega.{by_contra}
use Rattle.algebra.proofs.Products.{order, times, times_le}
use Rattle.algebra.proofs.Powers.{pow_diff}
use Rattle.algebra.proofs.Leading.{Fills, leading_fills}
use Rattle.algebra.proofs.Integers.{sub_z, eq_z}
use Rattle.ieee.specs.Format.{Format, Fair, low, units}
use Rattle.ieee.specs.Pattern.{magnitude, field, fraction}
use Rattle.ieee.proofs.Fields.{magnitude_fields, fraction_small, field_small}
use Rattle.fmt_fields.proofs.Decoded.{units_subnormal, units_normal}
use Rattle.fmt_decode.specs.Significand.{significand_by, significand, units_exp, exponent, zeros_of, sig_of, exp_of}

module _ (f : Format) (x : ℕ) where
  -- ---- as the fields give them
  pub significand_subnormal : field f x ≡ 0 → fraction f x ≡ significand f x
  unfolding significand
  significand_subnormal e = sym (ap (λ q. significand_by (2 ^ f.frac) q (fraction f x)) e)

  pub significand_normal : 0 < field f x → 2 ^ f.frac + fraction f x ≡ significand f x
  unfolding significand
  significand_normal l = go (field f x) l
    where
      go : (q : ℕ) → 0 < q → 2 ^ f.frac + fraction f x ≡ significand_by (2 ^ f.frac) q (fraction f x)
      go zero l = absurd (omega arith)
      go (suc q) l = refl

  pub exponent_is : pos (units_exp f x) -ℤ pos (low f) ≡ exponent f x
  unfolding exponent
  exponent_is = refl

  pub exponent_from : {u : ℕ} → u ≡ units_exp f x → pos u -ℤ pos (low f) ≡ exponent f x
  exponent_from e = ap (λ u. pos u -ℤ pos (low f)) e ∙ exponent_is

  pub significand_small : significand f x < 2 * 2 ^ f.frac
  significand_small =
      order (field f x) 0
      (λ h. omega (arith, significand_subnormal (omega arith), fraction_small f x))
      (λ h. omega (arith, significand_normal h, fraction_small f x))

  pub significand_some : 0 < magnitude f x → 0 < significand f x
  significand_some l =
      order (field f x) 0
      (λ h. let e : field f x ≡ 0 = omega arith in omega (arith, significand_subnormal e, magnitude_fields f x, times (2 ^ f.frac) e))
      (λ h. omega (arith, significand_normal h, pow_pos f.frac))

  pub units_counted : units f (magnitude f x) ≡ significand f x * 2 ^ units_exp f x
  units_counted =
      order (field f x) 0
      (λ h.
      let e : field f x ≡ 0 = omega arith in
      let z : units_exp f x ≡ 0 = omega arith in
      units_subnormal f x e ∙ significand_subnormal e ∙ omega arith ∙ ap (λ k. significand f x * 2 ^ k) (sym z))
      (λ h. units_normal f x h ∙ ap (λ s. s * 2 ^ units_exp f x) (significand_normal h))

  -- ---- normalised
  pub sig_shifted : significand f x * 2 ^ zeros_of f x ≡ sig_of f x
  unfolding sig_of
  sig_shifted = refl

  pub exp_lowered : exponent f x -ℤ pos (zeros_of f x) ≡ exp_of f x
  unfolding exp_of
  exp_lowered = refl

  pub zeros_fill : 0 < magnitude f x → Fills (suc f.frac) (significand f x) (zeros_of f x)
  zeros_fill l = leading_fills (suc f.frac) (significand f x) (significand_some l) (omega (arith, significand_small, two-pow-succ f.frac))

  -- a significand with the leading bit at bit frac, such as that of a normal number, stays as it is
  zeros_none : 0 < magnitude f x → 2 ^ f.frac ≤ significand f x → zeros_of f x ≡ 0
  zeros_none l h =
      let z = zeros_of f x in
      let n : z ≤ 0 = by_contra z 0 (λ k. omega (arith, (zeros_fill l).most, two-pow-succ f.frac, times_le (significand f x) (pow_mono {i = 1} {j = z} k))) in
      omega arith

  pub filled_stays : 0 < magnitude f x → 2 ^ f.frac ≤ significand f x → (significand f x ≡ sig_of f x) × (exponent f x ≡ exp_of f x)
  filled_stays l h =
      let z = zeros_none l h in
      let e = exponent f x in (
        omega arith ∙ ap (λ k. significand f x * 2 ^ k) (sym z) ∙ sig_shifted,
        eq_z e (e -ℤ pos 0) (omega (arith, sub_z e (pos 0))) ∙ ap (λ k. e -ℤ pos k) (sym z) ∙ exp_lowered,
      )

  pub normal_stays : 0 < magnitude f x → 0 < field f x → (significand f x ≡ sig_of f x) × (exponent f x ≡ exp_of f x)
  normal_stays l h = filled_stays l (omega (arith, significand_normal h))

-- ---- by the number: the leading bit of x has the exponent `at`, counted in smallest units
pub record Normal (f : Format) (x at : ℕ) : Type 0 where
  pub least : 2 ^ f.frac ≤ sig_of f x
  pub most : sig_of f x < 2 * 2 ^ f.frac
  -- at is exp + frac, in units
  pub exponent : exp_of f x ≡ pos at -ℤ pos (f.frac + low f)
  pub counts : units f (magnitude f x) * 2 ^ f.frac ≡ sig_of f x * 2 ^ at
  pub below_all : suc at < f.frac + 2 ^ f.expo

pub normal_is : (f : Format) → Fair f → (x : ℕ) → 0 < magnitude f x → (at : ℕ) × Normal f x at
normal_is f g x l = (
  p + u - z,
  record {
    least = omega (arith, s, w.least, two-pow-succ p);
    most = omega (arith, s, w.most, two-pow-succ p);
    exponent = sym (exp_lowered f x) ∙ ap (λ e. e -ℤ pos z) (sym (exponent_is f x))
        ∙ eq_z (pos u -ℤ pos (low f) -ℤ pos z) (pos (p + u - z) -ℤ pos (p + low f))
        (omega (arith, sub_z (pos u) (pos (low f)), sub_z (pos u -ℤ pos (low f)) (pos z), sub_z (pos (p + u - z)) (pos (p + low f)), w.fewer));
    counts = omega (arith, times (2 ^ p) (units_counted f x), times (2 ^ (p + u - z)) s, times (significand f x) d, times (significand f x) (pow-add 2 p u));
    below_all = omega (arith, field_small f x, four);
  },
)
  where
    p : ℕ
    p = f.frac

    u : ℕ
    u = units_exp f x

    z : ℕ
    z = zeros_of f x

    w : Fills (suc p) (significand f x) z
    w = zeros_fill f x l

    s : significand f x * 2 ^ z ≡ sig_of f x
    s = sig_shifted f x

    d : 2 ^ (p + u - z) * 2 ^ z ≡ 2 ^ (p + u)
    d = pow_diff (omega (arith, w.fewer))

    four : 2 ^ 1 ≤ 2 ^ f.expo
    four = pow_mono {i = 1} {j = f.expo} (omega (arith, g.expo_two))
