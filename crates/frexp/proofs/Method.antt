-- The code computes frexp and ilogb, over the format: a number by its normalised significand and its exponent, the rest by its magnitude. Assumes nothing.
use Rattle.std.proofs.Common.{◌≡◌, ℕ, suc, ◌+◌, ◌-◌, ◌*◌, ◌^◌, ◌<◌, ◌≤◌, Bool, true, ℤ, pos, ◌+ℤ◌, ◌-ℤ◌, refl, sym, ap, ◌∙◌, arith}
use Rattle.algebra.proofs.Integers.{add_z, sub_z, eq_z}
use Rattle.algebra.proofs.Products.{order, times}
use Rattle.ieee.specs.Format.{Format, Fair, top, low, inf, canonical, units}
use Rattle.ieee.specs.Pattern.{minus, magnitude, signed, finite, kind}
use Rattle.ieee.specs.Frexp.{no_exponent, past_exponents, ilogb_of, frexp_of, frexp_exponent}
use Rattle.ieee.proofs.Units.{units_zero, units_lt}
use Rattle.ieee.proofs.Patterns.{inf_below_top, kind_nan, kind_infinite, kind_finite}
use Rattle.ieee.proofs.Fields.{field_finite}
use Rattle.ieee.proofs.Leads.{ilogb_rows}
use Rattle.ieee.proofs.Significands.{Significand}
use Rattle.ieee.proofs.Frexps.{half, fraction_below, frexp_after_ilogb, ilogb_by_lem, frexp_by_lem, frexp_rows}
use Rattle.fmt_fields.specs.Normal.{normal}
use Rattle.fmt_fields.proofs.Normals.{normal_between}
use Rattle.fmt_decode.specs.Aside.{aside}
use Rattle.fmt_decode.specs.Significand.{sig_of, exp_of, Unpacked, Normalised}
use Rattle.fmt_decode.proofs.Asides.{Ordinary, set_aside_lem, field_some}
use Rattle.fmt_decode.proofs.Packs.{exactly_packed}
use Rattle.fmt_decode.proofs.Significands.{normal_stays, Normal, normal_is}

-- ---- a number
module _ (f : Format) (g : Fair f) (x : ℕ) (some : 0 < magnitude f x) (below : magnitude f x < inf f) where
  number : (u : ℕ) × (kind f x ≡ finite (suc u)) × (units f (magnitude f x) ≡ suc u)
  number =
      let n = units f (magnitude f x) in
      let e : n ≡ suc (n - 1) = omega (arith, units_lt f some, units_zero f) in
      (n - 1, kind_finite f x below ∙ ap finite e, e)

  significand : (u at : ℕ) → units f (magnitude f x) ≡ suc u → Normal f x at → Significand f (suc u) (sig_of f x) at
  significand u at e n = record { least = n.least; most = n.most; counts = sym n.counts ∙ times (2 ^ f.frac) e }

  pub ilogb_normalised : exp_of f x +ℤ pos f.frac ≡ ilogb_of f x
  ilogb_normalised =
      let (u, h, e) = number in
      let (at, n) = normal_is f g x some in
      let z = pos at -ℤ pos (f.frac + low f) in
      ap (λ i. i +ℤ pos f.frac) n.exponent
      ∙ eq_z (z +ℤ pos f.frac) (pos at -ℤ pos (low f)) (omega (arith, sub_z (pos at) (pos (f.frac + low f)), add_z z (pos f.frac), sub_z (pos at) (pos (low f))))
      ∙ sym (ilogb_by_lem f x u h g (sig_of f x) at (significand u at e n))

  pub exponent_normalised : exp_of f x +ℤ pos f.frac +ℤ pos 1 ≡ frexp_exponent f x
  exponent_normalised = let (u, h, e) = number in ap (λ n. n +ℤ pos 1) ilogb_normalised ∙ sym (frexp_after_ilogb f x u h)

  -- the significand over the exponent field of 1 / 2, less the one that its leading bit adds
  pub frexp_normalised : 3 ≤ f.expo → (sig_of f x + half f * 2 ^ f.frac < inf f) × (signed f (minus f x) (sig_of f x + half f * 2 ^ f.frac) ≡ frexp_of f x)
  frexp_normalised three =
      let (u, h, e) = number in
      let (at, n) = normal_is f g x some in
      let s = significand u at e n in
      let (q, l) = exactly_packed f (sig_of f x) (half f) (sig_of f x * 2 ^ half f) n.most (λ z. n.least) refl (fraction_below f g three (suc u) (sig_of f x) at s) in
      (l, ap (signed f (minus f x)) q ∙ sym (frexp_by_lem f x u h g (sig_of f x) at s three))

  -- the same, where h is the number of exponent fields up to that of 1, and p one unit of the field
  pub frexp_in_words : 3 ≤ f.expo → (s h p : ℕ) → s ≡ sig_of f x → h ≡ 2 ^ (f.expo - 1) → p ≡ 2 ^ f.frac → (s + (h - 3) * p < top f) × (signed f (minus f x) (s + (h - 3) * p) ≡ frexp_of f x)
  frexp_in_words three s h p a b c =
      let e : h - 3 ≡ half f = omega (arith, b) in
      let m : s + (h - 3) * p ≡ sig_of f x + half f * 2 ^ f.frac = (λ i. a i + e i * c i) in
      let (l, q) = frexp_normalised three in
      (omega (arith, m, l, inf_below_top f), ap (signed f (minus f x)) m ∙ q)

-- ---- a normal number is normalised as it stands
module _ (f : Format) (x : ℕ) (h : normal f x ≡ true) where
  pub normal_ordinary : Ordinary f x
  normal_ordinary = let (p, l) = normal_between f x h in record { least = field_some f x p; most = field_finite f x l }

  pub unpacked_normalised : (sig : ℕ) (exp : ℤ) (neg : Bool) → Unpacked f x sig exp neg → Normalised f x sig exp neg
  unpacked_normalised sig exp neg (s, e, m, r) =
      let (i, j) = normal_stays f x normal_ordinary.least (normal_between f x h).0 in
      (s ∙ i, e ∙ j, m, r)

-- ---- zeros, infinities and NaNs
module _ (f : Format) (some : 0 < inf f) (x : ℕ) where
  kind_zero : magnitude f x ≡ 0 → kind f x ≡ finite 0
  kind_zero e = kind_finite f x (omega arith) ∙ ap finite (ap (units f) e ∙ units_zero f)

  pub ilogb_infinity : magnitude f x ≡ inf f → past_exponents ≡ ilogb_of f x
  ilogb_infinity e = sym ((ilogb_rows f).of_infinity x (kind_infinite f x e))

  pub ilogb_none : aside f x ≡ true → (magnitude f x ≡ inf f → ⊥) → no_exponent ≡ ilogb_of f x
  ilogb_none a n =
      set_aside_lem f x a
      (λ z. sym ((ilogb_rows f).of_zero x (kind_zero z)))
      (λ l. sym ((ilogb_rows f).of_nan x (kind_nan f x (order (magnitude f x) (inf f) (λ h. absurd (n (omega arith))) (λ h. h)))))

  pub frexp_nan : inf f < magnitude f x → (canonical f ≡ frexp_of f x) × (pos 0 ≡ frexp_exponent f x)
  frexp_nan l = let (r, n) = (frexp_rows f).of_nan x (kind_nan f x l) in (sym r, sym n)

  pub frexp_stays : aside f x ≡ true → magnitude f x ≤ inf f → (x ≡ frexp_of f x) × (pos 0 ≡ frexp_exponent f x)
  frexp_stays a l =
      set_aside_lem f x a
      (λ z. let (r, n) = (frexp_rows f).of_zero x (kind_zero z) in (sym r, sym n))
      (λ h. let (r, n) = (frexp_rows f).of_infinity x (kind_infinite f x (omega arith)) in (sym r, sym n))
