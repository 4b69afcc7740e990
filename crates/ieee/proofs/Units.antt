-- `units` rises: each pattern is one gap above the one before. Assumes nothing.
use Prim.Native.Nat.{ℕ, zero, suc, ◌+◌, ◌-◌, ◌*◌, ◌/◌, ◌%◌, ◌^◌, ◌≤◌, ◌<◌}
use mathlib.Core.Path.{◌≡◌, refl, sym, ap, ◌∙◌}
use native.Mathlib.Nat.{suc-mul, mul-add, mod-lt, div-add-mod', add-mul, two-pow-succ}
use native.Mathlib.Decide.{dec_le, le_ind}
use native.Mathlib.Omega.{arith, by_contra, both_ways}
use lib.Arith.{digits_div, digits_mod}
use lib.Pow.{pow-add, pow_pos, pow_mono}
use Rattle.ieee.specs.Format.{Format, Fair, inf, units, fields}

-- the gap above a magnitude with exponent field e
abbrev pub gap : ℕ → ℕ
gap zero = 1
gap (suc e) = 2 ^ e

-- the two digits of the next number, where the low one does not wrap and where it does
inner : (h q r : ℕ) → suc r < h → (suc (q * h + r) / h ≡ q) × (suc (q * h + r) % h ≡ suc r)
inner h q r l =
    let e : suc (q * h + r) ≡ q * h + suc r = omega arith in
    (ap (λ (n : ℕ). n / h) e ∙ digits_div q l, ap (λ (n : ℕ). n % h) e ∙ digits_mod q l)

outer : (h q r : ℕ) → suc r ≡ h → (suc (q * h + r) / h ≡ suc q) × (suc (q * h + r) % h ≡ 0)
outer h q r l =
    let e : suc (q * h + r) ≡ suc q * h + 0 = omega (arith, suc-mul q h) in
    (ap (λ (n : ℕ). n / h) e ∙ digits_div (suc q) (omega arith), ap (λ (n : ℕ). n % h) e ∙ digits_mod (suc q) (omega arith))

fields_inner : (h q r : ℕ) → fields h q (suc r) ≡ fields h q r + gap q
fields_inner h zero r = omega arith
fields_inner h (suc e) r = omega (arith, add-mul h (suc r) (2 ^ e), add-mul h r (2 ^ e), suc-mul r (2 ^ e))

fields_outer : (h q r : ℕ) → suc r ≡ h → fields h (suc q) 0 ≡ fields h q r + gap q
fields_outer h zero r l = omega arith
fields_outer h (suc e) r l =
    let P : ℕ = 2 ^ e in
    omega (arith, ap (λ (n : ℕ). (h + 0) * n) (two-pow-succ e), mul-add (h + 0) P P, add-mul h 0 P, add-mul h r P, suc-mul r P, ap (λ (n : ℕ). n * P) l)

-- the gap above m
abbrev pub gap_at : Format → ℕ → ℕ
gap_at f m = gap (m / 2 ^ f.frac)

pub units_suc : (f : Format) (m : ℕ) → units f (suc m) ≡ units f m + gap_at f m
unfolding units
units_suc f m = go (dec_le (suc (suc r)) h)
  where
    h : ℕ
    h = 2 ^ f.frac

    q : ℕ
    q = m / h

    r : ℕ
    r = m % h

    e : suc m ≡ suc (q * h + r)
    e = ap suc (sym (div-add-mod' m h))

    go : Dec (suc r < h) → fields h (suc m / h) (suc m % h) ≡ fields h q r + gap q
    go (yes l) = ap (λ (n : ℕ). fields h (n / h) (n % h)) e ∙ (λ i. fields h ((inner h q r l).0 i) ((inner h q r l).1 i)) ∙ fields_inner h q r
    go (no l) =
        let w : suc r ≡ h = omega (arith, mod-lt m (pow_pos f.frac)) in
        ap (λ (n : ℕ). fields h (n / h) (n % h)) e ∙ (λ i. fields h ((outer h q r w).0 i) ((outer h q r w).1 i)) ∙ fields_outer h q r w

gap_pos : (q : ℕ) → 0 < gap q
gap_pos zero = omega arith
gap_pos (suc e) = pow_pos e

pub units_rise : (f : Format) (m : ℕ) → units f m < units f (suc m)
units_rise f m = omega (arith, units_suc f m, gap_pos (m / 2 ^ f.frac))

pub units_mono : (f : Format) {i j : ℕ} → i ≤ j → units f i ≤ units f j
units_mono f {i} {j} h = le_ind (λ k. units f i ≤ units f k) (omega arith) (λ k l p. omega (arith, units_rise f k)) j h

pub units_lt : (f : Format) {i j : ℕ} → i < j → units f i < units f j
units_lt f {i} {j} h = omega (arith, units_rise f i, units_mono f h)

pub units_lt_inv : (f : Format) (i j : ℕ) → units f i < units f j → i < j
units_lt_inv f i j h = by_contra (suc i) j (λ l. omega (arith, units_mono f {i = j} {j = i} (omega arith)))

pub units_le_inv : (f : Format) (i j : ℕ) → units f i ≤ units f j → i ≤ j
units_le_inv f i j h = by_contra i j (λ l. omega (arith, units_lt f l))

pub units_is : (f : Format) (m : ℕ) → units f m ≡ fields (2 ^ f.frac) (m / 2 ^ f.frac) (m % 2 ^ f.frac)
unfolding units
units_is f m = refl

pub units_at_lem : (f : Format) (q r : ℕ) → r < 2 ^ f.frac → units f (q * 2 ^ f.frac + r) ≡ fields (2 ^ f.frac) q r
unfolding units
units_at_lem f q r l = λ i. fields (2 ^ f.frac) (digits_div q l i) (digits_mod q l i)

pub units_zero : (f : Format) → units f 0 ≡ 0
units_zero f = ap (units f) (omega arith) ∙ units_at_lem f 0 0 (pow_pos f.frac)

pub units_inj : (f : Format) (i j : ℕ) → units f i ≡ units f j → i ≡ j
units_inj f i j e =
    both_ways i j
    (by_contra i j (λ l. omega (arith, units_lt f l)))
    (by_contra j i (λ l. omega (arith, units_lt f l)))

-- so units determine the exponent field and the fraction
pub units_fields : (f : Format) (i j : ℕ) → units f i ≡ units f j → (i / 2 ^ f.frac ≡ j / 2 ^ f.frac) × (i % 2 ^ f.frac ≡ j % 2 ^ f.frac)
units_fields f i j e = let d = units_inj f i j e in (ap (λ m. m / 2 ^ f.frac) d, ap (λ m. m % 2 ^ f.frac) d)

-- the number that would follow the largest finite one
pub units_inf : (f : Format) → Fair f → units f (inf f) ≡ 2 ^ (f.frac + (2 ^ f.expo - 2))
units_inf f g = ap (units f) (omega arith) ∙ units_at_lem f (2 ^ f.expo - 1) 0 (pow_pos f.frac) ∙ step (2 ^ f.expo - 1) (2 ^ f.expo - 2) (omega (arith, four)) ∙ sym (pow-add 2 f.frac (2 ^ f.expo - 2))
  where
    four : 2 ^ 2 ≤ 2 ^ f.expo
    four = pow_mono g.expo_two

    step : (q e : ℕ) → q ≡ suc e → fields (2 ^ f.frac) q 0 ≡ 2 ^ f.frac * 2 ^ e
    step q e h = ap (λ c. fields (2 ^ f.frac) c 0) h ∙ omega arith
