-- Lower neighbours inside the range and outside it, by their exponent field; inside it only inexact can be raised. Assumes nothing.
use Prim.Native.Nat.{ℕ, suc, ◌+◌, ◌-◌, ◌*◌, ◌^◌, ◌≤◌, ◌<◌}
use mathlib.Core.Path.{◌≡◌, refl, sym, ap₂}
use mathlib.Core.Bool.{Bool, true, false, not, ◌&&◌, ◌||◌}
use native.Mathlib.Omega.{arith}
use lib.Dec.{leb, ltb, eqb}
use lib.Pow.{pow_pos}
use borrow.Author.Tests.{le-leb, lt-leb, lt-ltb, le-ltb, ne_eqb}
use Rattle.algebra.proofs.Products.{times_le}
use Rattle.ieee.specs.Format.{Format, inf}
use Rattle.ieee.specs.Round.{Way}
use Rattle.ieee.specs.Flags.{judged, only_inexact, largest}
use Rattle.ieee.proofs.Decide.{Reads, holds, leb_reads, and_reads}
use Rattle.round_laws.specs.Location.{inside_at}
use Rattle.round_laws.specs.Flags.{exceeds, rises, flags_by}

module _ (f : Format) where
  within : (m : ℕ) → 2 ^ f.frac ≤ m → m < inf f - 2 ^ f.frac → true ≡ inside_at f m
  within m l h = sym (ap₂ ◌&&◌ (le-leb (2 ^ f.frac) m l) (lt-ltb m (inf f - 2 ^ f.frac) h))

  -- below the least normal number
  pub low_outside : (m : ℕ) → m < 2 ^ f.frac → false ≡ inside_at f m
  low_outside m l = sym (ap₂ ◌&&◌ (lt-leb (2 ^ f.frac) m l) refl)

  -- in the last exponent field
  high_outside : (m : ℕ) → inf f - 2 ^ f.frac ≤ m → false ≡ inside_at f m
  high_outside m h = go (leb (2 ^ f.frac) m)
    where
      go : (b : Bool) → false ≡ b && ltb m (inf f - 2 ^ f.frac)
      go false = refl
      go true = sym (le-ltb m (inf f - 2 ^ f.frac) h)

  pub largest_outside : false ≡ inside_at f (inf f - 1)
  largest_outside = high_outside (inf f - 1) (omega (arith, pow_pos f.frac))

  -- a significand q of frac + 1 bits under an exponent field of up
  pub field_inside : (up q : ℕ) → 2 ^ f.frac ≤ q → q < 2 * 2 ^ f.frac → up + 4 ≤ 2 ^ f.expo → true ≡ inside_at f (up * 2 ^ f.frac + q)
  field_inside up q l h k = within (up * 2 ^ f.frac + q) (omega arith) (omega (arith, times_le {a = up + 3} {b = 2 ^ f.expo - 1} (2 ^ f.frac) (omega arith)))

  pub last_outside : (up q : ℕ) → 2 ^ f.frac ≤ q → up + 3 ≡ 2 ^ f.expo → false ≡ inside_at f (up * 2 ^ f.frac + q)
  last_outside up q l k = high_outside (up * 2 ^ f.frac + q) (omega (arith, times_le {a = 2 ^ f.expo - 1} {b = up + 2} (2 ^ f.frac) (omega arith)))

  -- ---- the flags
  pub inside_flags : (w : Way) (m l : ℕ) (h b : Bool) → true ≡ inside_at f m → only_inexact (leb 1 l) ≡ flags_by f w m l h b
  inside_flags w m l h b i =
      let (k, j) = both_true (leb_reads (2 ^ f.frac) m) (leb_reads (suc m) (inf f - 2 ^ f.frac)) (sym i) in
      let o : eqb m (largest f) ≡ false = ne_eqb m (largest f) (omega (arith, pow_pos f.frac)) in
      let t : ltb (suc m) (2 ^ f.frac) ≡ false = le-ltb (suc m) (2 ^ f.frac) (omega arith) in
      let e : eqb (suc m) (2 ^ f.frac) ≡ false = ne_eqb (suc m) (2 ^ f.frac) (omega arith) in
      sym (λ n. judged (o n && exceeds w l b) (t n || (e n && not (rises w l h b))) (leb 1 l))
    where
      both_true : {A B : Type 0} {p q : Bool} → Reads A p → Reads B q → p && q ≡ true → A × B
      both_true p q i = holds (and_reads p q) i
