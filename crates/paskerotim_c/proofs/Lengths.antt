-- The length that the writer answers fits a word of 32 bits. Assumes nothing.
use Prim.Native.Nat.{ℕ, ◌≤◌, ◌<◌, ◌^◌}
use mathlib.Core.Path.{◌≡◌, sym, subst}
use mathlib.Core.Logic.{◌⊎◌, inl, inr}
use mathlib.Core.List.{List}
use native.Mathlib.Omega.{arith}
use lib.ListN.{length}
use Rattle.ieee.specs.Format.{Format, b64, b32}
use Rattle.ieee.specs.Pattern.{Pattern}
use Rattle.ieee.specs.Refusal.{Answer, number_of, value_of}
use Rattle.ieee_numeral_laws.specs.Write.{text_of, write_of}
use Rattle.ieee_numeral_laws.proofs.Lengths.{text64_length, text32_length}
use Rattle.ieee_numeral_laws.proofs.Writes.{written_as}

answered_below : (f : Format) (x : ℕ) (out : List ℕ) → length (text_of f x) ≤ 24 → value_of (write_of f x out).answer ≤ 24
answered_below f x out l =
    let w = written_as f x out in
    by w.refusals.only
  where
    by : ((number_of (write_of f x out).answer ≡ 0) ⊎ (number_of (write_of f x out).answer ≡ 8)) → value_of (write_of f x out).answer ≤ 24
    by (inl z) = omega (arith, (written_as f x out).value z, l)
    by (inr e) = omega (arith, (written_as f x out).no_value (λ z. omega (arith, z, e)))

pub length64_below : {a : Answer} (x : ℕ) (out : List ℕ) → Pattern b64 x → a ≡ (write_of b64 x out).answer → value_of a < 2 ^ 32
length64_below x out p e = subst (λ b. value_of b < 2 ^ 32) (sym e) (omega (arith, answered_below b64 x out (text64_length x p)))

pub length32_below : {a : Answer} (x : ℕ) (out : List ℕ) → Pattern b32 x → a ≡ (write_of b32 x out).answer → value_of a < 2 ^ 32
length32_below x out p e = subst (λ b. value_of b < 2 ^ 32) (sym e) (omega (arith, answered_below b32 x out (omega (arith, text32_length x p))))
