-- The sizes of a number's parts, and of its text. Assumes nothing.
use Prim.Native.Nat.{ℕ, ◌+◌, ◌<◌}
use mathlib.Core.Path.{◌≡◌, refl, sym, ap, ◌∙◌}
use mathlib.Core.Bool.{Bool}
use mathlib.Core.List.{List, [], ◌∷◌, ◌++◌}
use native.Mathlib.Omega.{arith}
use lib.ListN.{length, length-append}
use Rattle.text_numbers.specs.Digits.{digits_of}
use Rattle.ieee_numeral_laws.specs.Write.{sign_text, after_point}
use Rattle.ieee_numeral_laws.proofs.Spellings.{digits_length}
use Rattle.hex_write.specs.Parts.{head_text, tail_text, parts_text}

after : (s : List ℕ) → 0 < length s → 46 ∷ s ≡ after_point s
after [] p = absurd (omega arith)
after (c ∷ s) p = refl

module _ (k n : ℕ) where
  pub no_point : k ≡ 0 → [] ≡ after_point (digits_of 16 k n)
  unfolding digits_of
  no_point e = ap (λ i. after_point (digits_of 16 i n)) (sym e)

  pub none_size : k ≡ 0 → 0 ≡ length (after_point (digits_of 16 k n))
  none_size e = ap length (no_point e)

  pub point_before : 0 < k → 46 ∷ digits_of 16 k n ≡ after_point (digits_of 16 k n)
  point_before p = after (digits_of 16 k n) (omega (arith, digits_length 16 k n))

  pub point_size : 0 < k → length (after_point (digits_of 16 k n)) ≡ k + 1
  point_size p = ap length (sym (point_before p)) ∙ omega (arith, digits_length 16 k n)

pub parts_size : (neg : Bool) (lead k n : ℕ) (below : Bool) (j size : ℕ)
    → length (parts_text neg lead k n below j size) ≡ length (sign_text neg []) + 3 + length (after_point (digits_of 16 k n)) + 2 + j
unfolding parts_text
parts_size neg lead k n below j size =
    let ahead : List ℕ = sign_text neg [] ++ head_text lead in
    omega (arith, length-append (ahead ++ after_point (digits_of 16 k n)) (tail_text below j size), length-append ahead (after_point (digits_of 16 k n)), length-append (sign_text neg []) (head_text lead), digits_length 10 j size)
