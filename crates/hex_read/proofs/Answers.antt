-- The reader's answer by its tests: the length, what was found, and the attribute's number. Assumes nothing.
use Prim.Native.Nat.{ℕ, zero, suc, ◌≤◌, ◌<◌}
use mathlib.Core.Path.{◌≡◌, refl, sym, ap, ◌∙◌}
use mathlib.Core.List.{List}
use native.Mathlib.Omega.{arith}
use lib.ListN.{length}
use Rattle.ieee.specs.Format.{Format, Fair, inf}
use Rattle.ieee.specs.Pattern.{Pattern}
use Rattle.ieee.specs.Round.{Attribute, ties_to_even, toward_zero, toward_negative, toward_positive, ties_to_away}
use Rattle.ieee.specs.Flags.{none}
use Rattle.ieee.specs.Rounded.{Rounded, attributes, attribute_number, numbered}
use Rattle.ieee.specs.Refusal.{Answer, refused}
use Rattle.ieee.proofs.Attributes.{answer_pattern}
use Rattle.ieee.proofs.Patterns.{inf_below_top, pattern_signed, canonical_pattern}
use Rattle.fmt_fields.specs.Numbered.{Names}
use Rattle.ieee_numeral_laws.specs.Numeral.{Numeral, number, infinity, not_a_number}
use Rattle.std.specs.Prelude.{Option, Some, None, Result, Err, option_map, ok_or, IfOk}
use Rattle.fmt_fields.specs.Refused.{answer_of, refusal_number}
use Rattle.fmt_fields.specs.declared.refusal.Refusal.{Refusal}
use Rattle.fmt_fields.specs.declared.refusal.Refusal.TheVariants.{NoNumeral}
use Rattle.ieee_numeral_laws.specs.Reading.{numeral_of}
use Rattle.ieee_numeral_laws.specs.Read.{exact_numeral, value_in, read_in, read_rounded}
use Rattle.ieee_numeral_laws.proofs.Readers.{read_too_long, read_outside, read_done, by_number, no_attribute}

value_pattern : (f : Format) → Fair f → (a : Attribute) (n : Numeral) → Pattern f (value_in f a n)
unfolding value_in
value_pattern f g a (number s d k e) = answer_pattern f g a s (exact_numeral f s d k e)
value_pattern f g a (infinity s) = pattern_signed f s (inf f) (inf_below_top f)
value_pattern f g a not_a_number = canonical_pattern f

module _ (f : Format) (a : Attribute) (s : List ℕ) where
  pub too_long : 64 < length s → refused 6 ≡ read_in f a s
  too_long l = sym (read_too_long f a s l)

  -- a text that is no numeral is refused with 7
  pub is_outside : length s ≤ 64 → numeral_of s ≡ None → refused 7 ≡ read_in f a s
  is_outside l e = sym (read_outside f a s l e)

  read_by_lem : length s ≤ 64 → (p : Option Numeral) → numeral_of s ≡ p → answer_of (λ (x : ℕ). x) (ok_or (option_map (value_in f a) p) NoNumeral) ≡ read_in f a s
  read_by_lem l (Some n) e = sym (read_done f a s n l e)
  read_by_lem l None e = is_outside l e

  pub is_read : length s ≤ 64 → answer_of (λ (x : ℕ). x) (ok_or (option_map (value_in f a) (numeral_of s)) NoNumeral) ≡ read_in f a s
  is_read l = read_by_lem l (numeral_of s) refl

pub held_pattern : (f : Format) → Fair f → (a : Attribute) (p : Option Numeral) → IfOk (ok_or (option_map (value_in f a) p) NoNumeral) (λ x. Pattern f x)
held_pattern f g a (Some n) = value_pattern f g a n
held_pattern f g a None = tt

-- ---- a refusal that is passed on
pub passed_on : {W : Type 0} (value : W → ℕ) {r : Result W Refusal} {x y : Refusal} {a b : Answer} → r ≡ Err x → x ≡ y → refused (refusal_number y) ≡ a → a ≡ b → answer_of value r ≡ b
passed_on value e i h m = ap (answer_of value) e ∙ ap (λ z. refused (refusal_number z)) i ∙ h ∙ m

-- ---- under the attribute of a number
attribute_small : (a : Attribute) → attribute_number a < 5
attribute_small ties_to_even = omega arith
attribute_small toward_zero = omega arith
attribute_small toward_negative = omega arith
attribute_small toward_positive = omega arith
attribute_small ties_to_away = omega arith

names_number : (n : ℕ) (a : Attribute) → Names n a → attribute_number a ≡ n
names_number n a h = go n (ap (λ (r : Rounded). r.number) (h call))
  where
    call : Attribute → Rounded
    call b = record { number = attribute_number b; value = 0; flags = none }

    go : (n : ℕ) → (numbered attributes n (λ b. record { number = attribute_number b; value = 0; flags = none })).number ≡ attribute_number a → attribute_number a ≡ n
    go zero e = sym e
    go (suc zero) e = sym e
    go (suc (suc zero)) e = sym e
    go (suc (suc (suc zero))) e = sym e
    go (suc (suc (suc (suc zero)))) e = sym e
    go (suc (suc (suc (suc (suc n))))) e = absurd (omega (arith, e, attribute_small a))

module _ (f : Format) (n : ℕ) (s : List ℕ) where
  pub under_number_lem : (a : Attribute) → Names n a → read_in f a s ≡ read_rounded f n s
  under_number_lem a h = sym (by_number f n s a (names_number n a h))

  pub unknown : 5 ≤ n → refused 10 ≡ read_rounded f n s
  unknown l = sym (no_attribute f n s l)

pub under_layout : {f h : Format} (n : ℕ) (s : List ℕ) → f ≡ h → (a : Attribute) → Names n a → read_in f a s ≡ read_rounded h n s
under_layout {f} {h} n s e a m = ap (λ l. read_in l a s) e ∙ under_number_lem h n s a m
