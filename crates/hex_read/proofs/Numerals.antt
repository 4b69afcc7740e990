-- What the text after the sign gives of the whole text: a number, rounded, or a word. Assumes nothing.
use Prim.Native.Nat.{ℕ, ◌-◌, ◌^◌, ◌≤◌, ◌<◌}
use mathlib.Core.Path.{◌≡◌, refl, sym, ap}
use mathlib.Core.Bool.{Bool, ◌||◌}
use mathlib.Core.List.{List}
use native.Mathlib.Omega.{arith}
use lib.Dec.{eqb}
use mir.Val.{bool_byte}
use Rattle.std.specs.Int.Signed.{mag}
use lib.IntN.{pos, ◌+ℤ◌}
use lib.ListN.{length, take, drop, get_or}
use Rattle.ieee.specs.Format.{Format, low}
use Rattle.ieee.specs.Round.{Attribute, answer}
use Rattle.ieee.specs.Scalbn.{scaled}
use Rattle.ieee_numeral_laws.specs.Numeral.{Numeral, number, infinity, not_a_number}
use Rattle.std.specs.Prelude.{Option, Some, None, option_map}
use Rattle.ieee_numeral_laws.specs.Reading.{unsigned_of, numeral_of}
use Rattle.ieee_numeral_laws.specs.Read.{value_in}
use Rattle.hex_read.specs.declared.number.Number.{Number}
use Rattle.hex_read.specs.Found.{NumberAs, word_of}
use Rattle.hex_read.proofs.Marked.{number_rounds}
use Rattle.hex_read.proofs.Exponents.{offset}
use Rattle.text_numbers.proofs.Parts.{rest_whole}
use Rattle.hex_read.proofs.Texts.{unsigned_part, numeral_number, numeral_word}

not_none : {n : Number} → Some n ≡ None → ⊥
not_none e = cc

-- b is the first byte, and start the code's offset after the sign
module _ (f : Format) (a : Attribute) (s : List ℕ) (b start : ℕ) (is : b ≡ get_or s 0 0) (l : 0 < length s) (at : start ≡ bool_byte (eqb b 43 || eqb b 45)) where
  part : take (length s - start) (drop start s) ≡ unsigned_part s
  part = rw (rest_whole start s, at, offset (eqb b 43 || eqb b 45), is)

  found_by : (p : Option Numeral) (n : Number) → unsigned_of (eqb b 45) (unsigned_part s) ≡ p → f.frac ≤ 55 → NumberAs (eqb b 45) p (Some n)
      → Some (answer f a (eqb b 45) (scaled (eqb b 45) n.sig (n.exp +ℤ pos (low f)))) ≡ option_map (value_in f a) (numeral_of s)
  unfolding value_in
  found_by (Some (number t d k e)) n u m (i, h) =
      let e' : numeral_of s ≡ Some (number t d k e) = numeral_number s (number t d k e) l (rw is at u) in
      rw (e', i) (ap Some (number_rounds f a (eqb b 45) d k e n m h))
  found_by (Some (infinity t)) n u m h = absurd h
  found_by (Some not_a_number) n u m h = absurd h
  found_by None n u m h = absurd (not_none h)

  word_by : (p : Option Numeral) → unsigned_of (eqb b 45) (unsigned_part s) ≡ p → NumberAs (eqb b 45) p None
      → option_map (value_in f a) (word_of (eqb b 43) (eqb b 45) (unsigned_part s)) ≡ option_map (value_in f a) (numeral_of s)
  word_by (Some (number t d k e)) u h = absurd h
  word_by (Some (infinity t)) u h = absurd h
  word_by (Some not_a_number) u h = absurd h
  word_by None u h = ap (option_map (value_in f a)) (rw is (sym (numeral_word s l (rw is at u))))

  pub number_found : (n : Number) → f.frac ≤ 55 → NumberAs (eqb b 45) (unsigned_of (eqb b 45) (take (length s - start) (drop start s))) (Some n)
      → Some (answer f a (eqb b 45) (scaled (eqb b 45) n.sig (n.exp +ℤ pos (low f)))) ≡ option_map (value_in f a) (numeral_of s)
  number_found n m h = found_by (unsigned_of (eqb b 45) (unsigned_part s)) n refl m (rw part at h)

  pub word_found : NumberAs (eqb b 45) (unsigned_of (eqb b 45) (take (length s - start) (drop start s))) None
      → option_map (value_in f a) (word_of (eqb b 43) (eqb b 45) (take (length s - start) (drop start s))) ≡ option_map (value_in f a) (numeral_of s)
  word_found h = rw part (word_by (unsigned_of (eqb b 45) (unsigned_part s)) refl (rw part at h))

pub number_small : (neg : Bool) (p : Option Numeral) (n : Number) → NumberAs neg p (Some n) → mag n.exp < 2 ^ 18
number_small neg (Some (number s d k e)) n (_, h) = omega (arith, h.small)
number_small neg (Some (infinity s)) n h = absurd h
number_small neg (Some not_a_number) n h = absurd h
number_small neg None n h = absurd (not_none h)
