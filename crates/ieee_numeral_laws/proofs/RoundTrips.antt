-- Reading what was written gives the same bits, under every attribute; for every NaN, the canonical one. Assumes nothing.
use Prim.Native.Nat.{ℕ, zero, suc, ◌*◌, ◌^◌, ◌<◌}
use mathlib.Core.Path.{◌≡◌, refl, sym, ap, ◌∙◌, subst}
use mathlib.Core.Bool.{Bool, true, false}
use mathlib.Core.List.{List, []}
use native.Mathlib.Omega.{arith}
use lib.ListN.{take}
use lib.IntN.{ℤ, pos}
use Rattle.ieee.specs.Format.{Format, Fair, inf, canonical, units}
use Rattle.ieee.specs.Pattern.{Pattern, minus, magnitude, signed, Kind, nan, infinite, finite, kind, with_sign}
use Rattle.ieee.specs.Exact.{dyadic}
use Rattle.ieee.specs.Round.{Attribute, answer}
use Rattle.ieee.specs.Rounded.{attribute_number}
use Rattle.ieee.specs.Refusal.{done, number_of, value_of}
use Rattle.ieee.proofs.Units.{units_zero}
use Rattle.ieee.proofs.Patterns.{finite_is, signed_is, zero_is, infinity_is, value_is}
use Rattle.ieee.proofs.Exacts.{sign_own, answer_held}
use Rattle.ieee_numeral_laws.specs.Numeral.{Numeral, number, infinity, not_a_number, inf_text, none, Says, infinite as says-infinite, minus_infinite, nan as says-nan}
use Rattle.ieee_numeral_laws.specs.Read.{value_in, read_in, read_rounded}
use Rattle.ieee_numeral_laws.specs.ReadRule.{Worth, InGrammar}
use Rattle.ieee_numeral_laws.specs.TextRule.{Writable, NumberText}
use Rattle.ieee_numeral_laws.specs.Write.{sign_text, text_by, text_of, write_of}
use Rattle.ieee_numeral_laws.proofs.Grammar.{reads_what_it_says}
use Rattle.ieee_numeral_laws.proofs.Readers.{read_under, read_done}
use Rattle.ieee_numeral_laws.proofs.Parts.{worth_by}
use Rattle.ieee_numeral_laws.proofs.Texts.{text_says, text_as}
use Rattle.ieee_numeral_laws.proofs.Lengths.{text_fits}
use Rattle.ieee_numeral_laws.proofs.Worths.{worth_settles}
use Rattle.ieee_numeral_laws.proofs.Writes.{written_front}

-- ---- a numeral that is worth a number of the format is read as it
pub held_numeral : (f : Format) (a : Attribute) (s : Bool) (m d k : ℕ) (e : ℤ) → m < inf f → Worth f s d k e (dyadic (with_sign s (units f m)) 0) → value_in f a (number s d k e) ≡ signed f s m
unfolding value_in
held_numeral f a s m d k e l h =
    let one : units f m ≡ units f m * 2 ^ 0 = omega arith in
    sym (worth_settles f a s d k e (dyadic (with_sign s (units f m)) 0) h)
    ∙ ap (λ c. answer f a s (dyadic (with_sign s c) 0)) one
    ∙ answer_held f a s s m 0 l (sign_own s (units f m * 2 ^ 0) 0)

-- ---- the texts
infinity_says : (s : Bool) → Says (sign_text s inf_text) (infinity s)
infinity_says false = says-infinite
infinity_says true = minus_infinite

module _ (f : Format) (g : Fair f) (w : Writable f) (x : ℕ) (p : Pattern f x) where
  said : {m : Numeral} (q : Kind) → kind f x ≡ q → Says (text_by f x q) m → Says (text_of f x) m
  unfolding text_of
  said {m} q h s = subst (λ c. Says (text_by f x c) m) (sym h) s

  zero_says : kind f x ≡ finite 0 → Says (text_of f x) (number (minus f x) 0 0 (pos 0))
  unfolding text_by
  zero_says h = said (finite 0) h (text_says (minus f x) {lead = 0} [] (pos 0) (omega arith) none (omega arith))

  in_grammar : (q : Kind) → kind f x ≡ q → InGrammar (text_of f x)
  unfolding text_by
  in_grammar nan h = record { numeral = not_a_number; says = said nan h says-nan }
  in_grammar infinite h = record { numeral = infinity (minus f x); says = said infinite h (infinity_says (minus f x)) }
  in_grammar (finite zero) h = record { numeral = number (minus f x) 0 0 (pos 0); says = zero_says h }
  in_grammar (finite (suc u)) h =
      let t : NumberText f x (text_of f x) = (text_as f g w x p).of_number u h in
      record { numeral = number (minus f x) t.d t.k t.e; says = t.says }

  pub text_in_grammar : InGrammar (text_of f x)
  text_in_grammar = in_grammar (kind f x) refl

module _ (f : Format) (g : Fair f) (w : Writable f) (a : Attribute) (x : ℕ) (p : Pattern f x) where
  back : {m : Numeral} → Says (text_of f x) m → read_in f a (text_of f x) ≡ done (value_in f a m)
  back {m} s = read_done f a (text_of f x) m (text_fits f g w x p) (reads_what_it_says s)

  read_nan : kind f x ≡ nan → read_in f a (text_of f x) ≡ done (canonical f)
  unfolding text_by value_in
  read_nan h = back (said f g w x p nan h says-nan)

  read_infinite : kind f x ≡ infinite → read_in f a (text_of f x) ≡ done x
  unfolding text_by value_in
  read_infinite h = back (said f g w x p infinite h (infinity_says (minus f x))) ∙ ap done (infinity_is f x p h)

  read_zero : kind f x ≡ finite 0 → read_in f a (text_of f x) ≡ done x
  read_zero h =
      let nothing : Worth f (minus f x) 0 0 (pos 0) (dyadic (with_sign (minus f x) (units f 0)) 0) =
      subst (λ u. Worth f (minus f x) 0 0 (pos 0) (dyadic (with_sign (minus f x) u) 0)) (sym (units_zero f)) (worth_by f (minus f x) 0 0 0 (pos 0) (omega arith)) in
      back (zero_says f g w x p h)
      ∙ ap done (held_numeral f a (minus f x) 0 0 0 (pos 0) (omega (arith, (finite_is f x 0 h).below)) nothing ∙ zero_is f x p h)

  read_number : (u : ℕ) → kind f x ≡ finite (suc u) → read_in f a (text_of f x) ≡ done x
  read_number u h =
      let t : NumberText f x (text_of f x) = (text_as f g w x p).of_number u h in
      let worth : Worth f (minus f x) t.d t.k t.e (dyadic (with_sign (minus f x) (units f (magnitude f x))) 0) =
      subst (λ v. Worth f (minus f x) t.d t.k t.e (dyadic v 0)) (value_is f x) t.worth in
      back t.says
      ∙ ap done (held_numeral f a (minus f x) (magnitude f x) t.d t.k t.e (finite_is f x (suc u) h).below worth ∙ signed_is f x p)

  read_other : (q : Kind) → kind f x ≡ q → (q ≡ nan → ⊥) → read_in f a (text_of f x) ≡ done x
  read_other nan h n = absurd (n refl)
  read_other infinite h n = read_infinite h
  read_other (finite zero) h n = read_zero h
  read_other (finite (suc u)) h n = read_number u h

  pub written_reads_back : (kind f x ≡ nan → read_in f a (text_of f x) ≡ done (canonical f)) × ((kind f x ≡ nan → ⊥) → read_in f a (text_of f x) ≡ done x)
  written_reads_back = (read_nan, λ n. read_other (kind f x) refl n)

  -- the same of the two calls: what is read are the bytes that the writer's answer counts
  pub call_reads_back : (out : List ℕ) → number_of (write_of f x out).answer ≡ 0
      → let r = read_rounded f (attribute_number a) (take (value_of (write_of f x out).answer) (write_of f x out).output) in
      (kind f x ≡ nan → r ≡ done (canonical f)) × ((kind f x ≡ nan → ⊥) → r ≡ done x)
  call_reads_back out z =
      let e = read_under f a (take (value_of (write_of f x out).answer) (write_of f x out).output) ∙ ap (read_in f a) (written_front f x out z) in
      (λ h. e ∙ written_reads_back.0 h, λ n. e ∙ written_reads_back.1 n)
