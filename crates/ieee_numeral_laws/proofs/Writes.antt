-- The writer's call: what it refuses, and what the output holds at each place; and nothing else meets the same rule. Assumes nothing.
use Prim.Native.Nat.{ℕ, zero, suc, ◌+◌, ◌-◌, ◌≤◌, ◌<◌}
use mathlib.Core.Path.{◌≡◌, refl, sym, ap, ◌∙◌}
use mathlib.Core.Logic.Iff
use mathlib.Core.Logic.{◌↔◌, ◌⊎◌, inl, inr}
use mathlib.Core.List.{List, ◌++◌}
use native.Mathlib.Omega.{arith}
use lib.Dec.{ltb}
use lib.ListN.{length, take, drop, get_or, length-append, length-drop, get_or-append}
use lib.Seq.{length-take-le, get_or-append-add, get_or-take, get_or-drop, ext_get_or}
use Rattle.algebra.proofs.Products.{order}
use Rattle.ieee.specs.Format.{Format}
use Rattle.ieee.specs.Refusal.{given, number_of, value_of}
use Rattle.ieee.proofs.Decide.{split, eqb_reads}
use Rattle.ieee.proofs.Refusals.{given_first, given_none, first_here, none_last, Tells, ltb_tells, either, same_at}
use Rattle.ieee_numeral_laws.specs.Write.{write_refusals, Written, write_by, text_of, write_of}
use Rattle.ieee_numeral_laws.specs.WriteRule.{WriteRefusals, WrittenAs}

module _ (t out : List ℕ) where
  short : Tells (length out < length t) (length t ≤ length out) (ltb (length out) (length t))
  short = ltb_tells (length out) (length t)

  room_refusals : WriteRefusals t out (given (write_refusals t out))
  room_refusals = record { eight = eight; none = none; only = either short (λ l. inr (eight.1 l)) (λ l. inl (none.1 l)) }
    where
      k : ℕ
      k = given (write_refusals t out)

      eight : (k ≡ 8) ↔ (length out < length t)
      eight = Iff.trans (given_first (write_refusals t out) 8 (omega arith)) (first_here short (omega arith))

      none : (k ≡ 0) ↔ (length t ≤ length out)
      none = Iff.trans (given_none (write_refusals t out) (omega arith)) (none_last short)

  -- a place past the text
  place_past : (i : ℕ) → length t ≤ i → get_or (t ++ drop (length t) out) i 0 ≡ get_or out i 0
  place_past i l =
      let e : length t + (i - length t) ≡ i = omega arith in
      ap (λ j. get_or (t ++ drop (length t) out) j 0) (sym e)
      ∙ get_or-append-add t (drop (length t) out) (i - length t) 0
      ∙ get_or-drop (length t) out (i - length t) 0
      ∙ ap (λ j. get_or out j 0) e

  written_done : WriteRefusals t out 0 → WrittenAs t out (write_by t out 0)
  unfolding write_by
  written_done r =
      let room : length t ≤ length out = r.none.0 refl in
      record {
        refusals = r;
        no_value = λ z. absurd (z refl);
        value = λ z. refl;
        untouched = λ z. absurd (z refl);
        size = omega (arith, length-append t (drop (length t) out), length-drop (length t) out);
        text = λ z i l. get_or-append t (drop (length t) out) 0 i l;
        rest = λ z i l. place_past i l;
      }

  written_refused : (k : ℕ) → WriteRefusals t out (suc k) → WrittenAs t out (write_by t out (suc k))
  unfolding write_by
  written_refused k r =
      record {
        refusals = r;
        no_value = λ z. refl;
        value = λ z. absurd (omega arith);
        untouched = λ z. refl;
        size = refl;
        text = λ z. absurd (omega arith);
        rest = λ z. absurd (omega arith);
      }

  written_by : (k : ℕ) → WriteRefusals t out k → WrittenAs t out (write_by t out k)
  written_by zero r = written_done r
  written_by (suc k) r = written_refused k r

  write_refusals_same : {i j : ℕ} → WriteRefusals t out i → WriteRefusals t out j → i ≡ j
  write_refusals_same {i} {j} p q = go p.only
    where
      go : (i ≡ 0) ⊎ (i ≡ 8) → i ≡ j
      go (inl h) = same_at p.none q.none h
      go (inr h) = same_at p.eight q.eight h

  -- two results that meet the rule are one
  pub written_only : (v w : Written) → WrittenAs t out v → WrittenAs t out w → (number_of v.answer ≡ number_of w.answer) × (value_of v.answer ≡ value_of w.answer) × (v.output ≡ w.output)
  written_only v w p q = (same, split (eqb_reads (number_of v.answer) 0) value novalue, split (eqb_reads (number_of v.answer) 0) written left)
    where
      same : number_of v.answer ≡ number_of w.answer
      same = write_refusals_same p.refusals q.refusals

      value : number_of v.answer ≡ 0 → value_of v.answer ≡ value_of w.answer
      value z = p.value z ∙ sym (q.value (sym same ∙ z))

      novalue : (number_of v.answer ≡ 0 → ⊥) → value_of v.answer ≡ value_of w.answer
      novalue z = p.no_value z ∙ sym (q.no_value (λ y. z (same ∙ y)))

      left : (number_of v.answer ≡ 0 → ⊥) → v.output ≡ w.output
      left z = p.untouched z ∙ sym (q.untouched (λ y. z (same ∙ y)))

      at : number_of v.answer ≡ 0 → (i : ℕ) → get_or v.output i 0 ≡ get_or w.output i 0
      at z i = order (length t) i (λ l. p.rest z i l ∙ sym (q.rest (sym same ∙ z) i l)) (λ l. p.text z i l ∙ sym (q.text (sym same ∙ z) i l))

      written : number_of v.answer ≡ 0 → v.output ≡ w.output
      written z = ext_get_or 0 v.output w.output (p.size ∙ sym q.size) (λ i l. at z i)

module _ (f : Format) (x : ℕ) (out : List ℕ) where
  pub written_as : WrittenAs (text_of f x) out (write_of f x out)
  unfolding write_of
  written_as = written_by (text_of f x) out (given (write_refusals (text_of f x) out)) (room_refusals (text_of f x) out)

  pub written_settled : (w : Written) → WrittenAs (text_of f x) out w
      → (number_of w.answer ≡ number_of (write_of f x out).answer) × (value_of w.answer ≡ value_of (write_of f x out).answer) × (w.output ≡ (write_of f x out).output)
  written_settled w p = written_only (text_of f x) out w (write_of f x out) p written_as

  -- the bytes that the answer counts are the text
  pub written_front : number_of (write_of f x out).answer ≡ 0 → take (value_of (write_of f x out).answer) (write_of f x out).output ≡ text_of f x
  written_front z =
      let a = written_as in
      let t : List ℕ = text_of f x in
      let o : List ℕ = (write_of f x out).output in
      let room : length t ≤ length o = rw a.size (a.refusals.none.0 z) in
      ap (λ n. take n o) (a.value z)
      ∙ ext_get_or 0 (take (length t) o) t (length-take-le (length t) o room)
      (λ i l. let h : i < length t = omega (arith, length-take-le (length t) o room) in get_or-take (length t) o i 0 h ∙ a.text z i h)
