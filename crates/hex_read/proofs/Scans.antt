-- Laws of the scan: a digit more, kept or dropped; and the digits at the front of a text, one by one. Assumes nothing.
use Prim.Native.Nat.{ℕ, suc, ◌+◌, ◌*◌, ◌^◌, ◌≤◌, ◌<◌}
use mathlib.Core.Path.{◌≡◌, refl, sym, ap, ◌∙◌}
use mathlib.Core.Bool.{Bool, true, false, ◌||◌, true≢false}
use mathlib.Core.List.{List}
use native.Mathlib.Nat.{pow-suc}
use native.Mathlib.Numerals.{add-one}
use native.Mathlib.Omega.{arith}
use lib.Dec.{ltb}
use lib.ListN.{length, drop, get_or}
use lib.Seq.{drop-cons, drop-length}
use borrow.Author.Tests.{lt-ltb, le-ltb, ltb-true, ltb-false}
use Rattle.algebra.proofs.Products.{order}
use Rattle.text_numbers.specs.Digits.{digit_of}
use Rattle.ieee_numeral_laws.specs.Reading.{run}
use Rattle.hex_read.specs.declared.lead.Lead.{Lead}
use Rattle.hex_read.specs.Scanned.{Holds, Scanned}

-- ---- what is held
-- while the word has room nothing is dropped
none_dropped : {v : ℕ} {c : Lead} → Holds v c → c.sig < 2 ^ 56 → c.extra ≡ 0
none_dropped {v} {c} h l = order c.extra 0 (λ m. omega arith) (λ m. absurd (omega (arith, h.full m)))

pub digit_kept : {v : ℕ} {c : Lead} (d : ℕ) (e : Lead) → Holds v c → d < 16 → c.sig < 2 ^ 56 → e.sig ≡ c.sig * 16 + d → e.extra ≡ c.extra → e.sticky ≡ c.sticky
    → Holds (v * 16 + d) e
digit_kept {v} {c} d e h small l i x t =
    let one : 16 ^ c.extra ≡ 1 = ap (λ n. 16 ^ n) (none_dropped h l) in
    let whole : v ≡ c.sig * 1 + h.rest = rw one at h.whole in
    let below : h.rest < 1 = rw one at h.below in
    record {
      rest = h.rest;
      whole = rw (i, x, one) (omega arith);
      below = rw x h.below;
      clean = λ q. h.clean (sym t ∙ q);
      loose = λ q. h.loose (sym t ∙ q);
      full = λ m. absurd (omega (arith, x, none_dropped h l));
    }

mark_clean : (t : Bool) (d : ℕ) {r : ℕ} → (t ≡ false → r ≡ 0) → t || ltb 0 d ≡ false → r * 16 + d ≡ 0
mark_clean false d f e = omega (arith, f refl, ltb-false 0 d e)
mark_clean true d f e = absurd (true≢false e)

mark_loose : (t : Bool) (d : ℕ) {r : ℕ} → (t ≡ true → 0 < r) → t || ltb 0 d ≡ true → 0 < r * 16 + d
mark_loose false d f e = omega (arith, ltb-true 0 d e)
mark_loose true d f e = omega (arith, f refl)

pub digit_dropped : {v : ℕ} {c : Lead} (d : ℕ) (e : Lead) → Holds v c → d < 16 → 2 ^ 56 ≤ c.sig → e.sig ≡ c.sig → e.extra ≡ c.extra + 1
    → e.sticky ≡ c.sticky || ltb 0 d → Holds (v * 16 + d) e
digit_dropped {v} {c} d e h small l i x t =
    let more : 16 ^ (c.extra + 1) ≡ 16 ^ c.extra * 16 = ap (λ n. 16 ^ n) (add-one c.extra) ∙ pow-suc 16 c.extra in
    record {
      rest = h.rest * 16 + d;
      whole = rw (i, x, more) (omega (arith, h.whole));
      below = rw (x, more) (omega (arith, h.below));
      clean = λ q. mark_clean c.sticky d h.clean (sym t ∙ q);
      loose = λ q. mark_loose c.sticky d h.loose (sym t ∙ q);
      full = λ m. rw i l;
    }

-- ---- the digits at the front of a text
run_digit : (v n : ℕ) (s : List ℕ) (i d : ℕ) → d ≡ digit_of (get_or s i 0) → i < length s → d < 16
    → run 16 v n (drop i s) ≡ run 16 (v * 16 + d) (suc n) (drop (i + 1) s)
unfolding run
run_digit v n s i d is more h = rw (add-one, is, drop-cons s i 0 more) (rw (lt-ltb _ _ (rw is at h)))

run_other : (v n : ℕ) (s : List ℕ) (i : ℕ) → i < length s → ¬ (digit_of (get_or s i 0) < 16)
    → run 16 v n (drop i s) ≡ record { spelt = v; count = n; rest = drop i s }
unfolding run
run_other v n s i more h = rw (drop-cons s i 0 more) (rw (le-ltb (digit_of (get_or s i 0)) 16 (omega arith)))

run_over : (v n : ℕ) (s : List ℕ) (i : ℕ) → i ≡ length s → run 16 v n (drop i s) ≡ record { spelt = v; count = n; rest = drop i s }
unfolding run
run_over v n s i e = rw (e, drop-length)

-- after i digits, the whole text gives what the rest gives
pub record Along (v n : ℕ) (s : List ℕ) (c : Lead) (i : ℕ) : Type 0 where
  pub spelt : ℕ
  pub holds : Holds spelt c
  pub runs : run 16 v n s ≡ run 16 spelt (n + i) (drop i s)

pub at_first : {v : ℕ} {c : Lead} (n : ℕ) (s : List ℕ) → Holds v c → Along v n s c 0
at_first {v} n s h = record { spelt = v; holds = h; runs = ap (λ m. run 16 v m s) (omega arith) }

module _ {v n : ℕ} {s : List ℕ} {c : Lead} {i : ℕ} (a : Along v n s c i) where
  pub one_more : (d : ℕ) (e : Lead) → d ≡ digit_of (get_or s i 0) → i < length s → d < 16 → ((u : ℕ) → Holds u c → Holds (u * 16 + d) e) → Along v n s e (i + 1)
  one_more d e is more l step =
      let u : ℕ = a.spelt in
      record {
        spelt = u * 16 + d;
        holds = step u a.holds;
        runs = a.runs ∙ run_digit u (n + i) s i d is more l ∙ ap (λ m. run 16 (u * 16 + d) m (drop (i + 1) s)) (omega arith);
      }

  pub at_other : i < length s → ¬ (digit_of (get_or s i 0) < 16) → Scanned v n s (record { lead = c; end = i })
  at_other more l = record { spelt = a.spelt; holds = a.holds; runs = a.runs ∙ run_other a.spelt (n + i) s i more l }

  pub at_end_lem : i ≡ length s → Scanned v n s (record { lead = c; end = length s })
  at_end_lem e = rw (← e) (record { spelt = a.spelt; holds = a.holds; runs = a.runs ∙ run_over a.spelt (n + i) s i e })
