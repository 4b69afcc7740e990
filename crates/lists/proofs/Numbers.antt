-- The answer and the output of the list call by the number of its refusal, over the format and the operation. Assumes nothing.
use Rattle.std.proofs.Common.{ℕ, zero, suc, ◌<◌, ◌≡◌, refl, sym, List, map, length, lit<, arith}
use Rattle.ieee.specs.Format.{Format}
use Rattle.ieee.specs.Refusal.{given, done, refused}
use Rattle.ieee.specs.Lists.{list_limit, operation, list_refusals, list_by, list_in, list_of}
use Rattle.ieee.proofs.ListCalls.{given_refusals}
use Rattle.fmt_fields.specs.Refused.{refusal_number}
use Rattle.fmt_fields.specs.declared.refusal.Refusal.{Refusal}
use Rattle.fmt_fields.specs.declared.refusal.Refusal.TheVariants.{NoOperation, TooManyPlaces, UnlikeLengths, BeyondDivisor, ShiftTooLong, TextTooLong, NoNumeral, NoRoom, NoAttribute}

-- no refusal has the number 0
pub refusal_some : (e : Refusal) → 0 < refusal_number e
refusal_some NoOperation = lit< tt
refusal_some TooManyPlaces = lit< tt
refusal_some UnlikeLengths = lit< tt
refusal_some BeyondDivisor = lit< tt
refusal_some ShiftTooLong = lit< tt
refusal_some TextTooLong = lit< tt
refusal_some NoNumeral = lit< tt
refusal_some NoRoom = lit< tt
refusal_some NoAttribute = lit< tt

module _ (f : Format) (op : ℕ) (xs ys : List ℕ) where
  abbrev number : ℕ
  number = given (list_refusals list_limit op xs ys)

  refused_by : (k : ℕ) → 0 < k → (refused k ≡ (list_by f op xs ys k).answer) × (ys ≡ (list_by f op xs ys k).output)
  unfolding list_by
  refused_by zero h = absurd (omega arith)
  refused_by (suc k) h = (refl, refl)

  done_by : (done 0 ≡ (list_by f op xs ys 0).answer) × (map (operation f op) xs ≡ (list_by f op xs ys 0).output)
  unfolding list_by
  done_by = (refl, refl)

  pub refused_leaves : {k : ℕ} → k ≡ number → 0 < k → (refused k ≡ (list_of f op xs ys).answer) × (ys ≡ (list_of f op xs ys).output)
  unfolding list_of list_in
  refused_leaves {k} e h = rw (sym e) (refused_by k h)

  pub done_fills : 0 ≡ number → (done 0 ≡ (list_of f op xs ys).answer) × (map (operation f op) xs ≡ (list_of f op xs ys).output)
  unfolding list_of list_in
  done_fills e = rw (sym e) done_by

  pub accepted_alike : 0 ≡ number → length xs ≡ length ys
  accepted_alike e = ((given_refusals list_limit op xs ys).none.0 (sym e)).1.1
