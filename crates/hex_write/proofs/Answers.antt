-- The answer to a text and a room: refused, with the room unchanged, or written at its front. Assumes nothing.
use Prim.Native.Nat.{ℕ, ◌≤◌, ◌<◌}
use mathlib.Core.Path.{◌≡◌, refl, ap, subst}
use mathlib.Core.List.{List, ◌++◌}
use lib.ListN.{length, drop}
use borrow.Author.Tests.{lt-ltb, le-ltb}
use Rattle.std.specs.Prelude.{Result, Ok, Err}
use Rattle.ieee.specs.Format.{Format}
use Rattle.ieee.specs.Refusal.{done}
use Rattle.fmt_fields.specs.declared.refusal.Refusal.{Refusal}
use Rattle.fmt_fields.specs.declared.refusal.Refusal.TheVariants.{NoRoom}
use Rattle.ieee_numeral_laws.specs.Write.{write_by, text_of, write_of}
use Rattle.hex_write.specs.Wrote.{putting, Wrote}

module _ (t out : List ℕ) where
  pub refused : length out < length t → Wrote (putting t out) out (Err NoRoom)
  unfolding putting write_by
  refused l = simp (lt-ltb _ _ l) (refl, refl)

  pub written : {out' : List ℕ} {n : ℕ} → length t ≤ length out → out' ≡ t ++ drop (length t) out → n ≡ length t → Wrote (putting t out) out' (Ok n)
  unfolding putting write_by
  written l e i = simp (le-ltb _ _ l) (ap done i, e)

-- the same text
pub wrote_as : (out : List ℕ) {s t out' : List ℕ} (r : Result ℕ Refusal) → s ≡ t → Wrote (putting s out) out' r → Wrote (putting t out) out' r
wrote_as out {out' = out'} r e w = subst (λ (l : List ℕ). Wrote (putting l out) out' r) e w

-- the text of a pattern
pub wrote_text : (f : Format) (x : ℕ) (out : List ℕ) {t out' : List ℕ} (r : Result ℕ Refusal) → t ≡ text_of f x → Wrote (putting t out) out' r → Wrote (write_of f x out) out' r
unfolding putting write_of
wrote_text f x out r e w = wrote_as out r e w
