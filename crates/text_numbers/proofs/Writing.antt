-- Laws of writing digits, from the last to the first. Assumes nothing.
use mathlib.Core.Path.{◌≡◌, sym}
use mathlib.Core.List.{List, [], ◌∷◌, ◌++◌, append_assoc, append-nil}
use Prim.Native.Nat.{ℕ, zero, suc, ◌-◌, ◌/◌, ◌%◌, ◌≤◌, ◌<◌}
use native.Mathlib.Omega.{arith}
use lib.ListN.{length, drop, take, set}
use lib.Seq.{drop-length, set_split, drop_at, length-take-le}
use Rattle.text_numbers.specs.Digits.{glyph_of, digits_of}

-- a store at j is the first element from j on
drop_store : (out : List ℕ) (j a : ℕ) → j < length out → drop j (set out j a) ≡ a ∷ drop (suc j) out
drop_store out j a l = rw (set_split out j a l) (drop_at (take j out) (a ∷ drop (suc j) out) j (length-take-le j out (omega arith)))

-- g, the last digit still to be written, goes before those already written
pub write_digit : (b rest : ℕ) (out : List ℕ) (i g : ℕ) → g ≡ glyph_of (rest % b) → 0 < i → i ≤ length out
    → digits_of b i rest ++ drop i out ≡ digits_of b (i - 1) (rest / b) ++ drop (i - 1) (set out (i - 1) g)
unfolding digits_of
write_digit b rest out zero g is p l = absurd (omega arith)
write_digit b rest out (suc j) g is p l =
    let e : suc j - 1 ≡ j = omega arith in
    rw (e, is, drop_store out j (glyph_of (rest % b)) (omega arith)) (append_assoc (digits_of b j (rest / b)) (glyph_of (rest % b) ∷ []) (drop (suc j) out))

-- before the first: all are still to be written
pub none_written : (b n : ℕ) (out : List ℕ) → digits_of b (length out) n ≡ digits_of b (length out) n ++ drop (length out) out
none_written b n out = rw drop-length (sym (append-nil (digits_of b (length out) n)))

-- after the last: none is
pub all_written : (b rest : ℕ) (out : List ℕ) (i : ℕ) → i ≡ 0 → digits_of b i rest ++ drop i out ≡ out
unfolding digits_of
all_written b rest out i e = rw e
