-- The radicand by the table: what its root requires, and what the root and its residual make. Assumes nothing.
use Prim.Native.Nat.{ℕ, ◌+◌, ◌-◌, ◌*◌, ◌/◌, ◌%◌, ◌^◌, ◌≤◌}
use mathlib.Core.Path.{◌≡◌, refl, subst, sym, ap, ◌∙◌}
use mathlib.Core.Bool.{Bool, true, false, not, ◌&&◌, cond}
use native.Mathlib.Omega.{arith}
use lib.Dec.{ltb}
use lib.Pow.{pow-add, pow_pos}
use Rattle.algebra.proofs.Products.{times_le}
use Rattle.ieee.specs.Flags.{Flags, only_inexact}
use Rattle.ieee.specs.Format.{Format}
use Rattle.ieee.specs.Pattern.{Pattern}
use Rattle.ieee.specs.Round.{Way, even, away, shorter, longer}
use Rattle.sqrt_digits.specs.Floor.{pairs}
use Rattle.sqrt_table.specs.Table.{entry_of, Serves}
use Rattle.sqrt_table.specs.Guess.{Starts}
use Rattle.sqrt_table.specs.Residual.{Residual, exact_by}
use Rattle.sqrt_number.specs.Split.{word_of, limit_by, rises_by, whole_by, rounded_by, Ready, Room, RaisedRoot}
use Rattle.sqrt_number.proofs.Splits.{word_high, word_root, word_empty}

-- ---- the whole number that a way takes, as it is computed
at_most_one : (b : Bool) → cond b 1 0 ≤ 1
at_most_one true = omega arith
at_most_one false = omega arith

unless : (b : Bool) → ◌≡◌ {A = ℕ} (cond (not b) 1 0) (cond b 0 1)
unless true = refl
unless false = refl

pub whole_is : (w : Way) (q rem : ℕ) → q + cond (ltb (limit_by w q) rem) 1 0 + cond (rises_by w && not (exact_by q rem)) 1 0 ≡ whole_by w q rem
whole_is even q rem = omega arith
whole_is away q rem = omega arith
whole_is shorter q rem = omega arith
whole_is longer q rem = omega (arith, unless (exact_by q rem))

-- it makes a pattern without a sign
module _ (f : Format) (q up : ℕ) (n : Room f q up) where
  most_room : (up / 2 - 2) * 2 ^ f.frac + (q + 2) ≤ 2 ^ (f.frac + f.expo)
  most_room =
      let l : up / 2 - 2 + 3 ≤ 2 ^ f.expo = omega (arith, n.from, n.to) in
      omega (arith, n.most, times_le (2 ^ f.frac) l, pow-add 2 f.frac f.expo, pow_pos f.frac)

  pub rounded_room : (w : Way) (rem : ℕ) → rounded_by w f.frac q rem up ≤ 2 ^ (f.frac + f.expo)
  rounded_room w rem =
      omega (arith, whole_is w q rem, at_most_one (ltb (limit_by w q) rem), at_most_one (rises_by w && not (exact_by q rem)), most_room)

-- ---- the radicand as the code has it, by a format k that is the layout f of a word
module _ {f k : Format} (e : k ≡ f) (sig up : ℕ) (r : Ready f sig up) (word : ℕ) (is : word ≡ word_of k.frac sig up) where
  word_is : word ≡ word_of f.frac sig up
  word_is = is ∙ ap (λ (k : Format). word_of k.frac sig up) e

  -- what the rounds require
  pub long : 2 ^ 62 ≤ word
  long = subst (λ m. 2 ^ 62 ≤ m) (sym word_is) (word_high f.frac sig up r.leads)

  pub empty : word % 2 ^ (62 - f.frac) ≡ 0
  empty = subst (λ m. m % 2 ^ (62 - f.frac) ≡ 0) (sym word_is) (word_empty f.frac sig up r.leads)

  pub begun : (i guess : ℕ) → Serves i (word_of k.frac sig up / 2 ^ 32) → guess ≡ entry_of i * 2 ^ 16 → (2 ^ 62 ≤ word) × Starts (word / 2 ^ 32) guess
  begun i guess s e = (long, record { step = i; serves = subst (λ m. Serves i (m / 2 ^ 32)) (sym is) s; is = e })

  module _ (q rem : ℕ) (c : Residual (pairs word (f.frac + 1)) q rem) where
    pub close : Residual (pairs (word_of f.frac sig up) (f.frac + 1)) q rem
    close = subst (λ m. Residual (pairs m (f.frac + 1)) q rem) word_is c

    room_by : Room f q up
    room_by = record { most = word_root f.frac sig up r.leads q (omega (arith, close.sum)); from = r.from; to = r.to }

    pub room : Room k q up
    room = subst (λ f. Room f q up) (sym e) room_by

    -- the number is a pattern of the word, and the root that is wanted
    module _ (w : Way) (y : ℕ) (i : y ≡ rounded_by w k.frac q rem up) where
      y_is : y ≡ rounded_by w f.frac q rem up
      y_is = i ∙ ap (λ (k : Format). rounded_by w k.frac q rem up) e

      pub held : Pattern f y
      held = omega (arith, y_is, rounded_room f q up room_by w rem, pow_pos (f.frac + f.expo))

      pub raised_root : (F : Flags) → F ≡ only_inexact (not (exact_by q rem)) → RaisedRoot w f.frac sig up y F
      raised_root F o = record { rounded = record { root = q; rem = rem; residual = close; is = y_is }; raises = o }
