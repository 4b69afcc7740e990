-- The root rounded by a way is one, whatever whole number next to it the table gave. Assumes nothing.
use Prim.Native.Nat.{ℕ, ◌+◌, ◌-◌, ◌*◌, ◌/◌, ◌^◌}
use mathlib.Core.Path.{◌≡◌, sym, ap, ◌∙◌}
use mathlib.Core.Bool.{not}
use Rattle.ieee.specs.Flags.{Flags, only_inexact}
use Rattle.ieee.specs.Round.{Way}
use Rattle.sqrt_digits.specs.Floor.{pairs}
use Rattle.sqrt_table.proofs.Wholes.{whole, whole_one}
use Rattle.sqrt_number.specs.Split.{word_of, taken_by, RoundedRoot, RaisedRoot}

pub rounded_unique : (w : Way) (p sig up r s : ℕ) → RoundedRoot w p sig up r → RoundedRoot w p sig up s → r ≡ s
rounded_unique w p sig up r s a b =
    let n = pairs (word_of p sig up) (p + 1) in
    let (i, j, k) = whole_one (whole n a.root a.rem a.residual) (whole n b.root b.rem b.residual) in
    a.is ∙ (λ d. (up / 2 - 2) * 2 ^ p + taken_by w (i d) (j d) (k d)) ∙ sym b.is

-- and so are its flags
pub raised_unique : (w : Way) (p sig up r s : ℕ) (F G : Flags) → RaisedRoot w p sig up r F → RaisedRoot w p sig up s G → (r ≡ s) × (F ≡ G)
raised_unique w p sig up r s F G a b =
    let n = pairs (word_of p sig up) (p + 1) in
    let (i, j, k) = whole_one (whole n a.rounded.root a.rounded.rem a.rounded.residual) (whole n b.rounded.root b.rounded.rem b.rounded.residual) in
    (rounded_unique w p sig up r s a.rounded b.rounded, a.raises ∙ ap (λ b. only_inexact (not b)) k ∙ sym b.raises)
