-- A positive number split for its root: an exponent to be halved, and a radicand. Assumes nothing.
use Rattle.std.specs.Prelude.{ℕ, ◌+◌, ◌-◌, ◌*◌, ◌/◌, ◌%◌, ◌^◌, ◌≤◌, ◌<◌, ◌≡◌, Bool, true, false, not, cond, ℤ, pos, ◌+ℤ◌, ◌-ℤ◌}
use Rattle.ieee.specs.Format.{Format, inf}
use Rattle.ieee.specs.Pattern.{magnitude, minus}
use Rattle.ieee.specs.Flags.{Flags, only_inexact}
use Rattle.ieee.specs.Round.{Way, even, away, shorter, longer}
use Rattle.fmt_decode.specs.Significand.{sig_of, exp_of}
use Rattle.sqrt_digits.specs.Floor.{pairs}
use Rattle.sqrt_table.specs.Residual.{Residual, floor_by, nearest_by, exact_by}

-- added to an exponent, to keep it from being negative
abbrev pub lift : Format → ℕ
lift f = 2 ^ f.expo + f.frac

-- the radicand: where the exponent is odd, the significand takes one factor of two. Its root has frac + 2 bits
abbrev pub square : Format → ℕ → ℕ → ℕ
square f x up = sig_of f x * 2 ^ (f.frac + 2 + up % 2)

-- the exponent of the root in smallest units, where the mark is one bit more
abbrev pub half_of : ℕ → ℤ
half_of up = pos (up / 2) -ℤ pos 4

-- the root with its sticky mark: a last bit that is set where the root is not exact
abbrev pub marked_by : ℕ → Bool → ℕ
marked_by root exact = 2 * root + cond exact 0 1

-- x is a finite positive number
pub record Above (f : Format) (x : ℕ) : Type 0 where
  pub some : 0 < magnitude f x
  pub below : magnitude f x < inf f
  pub plus : minus f x ≡ false

-- its significand and its lifted exponent
pub record Parts (f : Format) (x sig up : ℕ) : Type 0 where
  pub sig_is : sig ≡ sig_of f x
  pub up_is : pos up ≡ exp_of f x +ℤ pos (lift f)

-- sig has its leading bit at bit p
pub record Leads (p sig : ℕ) : Type 0 where
  pub least : 2 ^ p ≤ sig
  pub most : sig < 2 * 2 ^ p
  pub few : p ≤ 58

-- the word that holds the radicand's leading bits
abbrev pub word_of : ℕ → ℕ → ℕ → ℕ
word_of p sig up = sig * 2 ^ (62 - p + up % 2)

-- ---- by the table
-- which whole number a way takes of a root: of the root rounded down, the whole number nearest to it and whether it is exact; there is no tie
abbrev pub taken_by : Way → ℕ → ℕ → Bool → ℕ
taken_by even floor nearest exact = nearest
taken_by away floor nearest exact = nearest
taken_by shorter floor nearest exact = floor
taken_by longer floor nearest exact = floor + cond exact 0 1

-- the same by a whole number next to the root, and its residual
abbrev pub whole_by : Way → ℕ → ℕ → ℕ
whole_by w root rem = taken_by w (floor_by root rem) (nearest_by root rem) (exact_by root rem)

-- the residual past which a way takes the next number, and whether it goes up from a root rounded down that is not exact
abbrev pub limit_by : Way → ℕ → ℕ
limit_by even root = root
limit_by away root = root
limit_by shorter root = 2 * root
limit_by longer root = 2 * root

abbrev pub rises_by : Way → Bool
rises_by even = false
rises_by away = false
rises_by shorter = false
rises_by longer = true

-- the whole number as a normal one, at the lifted exponent
abbrev pub rounded_by : Way → ℕ → ℕ → ℕ → ℕ → ℕ
rounded_by w p root rem up = (up / 2 - 2) * 2 ^ p + whole_by w root rem

-- what the table requires of a format: a step has six bits, and the fraction leaves room below the bias
pub record Tabled (f : Format) : Type 0 where
  pub six : 6 ≤ f.frac
  pub below : f.frac + 2 ≤ 2 ^ (f.expo - 1)

-- and of the parts
pub record Ready (f : Format) (sig up : ℕ) : Type 0 where
  pub leads : Leads f.frac sig
  pub from : 4 ≤ up
  pub to : up / 2 < 2 ^ f.expo

-- and of the root, so that the number fits in a word
pub record Room (f : Format) (root up : ℕ) : Type 0 where
  pub most : root < 2 * 2 ^ f.frac
  pub from : 4 ≤ up
  pub to : up / 2 < 2 ^ f.expo

-- r is the root of sig at the lifted exponent up, rounded by a way
pub record RoundedRoot (w : Way) (p sig up r : ℕ) : Type 0 where
  pub root : ℕ
  pub rem : ℕ
  pub residual : Residual (pairs (word_of p sig up) (p + 1)) root rem
  pub is : r ≡ rounded_by w p root rem up

-- the same with its flags F: inexact, or none where the root is exact
pub record RaisedRoot (w : Way) (p sig up r : ℕ) (F : Flags) : Type 0 where
  pub rounded : RoundedRoot w p sig up r
  pub raises : F ≡ only_inexact (not (exact_by rounded.root rounded.rem))
