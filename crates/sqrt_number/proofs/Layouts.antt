-- The parts of a number by a format of the code, and what the table makes of them at the layout of a word. Assumes nothing.
use Rattle.std.proofs.Common.{◌≡◌, ℕ, false, subst}
use Rattle.ieee.specs.Format.{Format}
use Rattle.ieee.specs.Flags.{Flags}
use Rattle.ieee.specs.Round.{even, Attribute, way_of}
use Rattle.ieee.specs.Sqrt.{sqrt_in, sqrt_of, sqrt_flags_in}
use Rattle.fmt_fields.specs.Width.{format, Fits}
use Rattle.sqrt_number.specs.Split.{Above, Parts, Ready, RoundedRoot, RaisedRoot, Tabled}
use Rattle.sqrt_number.proofs.Halves.{ready, nearest_answers}
use Rattle.sqrt_number.proofs.RootFlags.{root_row}

module _ {p e : ℕ} (w : Fits p e) (x sig up : ℕ) (h : Parts (format p e) x sig up) {f : Format} (is : format p e ≡ f) where
  pub table_ready : Tabled f → Above f x → Ready f sig up
  table_ready = subst (λ f. Tabled f → Above f x → Ready f sig up) is (λ t a. ready w x a sig up h t.below)

  abbrev Rows : Format → Type 0
  Rows f = (g : Attribute) (y : ℕ) (F : Flags) → RaisedRoot (way_of g false) f.frac sig up y F → (y ≡ sqrt_in f g x) × (F ≡ sqrt_flags_in f g x)

  pub table_row : Tabled f → Above f x → (g : Attribute) (y : ℕ) (F : Flags) → RaisedRoot (way_of g false) f.frac sig up y F → (y ≡ sqrt_in f g x) × (F ≡ sqrt_flags_in f g x)
  table_row =
      subst (λ f. Tabled f → Above f x → Rows f) is
      (λ t a g y F r. root_row w x a sig up h t.below r.rounded.root r.rounded.rem r.rounded.residual g (r.rounded.is, r.raises))

  pub nearest_row : Tabled f → Above f x → (y : ℕ) → RoundedRoot even f.frac sig up y → y ≡ sqrt_of f x
  nearest_row =
      subst (λ f. Tabled f → Above f x → (y : ℕ) → RoundedRoot even f.frac sig up y → y ≡ sqrt_of f x) is
      (λ t a y r. nearest_answers w x a sig up h t.below y r)
