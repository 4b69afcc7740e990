-- A limit above every range changes no number within a range, and a number out of range stays so. Assumes nothing.
use mathlib.Core.Path.{◌≡◌, refl, ap, ◌∙◌}
use Prim.Native.Nat.{ℕ, ◌<◌, min}
use native.Mathlib.Omega.{arith}
use borrow.Author.Tests.{lt-ltb, ne_eqb}
use Rattle.algebra.proofs.Products.{order}
use Rattle.std.specs.Prelude.{Result, Ok, Err}
use Rattle.text_numbers.specs.declared.read.Fault.{Fault}
use Rattle.text_numbers.specs.Fields.{capped_field, up_to, plus_of, minus_of}

-- a function that is constant above the limit has that value at the limit
cap_any : {A : Type 0} (g : Result ℕ Fault → A) (m : ℕ) → ((v : ℕ) → m < v → g (Ok m) ≡ g (Ok v)) → (f : Result ℕ Fault) → g (capped_field m f) ≡ g f
cap_any g m above (Ok v) =
    order v m
    (λ l. let e : min v m ≡ v = omega arith in ap (λ (n : ℕ). g (Ok n)) e)
    (λ l. let e : min v m ≡ m = omega arith in ap (λ (n : ℕ). g (Ok n)) e ∙ above v l)
cap_any g m above (Err f) = refl

pub up_cap : (f : Result ℕ Fault) → up_to 4294967295 (capped_field 4294967296 f) ≡ up_to 4294967295 f
up_cap = cap_any (up_to 4294967295) 4294967296 (λ v l. simp (lt-ltb 4294967295 v (omega arith)))

pub plus_cap : (f : Result ℕ Fault) → plus_of (capped_field 4294967296 f) ≡ plus_of f
plus_cap = cap_any plus_of 4294967296 (λ v l. simp (lt-ltb 2147483647 v (omega arith)))

pub minus_cap : (f : Result ℕ Fault) → minus_of (capped_field 4294967296 f) ≡ minus_of f
minus_cap = cap_any minus_of 4294967296 (λ v l. simp (ne_eqb v 0 (λ z. absurd (omega arith)), lt-ltb 2147483648 v (omega arith)))
