-- An attribute by its number: the calls that are done, and those that are refused. Assumes nothing.
use Rattle.std.proofs.Common.{◌≡◌, ℕ, zero, suc, ◌≤◌, sym, refl, ◌∙◌, arith}
use Rattle.ieee.specs.Round.{Attribute}
use Rattle.ieee.specs.Flags.{Flags}
use Rattle.ieee.specs.Rounded.{Rounded, answered, no_attribute, attributes, numbered}
use Rattle.fmt_fields.specs.Numbered.{Names}

-- ---- a call that is done has the value and the flags of its attribute
pub by_attribute : (n : ℕ) {a : Attribute} → Names n a → (R : Attribute → ℕ) (F : Attribute → Flags) {r : Rounded} {v : ℕ} {G : Flags}
    → r ≡ answered v G → (v ≡ R a) × (G ≡ F a) → r ≡ numbered attributes n (λ b. answered (R b) (F b))
by_attribute n h R F e (i, j) = e ∙ (λ k. answered (i k) (j k)) ∙ sym (h (λ b. answered (R b) (F b)))

-- ---- any other number is refused
pub refused : (n : ℕ) → 5 ≤ n → (call : Attribute → Rounded) {r : Rounded} → r ≡ no_attribute → r ≡ numbered attributes n call
refused n l call e = e ∙ sym (other n l)
  where
    other : (n : ℕ) → 5 ≤ n → numbered attributes n call ≡ no_attribute
    other (suc (suc (suc (suc (suc n))))) l = refl
    other zero l = absurd (omega arith)
    other (suc zero) l = absurd (omega arith)
    other (suc (suc zero)) l = absurd (omega arith)
    other (suc (suc (suc zero))) l = absurd (omega arith)
    other (suc (suc (suc (suc zero)))) l = absurd (omega arith)
