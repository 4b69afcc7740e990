-- An attribute by its number, and the answers of the code as those of the definitions. Assumes nothing.
use Rattle.std.specs.Prelude.{◌≡◌, ℕ, ◌≤◌, Result, Ok, Err, MatchResult}
use Rattle.ieee.specs.Flags.{Flags, none}
use Rattle.ieee.specs.Round as ieee
use Rattle.ieee.specs.Rounded.{Rounded, attributes, numbered}
use Rattle.fmt_fields.specs.Raised.{attribute_of}
use Rattle.fmt_fields.specs.Refused.{refusal_number}
use Rattle.fmt_fields.specs.declared.env.Flagged.{Flagged}
use Rattle.fmt_fields.specs.declared.attribute.Attribute.{Attribute}
use Rattle.fmt_fields.specs.declared.refusal.Refusal.{Refusal}
use Rattle.fmt_fields.specs.declared.refusal.Refusal.TheVariants.{NoAttribute}

-- n is the number of a: every call by it is the call under a
abbrev pub Names : ℕ → ieee.Attribute → Type 0
Names n a = (call : ieee.Attribute → Rounded) → numbered attributes n call ≡ call a

-- the attribute of a number, or the refusal of one that no attribute has
abbrev pub Decodes : ℕ → Result Attribute Refusal → Type 0
Decodes n r = MatchResult r (λ a. Names n (attribute_of a)) (λ e. (e ≡ NoAttribute) × (5 ≤ n))

-- a call under an attribute by its number: the value, by the number that it stands for, with the flags, or the refusal
abbrev pub rounded_of : {W F : Type 0} → (W → ℕ) → (F → Flags) → Result (Flagged W F) Refusal → Rounded
rounded_of value flags (Ok r) = record { number = 0; value = value r.value; flags = flags r.flags }
rounded_of value flags (Err e) = record { number = refusal_number e; value = 0; flags = none }
