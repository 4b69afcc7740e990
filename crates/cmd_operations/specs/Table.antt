-- The operations by name: what each takes and gives, and the definition that answers it. Assumes nothing.
use Rattle.std.specs.Prelude.{ℕ, ◌%◌, cond, List, [], ◌∷◌, ℤ, pos, ◌==◌, map, take, drop, slice_index_or, Option, Some, None, option_map}
use Prim.Native.String.{String}
use Rattle.ieee.specs.Format.{b64, b32}
use Rattle.ieee.specs.Flags.{Flags, flag_word}
use Rattle.ieee.specs.Fma.{fma_of, fma_flags}
use Rattle.ieee.specs.Fmod.{fmod_of}
use Rattle.ieee.specs.Frexp.{frexp_of, frexp_exponent, ilogb_of}
use Rattle.ieee.specs.Modf.{modf_of, modf_whole}
use Rattle.ieee.specs.Nextafter.{nextafter_of}
use Rattle.ieee.specs.Reduction.{reduce_of}
use Rattle.ieee.specs.Refusal.{number_of, value_of}
use Rattle.ieee.specs.Remquo.{remquo_of, quotient_of}
use Rattle.ieee.specs.Rounded.{Rounded, sqrt_rounded, fma_rounded, scalbn_rounded}
use Rattle.ieee.specs.Scalbn.{scalbn_of, scalbn_flags}
use Rattle.ieee.specs.Sqrt.{sqrt_of, sqrt_flags}
use Rattle.ieee.specs.Whole.{trunc_of, trunc_flags, floor_of, floor_flags, ceil_of, ceil_flags}
use Rattle.cmd_operations.specs.declared.answers.Answers.{Answers}
use Rattle.cmd_operations.specs.declared.request.Operands.{Operands}
use Rattle.cmd_operations.specs.declared.table.Kind.{Kind}
use Rattle.cmd_operations.specs.declared.table.Kind.TheVariants.{Word64, Word32, Signed, Unsigned, Flags as FlagsKind, Text}
use Rattle.cmd_operations.specs.declared.table.Row.{Row}
use Rattle.cmd_operations.specs.Naming.{bytes_of, Named, row_in}

-- answers by their index, flags by their bits; a signed number after a word, which is 0 where it has none before it
abbrev pub three : ℕ → ℕ → ℕ → Answers
three x y z = record { x = x; y = y; z = z; n = pos 0 }

abbrev pub two : ℕ → ℕ → Answers
two x y = three x y 0

abbrev pub one : ℕ → Answers
one x = two x 0

abbrev pub flagged : ℕ → Flags → Answers
flagged x F = two x (flag_word F)

abbrev pub rounded : Rounded → Answers
rounded r = three r.number r.value (flag_word r.flags)

abbrev pub signed : ℕ → ℤ → Answers
signed x n = record { x = x; y = 0; z = 0; n = n }

-- an operand as a word of 32 bits
abbrev pub low : ℕ → ℕ
low x = x % 4294967296

-- a kind by its letter, and nothing for a dash: W, w, N, U, F and T
abbrev pub kind_of : ℕ → Option Kind
kind_of c =
    cond (c == 87) (Some Word64)
    (cond (c == 119) (Some Word32)
    (cond (c == 78) (Some Signed)
    (cond (c == 85) (Some Unsigned)
    (cond (c == 70) (Some FlagsKind)
    (cond (c == 84) (Some Text) None)))))

-- a name, with the kinds of three operands, a blank, and those of three answers
abbrev pub named : String → String → Named
named name kinds = record {
  name = bytes_of name;
  operands = map kind_of (take 3 (bytes_of kinds));
  answers = map kind_of (drop 4 (bytes_of kinds));
}

pub record Operation : Type 0 where
  pub row : Named
  pub answers : Operands → Answers

abbrev pub operation : String → String → (Operands → Answers) → Operation
operation name kinds answers = record { row = named name kinds; answers = answers }

-- in the order of their numbers; crates/cmd_operations/src/table.rt explains the kinds
abbrev pub operations : List Operation
operations =
    operation "floor64" "W-- WF-" (λ a. flagged (floor_of b64 a.x) (floor_flags b64 a.x))
    ∷ operation "floor32" "w-- wF-" (λ a. flagged (floor_of b32 (low a.x)) (floor_flags b32 (low a.x)))
    ∷ operation "trunc64" "W-- WF-" (λ a. flagged (trunc_of b64 a.x) (trunc_flags b64 a.x))
    ∷ operation "trunc32" "w-- wF-" (λ a. flagged (trunc_of b32 (low a.x)) (trunc_flags b32 (low a.x)))
    ∷ operation "scalbn64" "WN- WF-" (λ a. flagged (scalbn_of b64 a.x a.n) (scalbn_flags b64 a.x a.n))
    ∷ operation "scalbn32" "wN- wF-" (λ a. flagged (scalbn_of b32 (low a.x) a.n) (scalbn_flags b32 (low a.x) a.n))
    ∷ operation "fmod64" "WW- W--" (λ a. one (fmod_of b64 a.x a.y))
    ∷ operation "fmod32" "ww- w--" (λ a. one (fmod_of b32 (low a.x) (low a.y)))
    ∷ operation "remquo64" "WW- WN-" (λ a. signed (remquo_of b64 a.x a.y) (quotient_of b64 a.x a.y))
    ∷ operation "reduce64" "WUW UW-" (λ a. two (number_of (reduce_of 64 a.x (low a.y) a.z)) (value_of (reduce_of 64 a.x (low a.y) a.z)))
    ∷ operation "reduce32" "wUw Uw-" (λ a. two (number_of (reduce_of 32 (low a.x) (low a.y) (low a.z))) (value_of (reduce_of 32 (low a.x) (low a.y) (low a.z))))
    ∷ operation "sqrt64" "W-- WF-" (λ a. flagged (sqrt_of b64 a.x) (sqrt_flags b64 a.x))
    ∷ operation "sqrt32" "w-- wF-" (λ a. flagged (sqrt_of b32 (low a.x)) (sqrt_flags b32 (low a.x)))
    ∷ operation "fma64" "WWW WF-" (λ a. flagged (fma_of b64 a.x a.y a.z) (fma_flags b64 a.x a.y a.z))
    ∷ operation "fma32" "www wF-" (λ a. flagged (fma_of b32 (low a.x) (low a.y) (low a.z)) (fma_flags b32 (low a.x) (low a.y) (low a.z)))
    ∷ operation "ceil64" "W-- WF-" (λ a. flagged (ceil_of b64 a.x) (ceil_flags b64 a.x))
    ∷ operation "ceil32" "w-- wF-" (λ a. flagged (ceil_of b32 (low a.x)) (ceil_flags b32 (low a.x)))
    ∷ operation "modf64" "W-- WW-" (λ a. two (modf_of b64 a.x) (modf_whole b64 a.x))
    ∷ operation "modf32" "w-- ww-" (λ a. two (modf_of b32 (low a.x)) (modf_whole b32 (low a.x)))
    ∷ operation "frexp64" "W-- WN-" (λ a. signed (frexp_of b64 a.x) (frexp_exponent b64 a.x))
    ∷ operation "frexp32" "w-- wN-" (λ a. signed (frexp_of b32 (low a.x)) (frexp_exponent b32 (low a.x)))
    ∷ operation "ilogb64" "W-- N--" (λ a. signed 0 (ilogb_of b64 a.x))
    ∷ operation "ilogb32" "w-- N--" (λ a. signed 0 (ilogb_of b32 (low a.x)))
    ∷ operation "nextafter64" "WW- W--" (λ a. one (nextafter_of b64 a.x a.y))
    ∷ operation "nextafter32" "ww- w--" (λ a. one (nextafter_of b32 (low a.x) (low a.y)))
    ∷ operation "sqrt64." "W-- UWF" (λ a. rounded (sqrt_rounded b64 (low a.attribute) a.x))
    ∷ operation "sqrt32." "w-- UwF" (λ a. rounded (sqrt_rounded b32 (low a.attribute) (low a.x)))
    ∷ operation "fma64." "WWW UWF" (λ a. rounded (fma_rounded b64 (low a.attribute) a.x a.y a.z))
    ∷ operation "fma32." "www UwF" (λ a. rounded (fma_rounded b32 (low a.attribute) (low a.x) (low a.y) (low a.z)))
    ∷ operation "scalbn64." "WN- UWF" (λ a. rounded (scalbn_rounded b64 (low a.attribute) a.x a.n))
    ∷ operation "scalbn32." "wN- UwF" (λ a. rounded (scalbn_rounded b32 (low a.attribute) (low a.x) a.n))
    ∷ []

abbrev pub rows_of : List Operation → List Named
rows_of [] = []
rows_of (o ∷ os) = o.row ∷ rows_of os

-- the row of the operation that s names
unfoldable pub row_of : List ℕ → Option Row
row_of s = row_in s (rows_of operations) 0

abbrev pub unnamed : Operation
unnamed = operation "" "" (λ a. two 0 0)

-- the answers of the operation of that number for the operands; for any other number, nothing
unfoldable pub answers_of : ℕ → Operands → Answers
answers_of number a = (slice_index_or operations number unnamed).answers a

-- the attributes of rounding, by name and number as in docs/LINES.md
abbrev pub attributes : List Named
attributes = attribute "even" ∷ attribute "zero" ∷ attribute "down" ∷ attribute "up" ∷ attribute "away" ∷ []
  where
    attribute : String → Named
    attribute s = record { name = bytes_of s; operands = []; answers = [] }

unfoldable pub attribute_of : List ℕ → Option ℕ
attribute_of s = option_map (λ (r : Row). r.number) (row_in s attributes 0)
