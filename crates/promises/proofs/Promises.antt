-- The promise, theorem by theorem, in reading order; each cites its proof. Assumes nothing.
--
-- A heading is a demand, in the words of README.md. A theorem is about definitions of crates/ieee/specs, or crates/ieee_numeral_laws/specs for numerals, over every fair format, and what its statement is made of
-- stands in a specs folder. The line "code" above it says of which functions it speaks; tests/theorems holds these lines to the sources.
--   code: NAMES         it settles what these functions answer: their contracts are equations with definitions that it names, at 64 and 32 bits. Each function of the
--                       library's face, C functions included, stands in one such line alone; CRATE::NAME is a function inside the library.
--   code: as THEOREMS   it says more of the definitions that those theorems settle, and so of their functions.
--   code: none, WHY     it speaks of no function.
-- The first two may stand in one line, names first.
use Prim.Native.Nat.{ℕ, suc, ◌+◌, ◌-◌, ◌*◌, ◌^◌, ◌≤◌, ◌<◌}
use mathlib.Core.Path.{◌≡◌, sym, ap, ◌∙◌, subst}
use mathlib.Core.Logic.{◌↔◌}
use mathlib.Core.Bool.{Bool, true, false}
use mathlib.Core.List.{List}
use native.Mathlib.Omega.{arith}
use lib.Dec.{eqb, lit≤, lit<}
use lib.IntN.{ℤ, pos, ◌+ℤ◌}
use lib.ListN.{length, take}
use lib.Ieee.{binary64, binary32}
use Rattle.ieee.specs.Format.{Format, b64, b32, b16, inf, canonical, units, Fair}
use Rattle.ieee.specs.Pattern.{Pattern, minus, magnitude, value, nan, finite, kind}
use Rattle.ieee.specs.Exact.{Value, absolute}
use Rattle.ieee.specs.Round.{Way, Attribute, ties_to_even, toward_zero, toward_positive, toward_negative, answer}
use Rattle.ieee.specs.Rule.{Ties, to_even, ties_attribute, Once, RuleIn}
use Rattle.ieee.specs.Flags.{Flags, signals, raised}
use Rattle.ieee.specs.Only.{Only, OnlyFlags}
use Rattle.ieee.specs.FlagsRule.{Exactly, FlagsRule, Clean, Unbounded}
use Rattle.ieee.specs.FlagRows.{SqrtFlagRows, FmaFlagRows, ScalbnFlagRows, WholeFlagRows}
use Rattle.ieee.specs.Invalid.{SqrtInvalid, FmaInvalid}
use Rattle.ieee.specs.Band.{Band}
use Rattle.ieee.specs.Rounded.{Rounded, answered, attribute_number, sqrt_rounded, fma_rounded, scalbn_rounded, ByNumber}
use Rattle.ieee.specs.Sqrt.{sqrt_of, sqrt_flags, sqrt_in, sqrt_flags_in, exact_sqrt}
use Rattle.ieee.specs.SqrtRows.{SqrtRows}
use Rattle.ieee.specs.Fma.{fma_of, fma_flags, fma_in, fma_flags_in, exact_fma, zero_sign}
use Rattle.ieee.specs.FmaRows.{FmaRows}
use Rattle.ieee.specs.Scalbn.{scalbn_of, scalbn_flags, scalbn_in, scalbn_flags_in, exact_scalbn}
use Rattle.ieee.specs.ScalbnRows.{ScalbnRows}
use Rattle.ieee.specs.Whole.{trunc_of, trunc_flags, floor_of, floor_flags, ceil_of, ceil_flags}
use Rattle.ieee.specs.WholeRule.{Truncated, Floored, Ceiled, WholeRows, FloorRows, CeilRows}
use Rattle.ieee.specs.Modf.{modf_of, modf_whole}
use Rattle.ieee.specs.ModfRule.{Parted, ModfRows}
use Rattle.ieee.specs.Frexp.{ilogb_of, frexp_of, frexp_exponent}
use Rattle.ieee.specs.FrexpRule.{Leads, Broken, IlogbRows, FrexpRows}
use Rattle.ieee.specs.Nextafter.{nextafter_of}
use Rattle.ieee.specs.NextafterRule.{Ordered, Next, NextafterRows}
use Rattle.ieee.specs.Fmod.{fmod_of}
use Rattle.ieee.specs.FmodRule.{Left, FmodRows}
use Rattle.ieee.specs.Remquo.{remquo_of, quotient_of}
use Rattle.ieee.specs.RemquoRule.{NearestLeft, RemquoRows}
use Rattle.ieee.specs.Refusal.{Refusal, given, Answer, done, number_of, value_of}
use Rattle.ieee.specs.RefusalRule.{First, None, Absent}
use Rattle.ieee.specs.Reduction.{reduce_of}
use Rattle.ieee.specs.ReductionRule.{ReducedAs}
use Rattle.ieee.specs.Lists.{list_limit, Listed, list_of}
use Rattle.ieee.specs.ListRule.{ListedAs}
use Rattle.ieee.specs.Numbers.{Numbers64, Numbers32, FlagNumbers, Ends, Limits}
use Rattle.ieee.specs.Cases.{Cases}
use Rattle.ieee.specs.FlagCases.{FlagCases}
use Rattle.ieee.specs.PartCases.{PartCases}
use Rattle.ieee.specs.Lazy.{Lazy64, Lazy32}
use Rattle.ieee.proofs.Formats.{fair64, fair32, numbers64, numbers32, flag_numbers, ends, limits}
use Rattle.ieee.proofs.Patterns.{finite_is}
use Rattle.ieee.proofs.Refusals.{given_first, given_none}
use Rattle.ieee.proofs.Answers.{once_unique}
use Rattle.ieee.proofs.Attributes.{answer_met_unique}
use Rattle.ieee.proofs.Raised.{nearest_overflow, rule_one}
use Rattle.ieee.proofs.Unbounded.{unbounded}
use Rattle.ieee.proofs.Signals.{signalling}
use Rattle.ieee.proofs.Sqrts.{sqrt_once, sqrt_met, sqrt_rows, rooted_not_below}
use Rattle.ieee.proofs.SqrtFlags.{sqrt_flags_rule, sqrt_flag_rows, sqrt_clean, sqrt_no_overflow, sqrt_no_underflow, sqrt_band}
use Rattle.ieee.proofs.Fmas.{fma_once, fma_met, fma_rows}
use Rattle.ieee.proofs.FmaFlags.{fma_flags_rule, fma_flag_rows, fma_clean, fma_band}
use Rattle.ieee.proofs.Scalbns.{scalbn_once, scalbn_met, scalbn_rows}
use Rattle.ieee.proofs.ScalbnFlags.{scalbn_flags_rule, scalbn_flag_rows, scalbn_clean, scalbn_band}
use Rattle.ieee.proofs.RoundedCalls.{sqrt_by_number, fma_by_number, scalbn_by_number, sqrt_under, fma_under, scalbn_under, ten}
use Rattle.ieee.proofs.Wholes.{trunc_is, trunc_only, trunc_rows, floor_is, floor_only, floor_rows}
use Rattle.ieee.proofs.Ceils.{ceil_is, ceil_only, ceil_rows}
use Rattle.ieee.proofs.WholeFlags.{whole_clean, trunc_flag_rows, floor_flag_rows, ceil_flag_rows}
use Rattle.ieee.proofs.Modfs.{modf_is, modf_only, modf_rows, modf_whole_is_trunc}
use Rattle.ieee.proofs.Leads.{ilogb_is, ilogb_only, ilogb_rows}
use Rattle.ieee.proofs.Frexps.{frexp_is, frexp_only, frexp_rows, frexp_after_ilogb}
use Rattle.ieee.proofs.Nexts.{next_is, next_only, next_rows, next_back, next_back_value}
use Rattle.ieee.proofs.Invalids.{sqrt_invalid, fma_invalid, scalbn_invalid, whole_invalid}
use Rattle.ieee.proofs.Remainders.{fmod_is, fmod_only, fmod_rows}
use Rattle.ieee.proofs.Remquos.{remquo_is, remquo_only, remquo_rows}
use Rattle.ieee.proofs.Reductions.{reduction_is, reduction_only}
use Rattle.ieee.proofs.ListCalls.{list_of_is, list_only}
use Rattle.ieee.proofs.Settled.{sqrt_settled, fma_settled, scalbn_settled, floor_settled, trunc_settled, ceil_settled, modf_settled, frexp_settled, ilogb_settled, next_settled, fmod_settled, remquo_settled}
use Rattle.ieee.proofs.FlagsSettled.{sqrt_raises_settled, fma_raises_settled, scalbn_raises_settled, floor_raises_settled, trunc_raises_settled, ceil_raises_settled}
use Rattle.ieee.proofs.Cases.{cases}
use Rattle.ieee.proofs.FlagCases.{flag_cases}
use Rattle.ieee.proofs.PartCases.{part_cases}
use Rattle.ieee.proofs.Lazy.{lazy64, lazy32}
use Rattle.ieee_numeral_laws.specs.Numeral.{Numeral, Says}
use Rattle.std.specs.Prelude.{Some}
use Rattle.ieee_numeral_laws.specs.Reading.{numeral_of}
use Rattle.ieee_numeral_laws.specs.Read.{exact_numeral, read_of, read_rounded}
use Rattle.ieee_numeral_laws.specs.ReadRule.{InGrammar, Worth, ReadAs}
use Rattle.ieee_numeral_laws.specs.Write.{text_of, Written, write_of}
use Rattle.ieee_numeral_laws.specs.WriteRule.{WrittenAs}
use Rattle.ieee_numeral_laws.specs.TextRule.{Writable, TextAs}
use Rattle.ieee_numeral_laws.specs.NumeralCases.{NumeralCases}
use Rattle.ieee_numeral_laws.specs.LazyNumerals.{LazyNumerals64, LazyNumerals32}
use Rattle.ieee_numeral_laws.proofs.Grammar.{reads_what_it_says, says_what_is_read, says_one}
use Rattle.ieee_numeral_laws.proofs.Readers.{read_as, read_settled, read_plain}
use Rattle.ieee_numeral_laws.proofs.Worths.{exact_worth, worth_settles}
use Rattle.ieee_numeral_laws.proofs.Writes.{written_as, written_settled}
use Rattle.ieee_numeral_laws.proofs.Texts.{text_as}
use Rattle.ieee_numeral_laws.proofs.Lengths.{writable16, writable32, writable64, text16_length, text32_length, text64_length}
use Rattle.ieee_numeral_laws.proofs.RoundTrips.{text_in_grammar, call_reads_back}
use Rattle.ieee_numeral_laws.proofs.Cases.{numeral_cases}
use Rattle.ieee_numeral_laws.proofs.Lazy.{lazy_numerals64, lazy_numerals32}
use Rattle.ieee_agreement_laws.specs.Agrees.{Agrees}
use Rattle.ieee_agreement_laws.proofs.Agreement.{agrees}
use Rattle.sqrt_table.specs.Table.{entry_of, Serves}
use Rattle.sqrt_table.proofs.Rule.{between}
use Rattle.sqrt_digits.specs.Floor.{FloorRoot}
use Rattle.sqrt_table.specs.Residual.{Residual, floor_by, exact_by}
use Rattle.sqrt_table.proofs.Wholes.{alike}

-- ======== What is spoken of
-- code: none, the formats
-- both widths are fair formats, so that each theorem below holds at both
pub both_widths_are_fair : Fair b64 × Fair b32
both_widths_are_fair = (fair64, fair32)

-- code: none, the numbers
-- their numbers, the flags' and the limits
pub numbers_are_as_given : Numbers64 × Numbers32 × FlagNumbers × Ends × Limits
numbers_are_as_given = (numbers64, numbers32, flag_numbers, ends, limits)

-- ======== 1. Every pattern is answered. What cannot be answered is refused by a number, the first that applies, and a refusal changes nothing.
-- code: as sqrt_is_settled
-- what every operation gives for NaNs, infinities and zeros, row by row
pub sqrt_by_rows : (f : Format) → SqrtRows f (sqrt_of f)
unfolding sqrt_of
sqrt_by_rows f = sqrt_rows f ties_to_even

-- code: as fma_is_settled
pub fma_by_rows : (f : Format) (x y z : ℕ) → FmaRows f ties_to_even x y z (fma_of f x y z)
unfolding fma_of
fma_by_rows f x y z = fma_rows f ties_to_even x y z

-- code: as scalbn_is_settled
pub scalbn_by_rows : (f : Format) → Fair f → (x : ℕ) (n : ℤ) → ScalbnRows f x n (scalbn_of f x n)
unfolding scalbn_of
scalbn_by_rows f g x n = scalbn_rows f g ties_to_even x n

-- code: as fmod_is_settled
pub fmod_by_rows : (f : Format) → FmodRows f (fmod_of f)
fmod_by_rows f = fmod_rows f

-- code: as remquo_is_settled
pub remquo_by_rows : (f : Format) → RemquoRows f (remquo_of f) (quotient_of f)
remquo_by_rows f = remquo_rows f

-- code: as floor_is_settled
pub floor_by_rows : (f : Format) → Fair f → FloorRows f (floor_of f)
floor_by_rows f g = floor_rows f g

-- code: as trunc_is_settled
pub trunc_by_rows : (f : Format) → WholeRows f (trunc_of f)
trunc_by_rows f = trunc_rows f

-- code: as ceil_is_settled
pub ceil_by_rows : (f : Format) → Fair f → CeilRows f (ceil_of f)
ceil_by_rows f g = ceil_rows f g

-- code: as modf_is_settled
pub modf_by_rows : (f : Format) → ModfRows f (modf_of f) (modf_whole f)
modf_by_rows f = modf_rows f

-- code: as frexp_is_settled
pub frexp_by_rows : (f : Format) → FrexpRows f (frexp_of f) (frexp_exponent f)
frexp_by_rows f = frexp_rows f

-- code: as ilogb_is_settled
pub ilogb_by_rows : (f : Format) → IlogbRows f (ilogb_of f)
ilogb_by_rows f = ilogb_rows f

-- code: as nextafter_is_settled
pub nextafter_by_rows : (f : Format) → NextafterRows f (nextafter_of f)
nextafter_by_rows f = next_rows f

-- code: as sqrt_is_settled, fma_is_settled, fmod_is_settled, remquo_is_settled, scalbn_is_settled, floor_is_settled, trunc_is_settled, ceil_is_settled, modf_is_settled, frexp_is_settled, nextafter_is_settled
-- a NaN among the operands gives the canonical NaN, in every operation that answers with a pattern, and in both of modf's
pub every_nan_is_canonical : (f : Format) → Fair f → (x y z : ℕ) (n : ℤ) → kind f x ≡ nan
    → (sqrt_of f x ≡ canonical f) × (fma_of f x y z ≡ canonical f) × (fma_of f y x z ≡ canonical f) × (fma_of f y z x ≡ canonical f) × (fmod_of f x y ≡ canonical f) × (fmod_of f y x ≡ canonical f)
    × (remquo_of f x y ≡ canonical f) × (remquo_of f y x ≡ canonical f) × (scalbn_of f x n ≡ canonical f) × (floor_of f x ≡ canonical f) × (trunc_of f x ≡ canonical f)
    × (ceil_of f x ≡ canonical f) × (modf_of f x ≡ canonical f) × (modf_whole f x ≡ canonical f) × (frexp_of f x ≡ canonical f) × (nextafter_of f x y ≡ canonical f) × (nextafter_of f y x ≡ canonical f)
every_nan_is_canonical f g x y z n h = (
  (sqrt_by_rows f).of_nan x h,
  (fma_by_rows f x y z).nan_first h,
  (fma_by_rows f y x z).nan_second h,
  (fma_by_rows f y z x).nan_third h,
  (fmod_by_rows f).nan_x x y h,
  (fmod_by_rows f).nan_y y x h,
  ((remquo_by_rows f).nan_x x y h).0,
  ((remquo_by_rows f).nan_y y x h).0,
  (scalbn_by_rows f g x n).of_nan h,
  (floor_by_rows f g).rows.of_nan x h,
  (trunc_by_rows f).of_nan x h,
  (ceil_by_rows f g).rows.of_nan x h,
  ((modf_by_rows f).of_nan x h).0,
  ((modf_by_rows f).of_nan x h).1,
  ((frexp_by_rows f).of_nan x h).0,
  (nextafter_by_rows f).nan_x x y h,
  (nextafter_by_rows f).nan_y y x h,
)

-- code: none, any list of refusals
-- of any list of refusals, a number is given exactly when its reason holds and none before it does
pub refusals_go_by_number : (rs : List Refusal) (k : ℕ) → 0 < k → (given rs ≡ k) ↔ First rs k
refusals_go_by_number rs k p = given_first rs k p

-- code: none, any list of refusals
pub nothing_else_is_refused : (rs : List Refusal) → Absent 0 rs → (given rs ≡ 0) ↔ None rs
nothing_else_is_refused rs a = given_none rs a

-- code: list64, pk_list64
-- the number, the value 0, and the output: as it was where the list is refused, and else every place settled from the same place; and only so
pub list_call_is_settled : (f : Format) (op : ℕ) (xs ys : List ℕ) → ListedAs f list_limit op xs ys (list_of f op xs ys)
    × ((l : Listed) → ListedAs f list_limit op xs ys l → (number_of l.answer ≡ number_of (list_of f op xs ys).answer) × (value_of l.answer ≡ value_of (list_of f op xs ys).answer) × (l.output ≡ (list_of f op xs ys).output))
list_call_is_settled f op xs ys = (list_of_is f op xs ys, λ l a. list_only f list_limit op xs ys l (list_of f op xs ys) a (list_of_is f op xs ys))

-- code: reduce, refusal, pk_reduce64, pk_reduce32
-- the number, and the value: what is left of x 2 ^ e by y, or 0 where it is refused; and only so
pub reduction_is_settled : (w x e y : ℕ) → ReducedAs w x e y (reduce_of w x e y)
    × ((a : Answer) → ReducedAs w x e y a → (number_of a ≡ number_of (reduce_of w x e y)) × (value_of a ≡ value_of (reduce_of w x e y)))
reduction_is_settled w x e y = (reduction_is w x e y, λ a h. reduction_only a (reduce_of w x e y) h (reduction_is w x e y))

-- ======== 2. What is exact is exact: fmod, remquo, floor, trunc, ceil, modf, frexp, ilogb, nextafter and the reduction lose nothing, signs of zero included.
-- code: as floor_is_settled
-- the whole k with k ≤ x < k + 1, nothing rounded, the sign kept; and no other pattern
pub floor_is_exact : (f : Format) → Fair f → (x u : ℕ) → kind f x ≡ finite u → Only (Floored f x) (floor_of f x)
floor_is_exact f g x u h = (floor_is f g x u h, λ q a. floor_only f x q (floor_of f x) a (floor_is f g x u h))

-- code: as trunc_is_settled
-- the whole k with |k| ≤ |x| < |k| + 1, the sign kept; and no other pattern
pub trunc_is_exact : (f : Format) → Fair f → (x u : ℕ) → kind f x ≡ finite u → Only (Truncated f x) (trunc_of f x)
trunc_is_exact f g x u h = (trunc_is f g x u h, λ q a. trunc_only f x q (trunc_of f x) a (trunc_is f g x u h))

-- code: as ceil_is_settled
-- the whole k with k - 1 < x ≤ k, nothing rounded, the sign kept; and no other pattern
pub ceil_is_exact : (f : Format) → Fair f → (x u : ℕ) → kind f x ≡ finite u → Only (Ceiled f x) (ceil_of f x)
ceil_is_exact f g x u h = (ceil_is f g x u h, λ q a. ceil_only f x q (ceil_of f x) a (ceil_is f g x u h))

-- code: as modf_is_settled
-- less than one and a whole number of ones, both with the sign of x, which add to x exactly; and no other two
pub modf_is_exact : (f : Format) → Fair f → (x u : ℕ) → kind f x ≡ finite u → Parted f x (modf_of f x) (modf_whole f x)
    × ((r w : ℕ) → Parted f x r w → (r ≡ modf_of f x) × (w ≡ modf_whole f x))
modf_is_exact f g x u h = let p = modf_is f g x u h in (p, λ r w a. modf_only f x r (modf_of f x) w (modf_whole f x) a p)

-- code: as modf_is_settled, trunc_is_settled
pub modf_cuts_as_trunc : (f : Format) (x : ℕ) → modf_whole f x ≡ trunc_of f x
modf_cuts_as_trunc = modf_whole_is_trunc

-- code: as ilogb_is_settled
-- the n with 2 ^ n ≤ |x| < 2 ^ (n + 1); and no other
pub ilogb_is_exact : (f : Format) → Fair f → (x u : ℕ) → kind f x ≡ finite (suc u) → Leads f x (ilogb_of f x) × ((n : ℤ) → Leads f x n → n ≡ ilogb_of f x)
ilogb_is_exact f g x u h = let l = ilogb_is f g x u h in (l, λ n a. ilogb_only f x n (ilogb_of f x) a l)

-- code: as frexp_is_settled
-- a fraction of magnitude at least 1 / 2 and below 1, and an exponent by which scalbn returns x, with nothing rounded; and no other two.
-- In a format with two exponent bits 1 / 2 is subnormal, and some fractions are no numbers of it
pub frexp_is_exact : (f : Format) → Fair f → 3 ≤ f.expo → (x u : ℕ) → Pattern f x → kind f x ≡ finite (suc u) → Broken f x (frexp_of f x) (frexp_exponent f x)
    × ((r : ℕ) (n : ℤ) → Broken f x r n → (r ≡ frexp_of f x) × (n ≡ frexp_exponent f x))
frexp_is_exact f g t x u p h = let b = frexp_is f g t x u p h in (b, λ r n a. frexp_only f x r (frexp_of f x) n (frexp_exponent f x) a b)

-- code: none, the formats
pub standard_formats_have_fractions : (3 ≤ b16.expo) × (3 ≤ b32.expo) × (3 ≤ b64.expo)
standard_formats_have_fractions = (lit≤ tt, lit≤ tt, lit≤ tt)

-- code: as frexp_is_settled, ilogb_is_settled
pub frexp_is_one_past_ilogb : (f : Format) (x u : ℕ) → kind f x ≡ finite (suc u) → frexp_exponent f x ≡ ilogb_of f x +ℤ pos 1
frexp_is_one_past_ilogb = frexp_after_ilogb

-- code: as nextafter_is_settled
-- y where x equals y; otherwise past x toward y, at most at y, with no number of the format strictly between x and it; a zero keeps the sign of x; and no other pattern
pub nextafter_is_next : (f : Format) (x y : ℕ) → Ordered f x → Ordered f y → Only (Next f x y) (nextafter_of f x y)
nextafter_is_next f x y o t = let n = next_is f x y o t in (n, λ q a. next_only f x y q (nextafter_of f x y) o t a n)

-- code: as nextafter_is_settled
-- a step back returns x, an infinity too; but for a step from a zero, which may come back with the other sign
pub nextafter_leads_back : (f : Format) (x y : ℕ) → Ordered f x → Ordered f y → (magnitude f x ≡ 0 → value f x ≡ value f y) → nextafter_of f (nextafter_of f x y) x ≡ x
nextafter_leads_back = next_back

-- code: as nextafter_is_settled
pub nextafter_leads_back_to_zero : (f : Format) (x y : ℕ) → Ordered f x → Ordered f y → value f (nextafter_of f (nextafter_of f x y) x) ≡ value f x
nextafter_leads_back_to_zero = next_back_value

-- code: as fmod_is_settled
-- |x| = n |y| + |r| with |r| < |y|, the sign of x; and no other pattern
pub fmod_is_exact : (f : Format) (x y u v : ℕ) → kind f x ≡ finite u → kind f y ≡ finite (suc v) → Only (Left f x y) (fmod_of f x y)
fmod_is_exact f x y u v h k = (fmod_is f x y u v h k, λ q a. fmod_only f x y q (fmod_of f x y) a (fmod_is f x y u v h k))

-- code: as remquo_is_settled
-- x = n y + r with 2|r| ≤ |y|, n even where they are equal, a zero with the sign of x, the quotient n modulo 2 ^ 31 with n's sign; and no other pattern or quotient
pub remquo_is_exact : (f : Format) (x y u v : ℕ) → kind f x ≡ finite u → kind f y ≡ finite (suc v) → NearestLeft f x y (remquo_of f x y) (quotient_of f x y)
    × ((r : ℕ) (q : ℤ) → NearestLeft f x y r q → (r ≡ remquo_of f x y) × (q ≡ quotient_of f x y))
remquo_is_exact f x y u v h k =
    let n = remquo_is f x y u v h k in
    let p : 0 < units f (magnitude f y) = omega (arith, (finite_is f y (suc v) k).counts) in
    (n, λ r q a. remquo_only f x y r (remquo_of f x y) q (quotient_of f x y) p a n)

-- ======== 3. sqrt, fma and scalbn are the exact value rounded once: no finite number is nearer, a tie takes the even last bit, infinity from the halfway point on; exactly one pattern meets that rule.
-- the rule is Once (crates/ieee/specs/Rule.antt), over whole numbers of smallest units
-- code: as sqrt_is_settled
-- for a finite x that is not below zero, the exact root
pub sqrt_rounds_once : (f : Format) → Fair f → (x u : ℕ) → kind f x ≡ finite u → (minus f x ≡ true → u ≡ 0) → Only (Once f to_even (minus f x) (exact_sqrt f x)) (sqrt_of f x)
sqrt_rounds_once f g x u h z =
    let o = sqrt_once f g x u h z in
    (o, λ q a. once_unique f g to_even (minus f x) (exact_sqrt f x) q (sqrt_of f x) a o)

-- code: as fma_is_settled
-- for finite x, y and z, exactly x y + z
pub fma_rounds_once : (f : Format) → Fair f → (x y z u v w : ℕ) → kind f x ≡ finite u → kind f y ≡ finite v → kind f z ≡ finite w
    → Only (Once f to_even (zero_sign f ties_to_even x y z) (exact_fma f x y z)) (fma_of f x y z)
fma_rounds_once f g x y z u v w h k l =
    let o = fma_once f g x y z u v w h k l in
    (o, λ q a. once_unique f g to_even (zero_sign f ties_to_even x y z) (exact_fma f x y z) q (fma_of f x y z) a o)

-- code: as scalbn_is_settled
-- for a finite x and every n, exactly x times 2 ^ n
pub scalbn_rounds_once : (f : Format) → Fair f → (x u : ℕ) (n : ℤ) → kind f x ≡ finite u → Only (Once f to_even (minus f x) (exact_scalbn f x n)) (scalbn_of f x n)
scalbn_rounds_once f g x u n h =
    let o = scalbn_once f g x u n h in
    (o, λ q a. once_unique f g to_even (minus f x) (exact_scalbn f x n) q (scalbn_of f x n) a o)

-- ======== Nothing is left open: for every pattern, whatever meets the rows, and for numbers the rule, is the answer.
-- code: sqrt, pk_sqrt64, pk_sqrt32
pub sqrt_is_settled : (f : Format) → Fair f → (o : ℕ → ℕ) → SqrtRows f o
    → ((x u : ℕ) → kind f x ≡ finite u → (minus f x ≡ true → u ≡ 0) → Once f to_even (minus f x) (exact_sqrt f x) (o x)) → (x : ℕ) → o x ≡ sqrt_of f x
unfolding sqrt_of
sqrt_is_settled f g o rows rule x = sqrt_settled f g ties_to_even o rows rule x

-- code: fma, pk_fma64, pk_fma32
pub fma_is_settled : (f : Format) → Fair f → (x y z r : ℕ) → FmaRows f ties_to_even x y z r
    → ((u v w : ℕ) → kind f x ≡ finite u → kind f y ≡ finite v → kind f z ≡ finite w → Once f to_even (zero_sign f ties_to_even x y z) (exact_fma f x y z) r)
    → Pattern f z → r ≡ fma_of f x y z
unfolding fma_of
fma_is_settled f g x y z r rows rule p = fma_settled f g ties_to_even x y z r rows rule p

-- code: scalbn, pk_scalbn64, pk_scalbn32
pub scalbn_is_settled : (f : Format) → Fair f → (x : ℕ) (n : ℤ) (r : ℕ) → ScalbnRows f x n r
    → ((u : ℕ) → kind f x ≡ finite u → Once f to_even (minus f x) (exact_scalbn f x n) r) → r ≡ scalbn_of f x n
unfolding scalbn_of
scalbn_is_settled f g x n r rows rule = scalbn_settled f g ties_to_even x n r rows rule

-- code: floor, pk_floor64, pk_floor32
pub floor_is_settled : (f : Format) → Fair f → (o : ℕ → ℕ) → FloorRows f o → ((x u : ℕ) → kind f x ≡ finite u → Floored f x (o x)) → (x : ℕ) → o x ≡ floor_of f x
floor_is_settled = floor_settled

-- code: trunc, pk_trunc64, pk_trunc32
pub trunc_is_settled : (f : Format) → Fair f → (o : ℕ → ℕ) → WholeRows f o → ((x u : ℕ) → kind f x ≡ finite u → Truncated f x (o x)) → (x : ℕ) → o x ≡ trunc_of f x
trunc_is_settled = trunc_settled

-- code: ceil, pk_ceil64, pk_ceil32
pub ceil_is_settled : (f : Format) → Fair f → (o : ℕ → ℕ) → CeilRows f o → ((x u : ℕ) → kind f x ≡ finite u → Ceiled f x (o x)) → (x : ℕ) → o x ≡ ceil_of f x
ceil_is_settled = ceil_settled

-- code: modf, pk_modf64, pk_modf32
pub modf_is_settled : (f : Format) → Fair f → (o w : ℕ → ℕ) → ModfRows f o w → ((x u : ℕ) → kind f x ≡ finite u → Parted f x (o x) (w x))
    → (x : ℕ) → (o x ≡ modf_of f x) × (w x ≡ modf_whole f x)
modf_is_settled = modf_settled

-- code: frexp, pk_frexp64, pk_frexp32
pub frexp_is_settled : (f : Format) → Fair f → 3 ≤ f.expo → (o : ℕ → ℕ) (e : ℕ → ℤ) → FrexpRows f o e
    → ((x u : ℕ) → Pattern f x → kind f x ≡ finite (suc u) → Broken f x (o x) (e x)) → (x : ℕ) → Pattern f x → (o x ≡ frexp_of f x) × (e x ≡ frexp_exponent f x)
frexp_is_settled = frexp_settled

-- code: ilogb, pk_ilogb64, pk_ilogb32
pub ilogb_is_settled : (f : Format) → Fair f → (o : ℕ → ℤ) → IlogbRows f o → ((x u : ℕ) → kind f x ≡ finite (suc u) → Leads f x (o x)) → (x : ℕ) → o x ≡ ilogb_of f x
ilogb_is_settled = ilogb_settled

-- code: nextafter, pk_nextafter64, pk_nextafter32
pub nextafter_is_settled : (f : Format) (o : ℕ → ℕ → ℕ) → NextafterRows f o → ((x y : ℕ) → Ordered f x → Ordered f y → Next f x y (o x y))
    → (x y : ℕ) → Pattern f x → Pattern f y → o x y ≡ nextafter_of f x y
nextafter_is_settled = next_settled

-- code: fmod, pk_fmod64, pk_fmod32
pub fmod_is_settled : (f : Format) (o : ℕ → ℕ → ℕ) → FmodRows f o
    → ((x y u v : ℕ) → kind f x ≡ finite u → kind f y ≡ finite (suc v) → Left f x y (o x y)) → (x y : ℕ) → o x y ≡ fmod_of f x y
fmod_is_settled = fmod_settled

-- code: remquo, pk_remquo64
pub remquo_is_settled : (f : Format) (o : ℕ → ℕ → ℕ) (n : ℕ → ℕ → ℤ) → RemquoRows f o n
    → ((x y u v : ℕ) → kind f x ≡ finite u → kind f y ≡ finite (suc v) → NearestLeft f x y (o x y) (n x y)) → (x y : ℕ) → (o x y ≡ remquo_of f x y) × (n x y ≡ quotient_of f x y)
remquo_is_settled = remquo_settled

-- ======== sqrt, fma, scalbn, floor, trunc and ceil raise the five flags of IEEE 754: inexact exactly when the answer is not the exact value, which for floor, trunc and ceil is the operand; tininess is judged after rounding.
-- code: as sqrt_flags_are_settled
-- for finite operands whose answer is not a NaN, which fma and scalbn never give for such; an infinity is never the exact value
pub sqrt_inexact_tells : (f : Format) → Fair f → (x u : ℕ) → kind f x ≡ finite u → (kind f (sqrt_of f x) ≡ nan → ⊥) → ((sqrt_flags f x).inexact ≡ true) ↔ (Exactly f (exact_sqrt f x) (sqrt_of f x) → ⊥)
unfolding sqrt_of sqrt_flags
sqrt_inexact_tells f g x u h n = (sqrt_flags_rule f g ties_to_even x u h (rooted_not_below f g ties_to_even x u h n)).inexact_when

-- code: as fma_flags_are_settled
pub fma_inexact_tells : (f : Format) → Fair f → (x y z u v w : ℕ) → kind f x ≡ finite u → kind f y ≡ finite v → kind f z ≡ finite w
    → ((fma_flags f x y z).inexact ≡ true) ↔ (Exactly f (exact_fma f x y z) (fma_of f x y z) → ⊥)
unfolding fma_of fma_flags
fma_inexact_tells f g x y z u v w h k l = (fma_flags_rule f g ties_to_even x y z u v w h k l).inexact_when

-- code: as scalbn_flags_are_settled
pub scalbn_inexact_tells : (f : Format) → Fair f → (x u : ℕ) (n : ℤ) → kind f x ≡ finite u → ((scalbn_flags f x n).inexact ≡ true) ↔ (Exactly f (exact_scalbn f x n) (scalbn_of f x n) → ⊥)
unfolding scalbn_of scalbn_flags
scalbn_inexact_tells f g x u n h = (scalbn_flags_rule f g ties_to_even x u n h).inexact_when

-- code: as floor_flags_are_settled
pub floor_inexact_tells : (f : Format) → Fair f → (x u : ℕ) → Pattern f x → kind f x ≡ finite u → ((floor_flags f x).inexact ≡ true) ↔ (value f (floor_of f x) ≡ value f x → ⊥)
floor_inexact_tells f g x u p h = (floor_flag_rows f g).another x u p h

-- code: as trunc_flags_are_settled
pub trunc_inexact_tells : (f : Format) → Fair f → (x u : ℕ) → Pattern f x → kind f x ≡ finite u → ((trunc_flags f x).inexact ≡ true) ↔ (value f (trunc_of f x) ≡ value f x → ⊥)
trunc_inexact_tells f g x u p h = (trunc_flag_rows f g).another x u p h

-- code: as ceil_flags_are_settled
pub ceil_inexact_tells : (f : Format) → Fair f → (x u : ℕ) → Pattern f x → kind f x ≡ finite u → ((ceil_flags f x).inexact ≡ true) ↔ (value f (ceil_of f x) ≡ value f x → ⊥)
ceil_inexact_tells f g x u p h = (ceil_flag_rows f g).another x u p h

-- code: as sqrt_flags_are_settled
-- all five, by the rule of clauses 7.4 to 7.6, which one record of flags meets
pub sqrt_flags_by_rule : (f : Format) → Fair f → (x u : ℕ) → kind f x ≡ finite u → (minus f x ≡ true → u ≡ 0) → OnlyFlags (FlagsRule f ties_to_even (minus f x) (exact_sqrt f x) (sqrt_of f x)) (sqrt_flags f x)
unfolding sqrt_of sqrt_flags
sqrt_flags_by_rule f g x u h z =
    let e = sqrt_flags_rule f g ties_to_even x u h z in
    (e, λ F b. rule_one f ties_to_even (minus f x) (exact_sqrt f x) (sqrt_in f ties_to_even x) F (sqrt_flags_in f ties_to_even x) b e)

-- code: as fma_flags_are_settled
pub fma_flags_by_rule : (f : Format) → Fair f → (x y z u v w : ℕ) → kind f x ≡ finite u → kind f y ≡ finite v → kind f z ≡ finite w
    → OnlyFlags (FlagsRule f ties_to_even (zero_sign f ties_to_even x y z) (exact_fma f x y z) (fma_of f x y z)) (fma_flags f x y z)
unfolding fma_of fma_flags
fma_flags_by_rule f g x y z u v w h k l =
    let e = fma_flags_rule f g ties_to_even x y z u v w h k l in
    (e, λ F b. rule_one f ties_to_even (zero_sign f ties_to_even x y z) (exact_fma f x y z) (fma_in f ties_to_even x y z) F (fma_flags_in f ties_to_even x y z) b e)

-- code: as scalbn_flags_are_settled
pub scalbn_flags_by_rule : (f : Format) → Fair f → (x u : ℕ) (n : ℤ) → kind f x ≡ finite u → OnlyFlags (FlagsRule f ties_to_even (minus f x) (exact_scalbn f x n) (scalbn_of f x n)) (scalbn_flags f x n)
unfolding scalbn_of scalbn_flags
scalbn_flags_by_rule f g x u n h =
    let e = scalbn_flags_rule f g ties_to_even x u n h in
    (e, λ F b. rule_one f ties_to_even (minus f x) (exact_scalbn f x n) (scalbn_in f ties_to_even x n) F (scalbn_flags_in f ties_to_even x n) b e)

-- code: as sqrt_flags_are_settled
-- NaNs, infinities and zeros, row by row: when invalid is raised, and that nothing else is; floor, trunc and ceil on all patterns
pub sqrt_flags_by_rows : (f : Format) → Fair f → SqrtFlagRows f (sqrt_flags f)
unfolding sqrt_flags
sqrt_flags_by_rows f g = sqrt_flag_rows f g ties_to_even

-- code: as fma_flags_are_settled
pub fma_flags_by_rows : (f : Format) (x y z : ℕ) → FmaFlagRows f x y z (fma_flags f x y z)
unfolding fma_flags
fma_flags_by_rows f x y z = fma_flag_rows f ties_to_even x y z

-- code: as scalbn_flags_are_settled
pub scalbn_flags_by_rows : (f : Format) (x : ℕ) (n : ℤ) → ScalbnFlagRows f x (scalbn_flags f x n)
unfolding scalbn_flags
scalbn_flags_by_rows f x n = scalbn_flag_rows f ties_to_even x n

-- code: as floor_flags_are_settled
pub floor_flags_by_rows : (f : Format) → Fair f → WholeFlagRows f (floor_of f) (floor_flags f)
floor_flags_by_rows = floor_flag_rows

-- code: as trunc_flags_are_settled
pub trunc_flags_by_rows : (f : Format) → Fair f → WholeFlagRows f (trunc_of f) (trunc_flags f)
trunc_flags_by_rows = trunc_flag_rows

-- code: as ceil_flags_are_settled
pub ceil_flags_by_rows : (f : Format) → Fair f → WholeFlagRows f (ceil_of f) (ceil_flags f)
ceil_flags_by_rows = ceil_flag_rows

-- code: as sqrt_flags_are_settled, fma_flags_are_settled, scalbn_flags_are_settled, floor_flags_are_settled, trunc_flags_are_settled, ceil_flags_are_settled
-- invalid, exactly: a signalling NaN; the root of what is below zero; in fma zero times infinity, whatever is added, and infinities of unlike signs
pub invalid_tells : (f : Format) → Fair f → (x y z : ℕ) (n : ℤ)
    → (((sqrt_flags f x).invalid ≡ true) ↔ SqrtInvalid f x) × (((fma_flags f x y z).invalid ≡ true) ↔ FmaInvalid f x y z) × (((scalbn_flags f x n).invalid ≡ true) ↔ (signals f x ≡ true))
    × (((floor_flags f x).invalid ≡ true) ↔ (signals f x ≡ true)) × (((trunc_flags f x).invalid ≡ true) ↔ (signals f x ≡ true))
    × (((ceil_flags f x).invalid ≡ true) ↔ (signals f x ≡ true))
unfolding sqrt_flags fma_flags scalbn_flags
invalid_tells f g x y z n = (
  sqrt_invalid f g ties_to_even x,
  fma_invalid f g ties_to_even x y z,
  scalbn_invalid f g ties_to_even x n,
  whole_invalid f g (floor_of f) (floor_flags f) (floor_flag_rows f g) x,
  whole_invalid f g (trunc_of f) (trunc_flags f) (trunc_flag_rows f g) x,
  whole_invalid f g (ceil_of f) (ceil_flags f) (ceil_flag_rows f g) x,
)

-- code: none, every NaN
-- a NaN signals exactly where its magnitude is below that of the canonical NaN
pub signalling_is_below_the_canonical : (f : Format) → Fair f → (x : ℕ) → (signals f x ≡ true) ↔ ((inf f < magnitude f x) × (magnitude f x < canonical f))
signalling_is_below_the_canonical = signalling

-- code: as sqrt_flags_are_settled, fma_flags_are_settled, scalbn_flags_are_settled, floor_flags_are_settled, trunc_flags_are_settled, ceil_flags_are_settled
-- whatever the operands: overflow and underflow imply inexact, invalid stands alone, division by zero never
pub flags_are_clean : (f : Format) → Fair f → (x y z : ℕ) (n : ℤ)
    → Clean (sqrt_flags f x) × Clean (fma_flags f x y z) × Clean (scalbn_flags f x n) × Clean (floor_flags f x) × Clean (trunc_flags f x) × Clean (ceil_flags f x)
unfolding sqrt_flags fma_flags scalbn_flags floor_flags trunc_flags ceil_flags
flags_are_clean f g x y z n = (
  sqrt_clean f g ties_to_even x,
  fma_clean f g ties_to_even x y z,
  scalbn_clean f g ties_to_even x n,
  whole_clean f toward_negative x,
  whole_clean f toward_zero x,
  whole_clean f toward_positive x,
)

-- code: none, every exact value
-- overflow and tininess are judged as though the exponent range were unbounded: every wider range gives one verdict, and for each value but zero one is wide enough
pub range_is_unbounded : (f : Format) → Fair f → (w : Way) (v : Value) → Unbounded f w (absolute v)
range_is_unbounded = unbounded

-- code: none, every exact value
-- to the nearest, even or away, overflow is raised exactly when the answer is an infinity
pub nearest_overflows_to_infinity : (f : Format) → Fair f → (t : Ties) (s : Bool) (v : Value)
    → ((raised f (ties_attribute t) s v).overflow ≡ true) ↔ (magnitude f (answer f (ties_attribute t) s v) ≡ inf f)
nearest_overflows_to_infinity = nearest_overflow

-- code: sqrt_flags, pk_sqrt64_flags, pk_sqrt32_flags
-- nothing is left open here either: whatever meets the rows, and for numbers the rules, is the answer with its flags
pub sqrt_flags_are_settled : (f : Format) → Fair f → (o : ℕ → ℕ) (F : ℕ → Flags) → SqrtRows f o → SqrtFlagRows f F
    → ((x u : ℕ) → kind f x ≡ finite u → (minus f x ≡ true → u ≡ 0) → Once f to_even (minus f x) (exact_sqrt f x) (o x) × FlagsRule f ties_to_even (minus f x) (exact_sqrt f x) (o x) (F x))
    → (x : ℕ) → (o x ≡ sqrt_of f x) × (F x ≡ sqrt_flags f x)
unfolding sqrt_of sqrt_flags
sqrt_flags_are_settled f g = sqrt_raises_settled f g ties_to_even

-- code: fma_flags, pk_fma64_flags, pk_fma32_flags
pub fma_flags_are_settled : (f : Format) → Fair f → (x y z r : ℕ) (F : Flags) → FmaRows f ties_to_even x y z r → FmaFlagRows f x y z F
    → ((u v w : ℕ) → kind f x ≡ finite u → kind f y ≡ finite v → kind f z ≡ finite w
    → Once f to_even (zero_sign f ties_to_even x y z) (exact_fma f x y z) r × FlagsRule f ties_to_even (zero_sign f ties_to_even x y z) (exact_fma f x y z) r F)
    → Pattern f z → (r ≡ fma_of f x y z) × (F ≡ fma_flags f x y z)
unfolding fma_of fma_flags
fma_flags_are_settled f g = fma_raises_settled f g ties_to_even

-- code: scalbn_flags, pk_scalbn64_flags, pk_scalbn32_flags
pub scalbn_flags_are_settled : (f : Format) → Fair f → (x : ℕ) (n : ℤ) (r : ℕ) (F : Flags) → ScalbnRows f x n r → ScalbnFlagRows f x F
    → ((u : ℕ) → kind f x ≡ finite u → Once f to_even (minus f x) (exact_scalbn f x n) r × FlagsRule f ties_to_even (minus f x) (exact_scalbn f x n) r F)
    → (r ≡ scalbn_of f x n) × (F ≡ scalbn_flags f x n)
unfolding scalbn_of scalbn_flags
scalbn_flags_are_settled f g = scalbn_raises_settled f g ties_to_even

-- code: floor_flags, pk_floor64_flags, pk_floor32_flags
pub floor_flags_are_settled : (f : Format) → Fair f → (o : ℕ → ℕ) (F : ℕ → Flags) → WholeFlagRows f o F → FloorRows f o
    → ((x u : ℕ) → kind f x ≡ finite u → Floored f x (o x)) → (x : ℕ) → (o x ≡ floor_of f x) × (F x ≡ floor_flags f x)
floor_flags_are_settled = floor_raises_settled

-- code: trunc_flags, pk_trunc64_flags, pk_trunc32_flags
pub trunc_flags_are_settled : (f : Format) → Fair f → (o : ℕ → ℕ) (F : ℕ → Flags) → WholeFlagRows f o F → WholeRows f o
    → ((x u : ℕ) → kind f x ≡ finite u → Truncated f x (o x)) → (x : ℕ) → (o x ≡ trunc_of f x) × (F x ≡ trunc_flags f x)
trunc_flags_are_settled = trunc_raises_settled

-- code: ceil_flags, pk_ceil64_flags, pk_ceil32_flags
pub ceil_flags_are_settled : (f : Format) → Fair f → (o : ℕ → ℕ) (F : ℕ → Flags) → WholeFlagRows f o F → CeilRows f o
    → ((x u : ℕ) → kind f x ≡ finite u → Ceiled f x (o x)) → (x : ℕ) → (o x ≡ ceil_of f x) × (F x ≡ ceil_flags f x)
ceil_flags_are_settled = ceil_raises_settled

-- ======== Under each of the five attributes of IEEE 754 sqrt, fma and scalbn are the exact value rounded once by that attribute's rule, with its flags; down and up are the tightest band that holds it.
-- code: sqrt_rounded, pk_sqrt64_rounded, pk_sqrt32_rounded
-- the attributes go by number, 0 to 4: the value and the flags under that attribute; any other number gives 10, zero and no flag
pub sqrt_goes_by_number : (f : Format) (x : ℕ) → ByNumber (λ a. sqrt_in f a x) (λ a. sqrt_flags_in f a x) (λ n. sqrt_rounded f n x)
sqrt_goes_by_number = sqrt_by_number

-- code: fma_rounded, pk_fma64_rounded, pk_fma32_rounded
pub fma_goes_by_number : (f : Format) (x y z : ℕ) → ByNumber (λ a. fma_in f a x y z) (λ a. fma_flags_in f a x y z) (λ n. fma_rounded f n x y z)
fma_goes_by_number = fma_by_number

-- code: scalbn_rounded, pk_scalbn64_rounded, pk_scalbn32_rounded
pub scalbn_goes_by_number : (f : Format) (x : ℕ) (k : ℤ) → ByNumber (λ a. scalbn_in f a x k) (λ a. scalbn_flags_in f a x k) (λ n. scalbn_rounded f n x k)
scalbn_goes_by_number = scalbn_by_number

-- code: as sqrt_goes_by_number, fma_goes_by_number, scalbn_goes_by_number
-- before all else: refused with 10 exactly where no attribute has the number, whatever the operands; otherwise done
pub ten_refuses_no_attribute : (f : Format) (n x y z : ℕ) (k : ℤ)
    → (((sqrt_rounded f n x).number ≡ 10) ↔ (5 ≤ n)) × (((sqrt_rounded f n x).number ≡ 0) ↔ (n < 5))
    × (((fma_rounded f n x y z).number ≡ 10) ↔ (5 ≤ n)) × (((fma_rounded f n x y z).number ≡ 0) ↔ (n < 5))
    × (((scalbn_rounded f n x k).number ≡ 10) ↔ (5 ≤ n)) × (((scalbn_rounded f n x k).number ≡ 0) ↔ (n < 5))
ten_refuses_no_attribute f n x y z k =
    let (a, b) = ten (sqrt_by_number f x) n in
    let (c, d) = ten (fma_by_number f x y z) n in
    let (e, g) = ten (scalbn_by_number f x k) n in
    (a, b, c, d, e, g)

-- code: as sqrt_goes_by_number, fma_goes_by_number, scalbn_goes_by_number
-- under nearest even a call gives what the plain call gives, with the flags that it has
pub nearest_even_is_the_plain_call : (f : Format) (x y z : ℕ) (k : ℤ)
    → (sqrt_rounded f 0 x ≡ answered (sqrt_of f x) (sqrt_flags f x)) × (fma_rounded f 0 x y z ≡ answered (fma_of f x y z) (fma_flags f x y z))
    × (scalbn_rounded f 0 x k ≡ answered (scalbn_of f x k) (scalbn_flags f x k))
unfolding sqrt_of sqrt_flags fma_of fma_flags scalbn_of scalbn_flags
nearest_even_is_the_plain_call f x y z k = (sqrt_under f ties_to_even x, fma_under f ties_to_even x y z, scalbn_under f ties_to_even x k)

-- code: as sqrt_goes_by_number
-- for finite operands whose answer is not a NaN: the rule of the attribute, which one pattern meets, and the rule of its flags, which one record of flags meets;
-- inexact exactly when the answer is not the exact value, an infinity never being it
pub sqrt_by_attribute : (f : Format) → Fair f → (a : Attribute) (x u : ℕ) → kind f x ≡ finite u → (minus f x ≡ true → u ≡ 0)
    → let r = sqrt_rounded f (attribute_number a) x in
    Only (RuleIn f a (minus f x) (exact_sqrt f x)) r.value × OnlyFlags (FlagsRule f a (minus f x) (exact_sqrt f x) r.value) r.flags
sqrt_by_attribute f g a x u h z =
    let s = minus f x in
    let v = exact_sqrt f x in
    let r = sqrt_in f a x in
    let m = sqrt_met f g a x u h z in
    let e = sqrt_flags_rule f g a x u h z in
    subst (λ c. Only (RuleIn f a s v) c.value × OnlyFlags (FlagsRule f a s v c.value) c.flags) (sym (sqrt_under f a x))
    ((m, λ q b. answer_met_unique f g a s v q r b m), (e, λ F b. rule_one f a s v r F (sqrt_flags_in f a x) b e))

-- code: as fma_goes_by_number
pub fma_by_attribute : (f : Format) → Fair f → (a : Attribute) (x y z u v w : ℕ) → kind f x ≡ finite u → kind f y ≡ finite v → kind f z ≡ finite w
    → let r = fma_rounded f (attribute_number a) x y z in
    Only (RuleIn f a (zero_sign f a x y z) (exact_fma f x y z)) r.value × OnlyFlags (FlagsRule f a (zero_sign f a x y z) (exact_fma f x y z) r.value) r.flags
fma_by_attribute f g a x y z u v w h k l =
    let s = zero_sign f a x y z in
    let t = exact_fma f x y z in
    let r = fma_in f a x y z in
    let m = fma_met f g a x y z u v w h k l in
    let e = fma_flags_rule f g a x y z u v w h k l in
    subst (λ c. Only (RuleIn f a s t) c.value × OnlyFlags (FlagsRule f a s t c.value) c.flags) (sym (fma_under f a x y z))
    ((m, λ q b. answer_met_unique f g a s t q r b m), (e, λ F b. rule_one f a s t r F (fma_flags_in f a x y z) b e))

-- code: as scalbn_goes_by_number
pub scalbn_by_attribute : (f : Format) → Fair f → (a : Attribute) (x u : ℕ) (n : ℤ) → kind f x ≡ finite u
    → let r = scalbn_rounded f (attribute_number a) x n in
    Only (RuleIn f a (minus f x) (exact_scalbn f x n)) r.value × OnlyFlags (FlagsRule f a (minus f x) (exact_scalbn f x n) r.value) r.flags
scalbn_by_attribute f g a x u n h =
    let s = minus f x in
    let v = exact_scalbn f x n in
    let r = scalbn_in f a x n in
    let m = scalbn_met f g a x u n h in
    let e = scalbn_flags_rule f g a x u n h in
    subst (λ c. Only (RuleIn f a s v) c.value × OnlyFlags (FlagsRule f a s v c.value) c.flags) (sym (scalbn_under f a x n))
    ((m, λ q b. answer_met_unique f g a s v q r b m), (e, λ F b. rule_one f a s v r F (scalbn_flags_in f a x n) b e))

-- code: as sqrt_goes_by_number, fma_goes_by_number, scalbn_goes_by_number
-- the rows of NaNs, infinities and zeros hold under every attribute; a zero sum of unlike signs is -0 when rounding down, and +0 under the others
pub rows_by_attribute : (f : Format) → Fair f → (a : Attribute) (x y z : ℕ) (n : ℤ)
    → SqrtRows f (λ w. (sqrt_rounded f (attribute_number a) w).value) × FmaRows f a x y z (fma_rounded f (attribute_number a) x y z).value × ScalbnRows f x n (scalbn_rounded f (attribute_number a) x n).value
rows_by_attribute f g a x y z n = (
  subst (SqrtRows f) (λ i w. (sym (sqrt_under f a w) i).value) (sqrt_rows f a),
  subst (λ c. FmaRows f a x y z c.value) (sym (fma_under f a x y z)) (fma_rows f a x y z),
  subst (λ c. ScalbnRows f x n c.value) (sym (scalbn_under f a x n)) (scalbn_rows f g a x n),
)

-- code: as sqrt_goes_by_number, fma_goes_by_number, scalbn_goes_by_number
-- and so do those of the flags
pub flag_rows_by_attribute : (f : Format) → Fair f → (a : Attribute) (x y z : ℕ) (n : ℤ)
    → SqrtFlagRows f (λ w. (sqrt_rounded f (attribute_number a) w).flags) × FmaFlagRows f x y z (fma_rounded f (attribute_number a) x y z).flags × ScalbnFlagRows f x (scalbn_rounded f (attribute_number a) x n).flags
flag_rows_by_attribute f g a x y z n = (
  subst (SqrtFlagRows f) (λ i w. (sym (sqrt_under f a w) i).flags) (sqrt_flag_rows f g a),
  subst (λ c. FmaFlagRows f x y z c.flags) (sym (fma_under f a x y z)) (fma_flag_rows f a x y z),
  subst (λ c. ScalbnFlagRows f x c.flags) (sym (scalbn_under f a x n)) (scalbn_flag_rows f a x n),
)

-- code: as sqrt_goes_by_number
-- nothing is left open here either: whatever meets the rows, and for numbers the rules, is what the call gives
pub sqrt_settled_by_attribute : (f : Format) → Fair f → (a : Attribute) (o : ℕ → ℕ) (F : ℕ → Flags) → SqrtRows f o → SqrtFlagRows f F
    → ((x u : ℕ) → kind f x ≡ finite u → (minus f x ≡ true → u ≡ 0) → RuleIn f a (minus f x) (exact_sqrt f x) (o x) × FlagsRule f a (minus f x) (exact_sqrt f x) (o x) (F x))
    → (x : ℕ) → sqrt_rounded f (attribute_number a) x ≡ answered (o x) (F x)
sqrt_settled_by_attribute f g a o F p q r x = let (v, w) = sqrt_raises_settled f g a o F p q r x in sqrt_under f a x ∙ (λ i. answered (sym v i) (sym w i))

-- code: as fma_goes_by_number
pub fma_settled_by_attribute : (f : Format) → Fair f → (a : Attribute) (x y z r : ℕ) (F : Flags) → FmaRows f a x y z r → FmaFlagRows f x y z F
    → ((u v w : ℕ) → kind f x ≡ finite u → kind f y ≡ finite v → kind f z ≡ finite w
    → RuleIn f a (zero_sign f a x y z) (exact_fma f x y z) r × FlagsRule f a (zero_sign f a x y z) (exact_fma f x y z) r F)
    → Pattern f z → fma_rounded f (attribute_number a) x y z ≡ answered r F
fma_settled_by_attribute f g a x y z r F p q h b = let (v, w) = fma_raises_settled f g a x y z r F p q h b in fma_under f a x y z ∙ (λ i. answered (sym v i) (sym w i))

-- code: as scalbn_goes_by_number
pub scalbn_settled_by_attribute : (f : Format) → Fair f → (a : Attribute) (x : ℕ) (n : ℤ) (r : ℕ) (F : Flags) → ScalbnRows f x n r → ScalbnFlagRows f x F
    → ((u : ℕ) → kind f x ≡ finite u → RuleIn f a (minus f x) (exact_scalbn f x n) r × FlagsRule f a (minus f x) (exact_scalbn f x n) r F)
    → scalbn_rounded f (attribute_number a) x n ≡ answered r F
scalbn_settled_by_attribute f g a x n r F p q h = let (v, w) = scalbn_raises_settled f g a x n r F p q h in scalbn_under f a x n ∙ (λ i. answered (sym v i) (sym w i))

-- code: as sqrt_goes_by_number, fma_goes_by_number, scalbn_goes_by_number
-- whatever the operands and the attribute
pub flags_are_clean_by_attribute : (f : Format) → Fair f → (a : Attribute) (x y z : ℕ) (n : ℤ)
    → Clean (sqrt_rounded f (attribute_number a) x).flags × Clean (fma_rounded f (attribute_number a) x y z).flags × Clean (scalbn_rounded f (attribute_number a) x n).flags
flags_are_clean_by_attribute f g a x y z n = (
  subst (λ c. Clean c.flags) (sym (sqrt_under f a x)) (sqrt_clean f g a x),
  subst (λ c. Clean c.flags) (sym (fma_under f a x y z)) (fma_clean f g a x y z),
  subst (λ c. Clean c.flags) (sym (scalbn_under f a x n)) (scalbn_clean f g a x n),
)

-- code: as sqrt_goes_by_number
-- a root never overflows; nor does it underflow, in a format with one exponent more below 1 than a fair one must have, as b16, b32 and b64 have
pub sqrt_never_overflows : (f : Format) → Fair f → (a : Attribute) (x : ℕ) → (sqrt_rounded f (attribute_number a) x).flags.overflow ≡ false
sqrt_never_overflows f g a x = ap (λ c. c.flags.overflow) (sqrt_under f a x) ∙ sqrt_no_overflow f g a x

-- code: as sqrt_goes_by_number
pub sqrt_never_underflows : (f : Format) → Fair f → (a : Attribute) (x : ℕ) → f.frac + 1 < 2 ^ (f.expo - 1) → (sqrt_rounded f (attribute_number a) x).flags.underflow ≡ false
sqrt_never_underflows f g a x l = ap (λ c. c.flags.underflow) (sqrt_under f a x) ∙ sqrt_no_underflow f g a x l

-- code: none, the formats
pub standard_formats_have_room : (b16.frac + 1 < 2 ^ (b16.expo - 1)) × (b32.frac + 1 < 2 ^ (b32.expo - 1)) × (b64.frac + 1 < 2 ^ (b64.expo - 1))
standard_formats_have_room = (lit< tt, lit< tt, lit< tt)

-- code: as sqrt_goes_by_number
-- tolerance bands, of the calls by the numbers of down and up: they hold the exact value between them, no number of the format lies between it and either, so that none is
-- tighter, and the two are one number exactly when nothing is inexact
pub sqrt_has_a_band : (f : Format) → Fair f → (x u : ℕ) → kind f x ≡ finite u → (minus f x ≡ true → u ≡ 0)
    → let lo = sqrt_rounded f (attribute_number toward_negative) x in let hi = sqrt_rounded f (attribute_number toward_positive) x in Band f (exact_sqrt f x) lo.value hi.value lo.flags hi.flags
sqrt_has_a_band f g x u h z =
    let lo = sqrt_under f toward_negative x in
    let hi = sqrt_under f toward_positive x in
    subst {A = Rounded × Rounded} (λ (l, h). Band f (exact_sqrt f x) l.value h.value l.flags h.flags) (λ i. (sym lo i, sym hi i)) (sqrt_band f g x u h z)

-- code: as fma_goes_by_number
pub fma_has_a_band : (f : Format) → Fair f → (x y z u v w : ℕ) → kind f x ≡ finite u → kind f y ≡ finite v → kind f z ≡ finite w
    → let lo = fma_rounded f (attribute_number toward_negative) x y z in let hi = fma_rounded f (attribute_number toward_positive) x y z in Band f (exact_fma f x y z) lo.value hi.value lo.flags hi.flags
fma_has_a_band f g x y z u v w h k l =
    let lo = fma_under f toward_negative x y z in
    let hi = fma_under f toward_positive x y z in
    subst {A = Rounded × Rounded} (λ (l, h). Band f (exact_fma f x y z) l.value h.value l.flags h.flags) (λ i. (sym lo i, sym hi i)) (fma_band f g x y z u v w h k l)

-- code: as scalbn_goes_by_number
pub scalbn_has_a_band : (f : Format) → Fair f → (x u : ℕ) (n : ℤ) → kind f x ≡ finite u
    → let lo = scalbn_rounded f (attribute_number toward_negative) x n in let hi = scalbn_rounded f (attribute_number toward_positive) x n in Band f (exact_scalbn f x n) lo.value hi.value lo.flags hi.flags
scalbn_has_a_band f g x u n h =
    let lo = scalbn_under f toward_negative x n in
    let hi = scalbn_under f toward_positive x n in
    subst {A = Rounded × Rounded} (λ (l, h). Band f (exact_scalbn f x n) l.value h.value l.flags h.flags) (λ i. (sym lo i, sym hi i)) (scalbn_band f g x u n h)

-- ======== A numeral in ISO C's hexadecimal form is read exactly if its text is in the grammar, and its exact value is rounded once; a pattern is written in the digits that it needs, and read back it is the same pattern.
-- code: none, the grammar
-- the grammar in the productions of ISO C and the function that computes it are one
pub grammar_is_computed : (s : List ℕ) (m : Numeral) → Says s m ↔ (numeral_of s ≡ Some m)
grammar_is_computed s m = (reads_what_it_says, says_what_is_read s m)

-- code: none, the grammar
pub text_says_one_thing : (s : List ℕ) (m n : Numeral) → Says s m → Says s n → m ≡ n
text_says_one_thing s m n p q = says_one p q

-- code: read_hex_rounded, pk_read_hex64_rounded, pk_read_hex32_rounded
-- refused with 10 if there is no such attribute, else with 6 past 64 bytes, else with 7 outside the grammar, exactly then, with the value 0; else what the text says, rounded by
-- the attribute's rule; and only so
pub reader_is_settled : (f : Format) → Fair f → (n : ℕ) (s : List ℕ) → ReadAs f n s (read_rounded f n s)
    × ((r : Answer) → ReadAs f n s r → (number_of r ≡ number_of (read_rounded f n s)) × (value_of r ≡ value_of (read_rounded f n s)))
reader_is_settled f g n s = (read_as f g n s, read_settled f g n s)

-- code: read_hex, pk_read_hex64, pk_read_hex32
-- the plain reader is that of nearest even
pub reader_takes_nearest_even : (f : Format) (s : List ℕ) → read_of f s ≡ read_rounded f (attribute_number ties_to_even) s
reader_takes_nearest_even f s = read_plain f s

-- code: none, the value of a numeral
-- what is rounded is the numeral's value: its digits, a sixteenth for each behind the point, times the power of two; and any other way to write that value is rounded to the same
pub numerals_are_exact : (f : Format) (s : Bool) (d k : ℕ) (e : ℤ) → Worth f s d k e (exact_numeral f s d k e)
    × ((a : Attribute) (v : Value) → Worth f s d k e v → answer f a s v ≡ answer f a s (exact_numeral f s d k e))
numerals_are_exact f s d k e = (exact_worth f s d k e, λ a v h. worth_settles f a s d k e v h)

-- code: write_hex, pk_write_hex64, pk_write_hex32
-- refused with 8 exactly where the text is longer than the output, with the length 0 and every byte as it was; else the text's length, its bytes, and those past it as they were; and only so
pub writer_is_settled : (f : Format) (x : ℕ) (out : List ℕ) → WrittenAs (text_of f x) out (write_of f x out)
    × ((w : Written) → WrittenAs (text_of f x) out w → (number_of w.answer ≡ number_of (write_of f x out).answer) × (value_of w.answer ≡ value_of (write_of f x out).answer) × (w.output ≡ (write_of f x out).output))
writer_is_settled f x out = (written_as f x out, written_settled f x out)

-- code: none, the text of a pattern
-- the text of a number is in the grammar and says the number itself, with no zero at the end of its digits and none before its exponent
pub texts_are_exact : (f : Format) → Fair f → Writable f → (x : ℕ) → Pattern f x → TextAs f x (text_of f x) × InGrammar (text_of f x)
texts_are_exact f g w x p = (text_as f g w x p, text_in_grammar f g w x p)

-- code: as reader_is_settled, writer_is_settled
-- reading what was written gives the same bits under every attribute, and for every NaN the canonical one
pub written_is_read_back : (f : Format) → Fair f → Writable f → (a : Attribute) (x : ℕ) (out : List ℕ) → Pattern f x → number_of (write_of f x out).answer ≡ 0
    → let r = read_rounded f (attribute_number a) (take (value_of (write_of f x out).answer) (write_of f x out).output) in
    (kind f x ≡ nan → r ≡ done (canonical f)) × ((kind f x ≡ nan → ⊥) → r ≡ done x)
written_is_read_back f g w a x out p h = call_reads_back f g w a x p out h

-- code: none, the text of a pattern
-- 24 bytes hold every text at 64 bits, 16 at 32, and 12 at 16
pub texts_have_room : (Writable b64 × ((x : ℕ) → Pattern b64 x → length (text_of b64 x) ≤ 24)) × (Writable b32 × ((x : ℕ) → Pattern b32 x → length (text_of b32 x) ≤ 16))
    × (Writable b16 × ((x : ℕ) → Pattern b16 x → length (text_of b16 x) ≤ 12))
texts_have_room = ((writable64, text64_length), (writable32, text32_length), (writable16, text16_length))

-- ======== The two routes to the root, digit by digit and by libm's table, give the same.
-- code: sqrt_digits::floor_root, sqrt_table::root53, sqrt_table::root24
-- of a whole number n: t and e are the root rounded down and whether it is exact; q is a whole number next to the root, and rem its residual
pub routes_find_one_root : (n t q rem : ℕ) (e : Bool) → FloorRoot n t × (e ≡ eqb (t * t) n) → Residual n q rem → (t ≡ floor_by q rem) × (e ≡ exact_by q rem)
routes_find_one_root n t q rem e f r = alike n q rem r t e f

-- code: sqrt_table::entry, sqrt_table::reciprocal
-- the table that the quick route begins with: for an entry T and any m of the step that it serves, m counted with 30 fraction bits, T² m lies strictly between 65280² and 65792²
pub table_holds_its_rule : (i m : ℕ) → Serves i m → (65280 ^ 2 * 2 ^ 30 < entry_of i * entry_of i * m) × (entry_of i * entry_of i * m < 65792 ^ 2 * 2 ^ 30)
table_holds_its_rule = between

-- code: sqrt::sqrt_pattern, as sqrt_is_settled
-- of a pattern x, `sqrt_pattern` by digits and `sqrt64` and `sqrt32` by the table: whatever meets the contract of either route is one answer
pub routes_give_one_answer : (f : Format) (x r s : ℕ) → r ≡ sqrt_of f x → s ≡ sqrt_of f x → r ≡ s
routes_give_one_answer f x r s p q = cc

-- ======== What shows that the definitions say what they should
-- code: none, worked cases of the definitions
-- the fifteen worked cases
pub worked_cases_hold : Cases
worked_cases_hold = cases

-- code: none, worked cases of the definitions
-- and those of the flags and the attributes, with two fair formats in which a root underflows
pub flag_cases_hold : FlagCases
flag_cases_hold = flag_cases

-- code: none, worked cases of the definitions
-- and those of ceil, modf, frexp, ilogb and nextafter
pub part_cases_hold : PartCases
part_cases_hold = part_cases

-- code: none, worked cases of the definitions
-- and those of numerals, read and written
pub numeral_cases_hold : NumeralCases
numeral_cases_hold = numeral_cases

-- code: none, worked cases of the definitions
-- at neither width is a lazy answer the definition's: the canonical NaN to everything, a NaN as it came, the operand as it came, a quotient or an exponent always zero, all refused, the output untouched, the first place alone filled, no flag ever, always inexact
pub lazy_answers_differ : Lazy64 × Lazy32
lazy_answers_differ = (lazy64, lazy32)

-- code: none, worked cases of the definitions
-- nor a lazy reader's or writer's: all refused, all accepted, the canonical NaN or zero to everything, the sign of a zero lost, the attribute ignored, the length always zero, the output untouched, its first byte alone filled
pub lazy_numerals_differ : LazyNumerals64 × LazyNumerals32
lazy_numerals_differ = (lazy_numerals64, lazy_numerals32)

-- ======== What others say
-- code: none, the definitions beside another account
-- the toolchain's own account of IEEE 754, by which it says what f32 and f64 are, agrees: what patterns stand for, how every fraction is rounded to the nearest even, and the operations;
-- crates/ieee_agreement_laws/specs has the statements, and what that account has no word for
pub agrees64 : Agrees binary64
agrees64 = agrees binary64

-- code: none, the definitions beside another account
pub agrees32 : Agrees binary32
agrees32 = agrees binary32
