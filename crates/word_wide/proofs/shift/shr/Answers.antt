-- `word_wide::shift::shr` meets its contract: by a word or more the high word becomes the low one and the whole low word is dropped; by less the low word takes
-- the bits that the high one drops. Assumes nothing.
use Rattle.std.proofs.Common.{◌≡◌, ℕ, ◌+◌, ◌-◌, ◌*◌, ◌/◌, ◌%◌, ◌^◌, ◌<◌, ◌≤◌, ltb, sym, ap, ◌∙◌, arith, pow_pos, lt-ltb}
use Rattle.algebra.proofs.Powers.{pow_diff}
use Rattle.word_wide.proofs.Pairs.{same_test}
use Rattle.word_wide.proofs.Shifts.{right, right_fits, right_by_word, rest_is_lower, rest_is_both}
use Rattle.word_wide.proofs.shift.shr.Goals as goal

-- by a word or more
module _ (h l k : ℕ) (far : 64 ≤ k) (word : l < 2 ^ 64) where
  whole : (w : ℕ) → w ≡ h / 2 ^ (k - 64) → 0 * 2 ^ 64 + w ≡ (h * 2 ^ 64 + l) / 2 ^ k
  whole w e = right_by_word (2 ^ 64) (2 ^ (k - 64)) (2 ^ k) h l (pow_diff far) (pow_pos (k - 64)) word w e

  rest : (h * 2 ^ 64 + l) % 2 ^ k ≡ h % 2 ^ (k - 64) * 2 ^ 64 + l
  rest = rest_is_both (2 ^ 64) (2 ^ (k - 64)) (2 ^ k) h l (pow_diff far) (pow_pos (k - 64)) word

pub returns-then-a-gt0 : goal.returns-then-a-gt0
returns-then-a-gt0 c =
    let a = c.args.a in
    let k : ℕ = c.args.k in
    let e = rest a.hi a.lo k c.if-k-ge64.true (omega arith) in
    (whole a.hi a.lo k c.if-k-ge64.true (omega arith) _ c.shr_lost-kept.ensures.0, sym (lt-ltb 0 ((a.hi * 2 ^ 64 + a.lo) % 2 ^ k) (omega (arith, e))))

pub returns-then-k-ge64 : goal.returns-then-k-ge64
returns-then-k-ge64 c =
    let a = c.args.a in
    let k : ℕ = c.args.k in
    let e = rest a.hi a.lo k c.if-k-ge64.true (omega arith) in (
      whole a.hi a.lo k c.if-k-ge64.true (omega arith) _ c.shr_lost-kept.ensures.0,
      c.shr_lost-kept.ensures.1 ∙ same_test 0 (a.hi % 2 ^ (k - 64)) 0 ((a.hi * 2 ^ 64 + a.lo) % 2 ^ k) (λ h. omega arith) (λ h. omega arith),
    )

pub overflow_add-result : goal.overflow_add-result
overflow_add-result c =
    let a = c.args.a in
    let k : ℕ = c.args.k in
    let base = pow_diff {a = 64} {b = k} (omega arith) in
    record { fits = right_fits (2 ^ 64) (2 ^ k) (2 ^ (64 - k)) a.hi a.lo base (pow_pos k) (omega arith) _ (omega arith) }

pub returns : goal.returns
returns c =
    let a = c.args.a in
    let k : ℕ = c.args.k in
    let base = pow_diff {a = 64} {b = k} (omega arith) in
    let e = rest_is_lower (2 ^ 64) (2 ^ k) (2 ^ (64 - k)) a.hi a.lo base (pow_pos k) (omega arith) in (
      right (2 ^ 64) (2 ^ k) (2 ^ (64 - k)) a.hi a.lo base (pow_pos k) (omega arith) _ _ (omega arith) (omega arith),
      c.shr_lost-kept-2.ensures.1 ∙ ap (ltb 0) (sym e),
    )
