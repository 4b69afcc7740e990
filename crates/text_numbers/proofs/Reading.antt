-- Laws of reading digits: one more byte, the end, a byte that is not a digit; the size of a value; and a limit applied early. Assumes nothing.
use mathlib.Core.Path.{◌≡◌, refl, sym, ap, ◌∙◌}
use mathlib.Core.Bool.{Bool, true, false, cond}
use mathlib.Core.List.{List, [], ◌∷◌}
use Prim.Native.Nat.{ℕ, suc, ◌+◌, ◌*◌, ◌^◌, ◌≤◌, ◌<◌, min}
use native.Mathlib.Nat.{pow-zero, pow-suc, pow-succ', pow-le-pow_right, mul_assoc, mul-le-mul_left, mul-le-mul_right}
use native.Mathlib.Numerals.{add-one}
use native.Mathlib.Omega.{arith}
use lib.Dec.{ltb}
use lib.ListN.{length, drop, get_or}
use lib.Seq.{drop-cons, drop-length}
use borrow.Author.Tests.{lt-ltb, le-ltb}
use Rattle.algebra.proofs.Products.{order}
use Rattle.std.specs.Prelude.{Some, None}
use Rattle.text_numbers.specs.Digits.{digit_of, read_on, capped}

-- one more digit: the bound of the value grows from i digits to i + 1
pub grown : {b v d : ℕ} (i : ℕ) → b ≤ 16 → v < 16 ^ i → d < 16 → v * b + d < 16 ^ (i + 1)
grown {b} {v} {d} i small low digit =
    rw (add-one, pow-suc)
    (let p : v * b ≤ v * 16 = mul-le-mul_left v small in omega arith)

-- up to sixteen digits fit in a word
pub fits : {v : ℕ} (i : ℕ) → i ≤ 16 → v < 16 ^ i → v < 2 ^ 64
fits i most low = omega (arith, pow-le-pow_right {n = 16} (omega arith) most)

-- d is the digit at i
pub read_digit : (b v : ℕ) (s : List ℕ) (i d : ℕ) → digit_of (get_or s i 0) ≡ d → i < length s → d < b
    → read_on b v (drop i s) ≡ read_on b (v * b + d) (drop (i + 1) s)
unfolding read_on
read_digit b v s i d is more h = rw (add-one, ← is, drop-cons s i 0 more) (rw (lt-ltb (digit_of (get_or s i 0)) b (omega arith)))

-- the byte at i is no digit
pub read_other : (b v : ℕ) (s : List ℕ) (i : ℕ) → i < length s → ¬ (digit_of (get_or s i 0) < b) → read_on b v (drop i s) ≡ None
unfolding read_on
read_other b v s i more h = rw (drop-cons s i 0 more) (rw (le-ltb (digit_of (get_or s i 0)) b (omega arith)))

pub read_end : (b v : ℕ) (s : List ℕ) (i : ℕ) → i ≡ length s → read_on b v (drop i s) ≡ Some v
unfolding read_on
read_end b v s i e = rw (e, drop-length)

-- ---- reading with a limit

-- a value above the limit before a digit is above it after
cap_digit : (b v d m : ℕ) → 1 ≤ b → min (min v m * b + d) m ≡ min (v * b + d) m
cap_digit b v d m h =
    order v m
    (λ l. let e : min v m ≡ v = omega arith in rw e)
    (λ l. let e : min v m ≡ m = omega arith in
    let p : m * 1 ≤ m * b = mul-le-mul_left m h in
    let q : m * b ≤ v * b = mul-le-mul_right b (omega arith) in
    rw e (omega arith))

-- one more digit, read or refused
cap_step : (b m : ℕ) → 1 ≤ b → (v d : ℕ) (s : List ℕ) (t : Bool) → ((n : ℕ) → capped m (read_on b (min n m) s) ≡ capped m (read_on b n s))
    → capped m (cond t (read_on b (min v m * b + d) s) None) ≡ capped m (cond t (read_on b (v * b + d) s) None)
cap_step b m h v d s true rest = sym (rest (min v m * b + d)) ∙ ap (λ (n : ℕ). capped m (read_on b n s)) (cap_digit b v d m h) ∙ rest (v * b + d)
cap_step b m h v d s false rest = refl

-- the limit may be applied before the rest is read
pub cap_early : (b m : ℕ) → 1 ≤ b → (v : ℕ) (s : List ℕ) → capped m (read_on b (min v m) s) ≡ capped m (read_on b v s)
unfolding read_on
cap_early b m h v [] = ap Some (omega arith)
cap_early b m h v (c ∷ s) = cap_step b m h v (digit_of c) s (ltb (digit_of c) b) (λ n. cap_early b m h n s)

-- ---- the size of a value

below_step : (b v d n r : ℕ) → d < b → r < (v * b + d + 1) * b ^ n → r < (v + 1) * b ^ suc n
below_step b v d n r digit low =
    let most : (v * b + d + 1) * b ^ n ≤ (v + 1) * b * b ^ n = mul-le-mul_right (b ^ n) (omega arith) in
    let same : (v + 1) * b * b ^ n ≡ (v + 1) * b ^ suc n = mul_assoc (v + 1) b (b ^ n) ∙ ap (λ (p : ℕ). (v + 1) * p) (sym (pow-succ' b n)) in
    omega arith

-- n digits after a value v make less than v + 1 followed by n zeros
pub read_below : (b v : ℕ) (s : List ℕ) (r : ℕ) → read_on b v s ≡ Some r → r < (v + 1) * b ^ length s
unfolding read_on
read_below b v [] r e = let same : v ≡ r = cc in rw pow-zero (omega arith)
read_below b v (c ∷ s) r e =
    order b (digit_of c)
    (λ l. let other : None ≡ Some r = rw (le-ltb (digit_of c) b l) at e in let never : ◌≡◌ {A = ℕ} 0 1 = cc in absurd (omega arith))
    (λ l. below_step b v (digit_of c) (length s) r l (read_below b (v * b + digit_of c) s r (rw (lt-ltb (digit_of c) b l) at e)))
