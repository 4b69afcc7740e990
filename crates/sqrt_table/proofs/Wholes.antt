-- A root by its residual and a root by digits agree: root, exactness and nearest number. Assumes nothing.
use Rattle.std.proofs.Common.{◌≡◌, ℕ, ◌+◌, ◌-◌, ◌*◌, ◌%◌, ◌^◌, ◌<◌, ◌≤◌, Bool, true, false, eqb, sym, refl, ap, ◌∙◌, arith, le-ltb, lt-ltb, eq-eqb, ne_eqb, eqb-true}
use mathlib.Core.Bool.{or-false}
use borrow.Author.Tests.{eqb-false}
use Rattle.algebra.proofs.Products.{order}
use Rattle.algebra.proofs.Roots.{sq_le}
use Rattle.sqrt_laws.specs.Near.{Within}
use Rattle.sqrt_digits.specs.Floor.{FloorRoot}
use Rattle.sqrt_digits.proofs.Digits.{floor_unique}
use Rattle.sqrt_table.specs.Residual.{Residual, floor_by, exact_by, nearest_by}

-- ---- the residual is small, so the low words give it
pub low_words : (n q a r : ℕ) → Within n q → q < 2 ^ 53 → r < 2 ^ 64 → a ≡ q * q % 2 ^ 64 → (r + a) % 2 ^ 64 ≡ n % 2 ^ 64 → r ≡ n - q * q
low_words n q a r w l h i e =
    let s : n - q * q < 2 ^ 55 = omega (arith, w.hi) in
    let t : n ≡ q * q + (n - q * q) = omega (arith, w.lo) in
    omega arith

-- ---- two tests of one fact
met : (a b x y : ℕ) → (x ≡ y → a ≡ b) → (a ≡ b → x ≡ y) → eqb a b ≡ eqb x y
met a b x y to from = go (eqb x y) refl
  where
    go : (t : Bool) → eqb x y ≡ t → eqb a b ≡ t
    go true e = eq-eqb a b (to (eqb-true x y e))
    go false e = ne_eqb a b (λ i. eqb-false x y e (from i))

-- ---- m is the root of n rounded down, k the whole number nearest to it, and b whether it is exact; the root with one digit more is m + k
pub record Whole (n m k : ℕ) (b : Bool) : Type 0 where
  pub floor : FloorRoot n m
  pub longer : FloorRoot (4 * n) (m + k)
  pub low : m ≤ k
  pub high : k ≤ m + 1
  pub exact : b ≡ eqb (m * m) n

-- an exact root is also the nearest number, and exact with one digit more; and there is one of each
module _ {n m k : ℕ} {b : Bool} (w : Whole n m k b) where
  settled : m * m ≡ n → k ≡ m
  settled i = omega (arith, w.low, sq_le (m + k) (2 * m) (omega (arith, w.longer.low)))

  pub exact_nearest : b ≡ true → k ≡ m
  exact_nearest e = settled (eqb-true (m * m) n (sym w.exact ∙ e))

  pub longer_exact : b ≡ eqb ((m + k) * (m + k)) (4 * n)
  longer_exact =
      w.exact
      ∙ met (m * m) n ((m + k) * (m + k)) (4 * n)
      (λ i. order k m
      (λ l. let e : k ≡ m = omega (arith, w.low) in omega (arith, ap (λ j. (m + j) * (m + j)) e))
      (λ l. let e : k ≡ m + 1 = omega (arith, w.high) in absurd (omega (arith, ap (λ j. (m + j) * (m + j)) e))))
      (λ i. omega (arith, ap (λ j. (m + j) * (m + j)) (settled i)))

  pub whole_one : {m' k' : ℕ} {b' : Bool} → Whole n m' k' b' → (m ≡ m') × (k ≡ k') × (b ≡ b')
  whole_one {m'} {k'} v =
      let i = floor_unique n m m' w.floor v.floor in
      let j = floor_unique (4 * n) (m + k) (m' + k') w.longer v.longer in
      (i, omega arith, w.exact ∙ ap (λ j. eqb (j * j) n) i ∙ sym v.exact)

made : {n m k : ℕ} {b : Bool} → (m ≤ k) × (k ≤ m + 1) × (m * m ≤ n) × (n < (m + 1) * (m + 1)) × ((m + k) * (m + k) ≤ 4 * n) × (4 * n < (m + k + 1) * (m + k + 1))
    → b ≡ eqb (m * m) n → Whole n m k b
made (a, b, c, d, e, f) g = record { floor = record { low = c; high = d }; longer = record { low = e; high = f }; low = a; high = b; exact = g }

module _ (n q rem : ℕ) (r : Residual n q rem) where
  -- a residual up to the root, up to twice the root, and past it
  pub whole : Whole n (floor_by q rem) (nearest_by q rem) (exact_by q rem)
  whole =
      order rem q
      (λ l. rw (le-ltb (2 * q) rem (omega arith), le-ltb q rem l, ne_eqb rem (2 * q + 1) (omega arith))
      (made (omega (arith, r.sum)) (or-false (eqb rem 0) ∙ met rem 0 ((q + 0) * (q + 0)) n (λ e. omega (arith, r.sum)) (λ e. omega (arith, r.sum)))))
      (λ l. order rem (2 * q)
      (λ k. rw (le-ltb (2 * q) rem k, lt-ltb q rem l, ne_eqb rem 0 (omega arith), ne_eqb rem (2 * q + 1) (omega arith))
      (made (omega (arith, r.sum)) (sym (ne_eqb ((q + 0) * (q + 0)) n (omega (arith, r.sum))))))
      (λ k. rw (lt-ltb (2 * q) rem k, lt-ltb q rem l, ne_eqb rem 0 (omega arith))
      (made (omega (arith, r.sum, r.near)) (met rem (2 * q + 1) ((q + 1) * (q + 1)) n (λ e. omega (arith, r.sum)) (λ e. omega (arith, r.sum))))))

  -- so a root by digits is the same
  pub alike : (t : ℕ) (e : Bool) → FloorRoot n t × (e ≡ eqb (t * t) n) → (t ≡ floor_by q rem) × (e ≡ exact_by q rem)
  alike t e (f, i) =
      let same = floor_unique n t (floor_by q rem) f whole.floor in
      (same, i ∙ ap (λ k. eqb (k * k) n) same ∙ sym whole.exact)
