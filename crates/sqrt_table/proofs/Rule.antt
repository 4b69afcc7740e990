-- The rule of the table, one test over all entries, and what it says of the step that an entry serves. Assumes nothing.
use Rattle.std.proofs.Common.{◌≡◌, ℕ, ◌+◌, ◌-◌, ◌*◌, ◌/◌, ◌%◌, ◌^◌, ◌<◌, ◌≤◌, Bool, ◌&&◌, T, eqb, ltb, arith, eqb→eq, ltb→lt, le-ltb, lt-ltb}
use lib.Ieee.Fits.{and_l, and_r}
use Rattle.algebra.proofs.Products.{times_le}
use Rattle.sqrt_laws.specs.Near.{Near}
use Rattle.sqrt_table.specs.Table.{entry_of, row_of, first, past, Serves}
use Rattle.sqrt_table.specs.Guess.{Starts, Begins}
use Rattle.sqrt_table.proofs.Sweeps.{every_at}

-- ---- the entries are those of the rows' words, and have 16 bits
abbrev cut_out : ℕ → ℕ
cut_out i = row_of (i / 4) / 2 ^ (16 * (i % 4)) % 2 ^ 16

pub unpacked : (i : ℕ) → i < 128 → cut_out i ≡ entry_of i
unpacked i h = eqb→eq (cut_out i) (entry_of i) (every_at (λ k. eqb (cut_out k) (entry_of k)) 128 tt i h)

pub entry_small : (i : ℕ) → i < 128 → entry_of i < 2 ^ 16
entry_small i h = ltb→lt (entry_of i) (2 ^ 16) (every_at (λ k. ltb (entry_of k) (2 ^ 16)) 128 tt i h)

-- ---- the square of an entry times m lies strictly between 65280² and 65792², at both ends of its step
abbrev low : ℕ → Bool
low i = ltb (65280 ^ 2 * 2 ^ 30) (entry_of i * entry_of i * first i)

abbrev high : ℕ → Bool
high i = ltb (entry_of i * entry_of i * past i) (65792 ^ 2 * 2 ^ 30)

rule : (i : ℕ) → i < 128 → T (low i && high i)
rule i h = every_at (λ k. low k && high k) 128 tt i h

-- so on the whole step
pub between : (i m : ℕ) → Serves i m → (65280 ^ 2 * 2 ^ 30 < entry_of i * entry_of i * m) × (entry_of i * entry_of i * m < 65792 ^ 2 * 2 ^ 30)
between i m s =
    let t = rule i s.at in
    inside (entry_of i)
    (ltb→lt (65280 ^ 2 * 2 ^ 30) (entry_of i * entry_of i * first i) (and_l (low i) (high i) t))
    (ltb→lt (entry_of i * entry_of i * past i) (65792 ^ 2 * 2 ^ 30) (and_r (low i) (high i) t))
  where
    inside : (x : ℕ) → 65280 ^ 2 * 2 ^ 30 < x * x * first i → x * x * past i < 65792 ^ 2 * 2 ^ 30 → (65280 ^ 2 * 2 ^ 30 < x * x * m) × (x * x * m < 65792 ^ 2 * 2 ^ 30)
    inside x lo hi = (omega (arith, times_le (x * x) s.from), omega (arith, times_le (x * x) s.to))

served : (i m : ℕ) → Serves i m → Near (2 ^ 30) m (entry_of i * 2 ^ 16) 8404992
served i m s = near (entry_of i) (between i m s)
  where
    near : (x : ℕ) → (65280 ^ 2 * 2 ^ 30 < x * x * m) × (x * x * m < 65792 ^ 2 * 2 ^ 30) → Near (2 ^ 30) m (x * 2 ^ 16) 8404992
    near x (lo, hi) = record { lo = omega arith; hi = omega arith; small = omega arith }

-- the guess read there is near, and half a word
pub start_near : (m r : ℕ) → Starts m r → Near (2 ^ 30) m r 8404992 × (r < 2 ^ 32)
start_near m r s = (rw s.is (served s.step m s.serves), omega (arith, s.is, entry_small s.step s.serves.at))

pub begins : (m r : ℕ) → Starts m r → Begins m r
begins m r s = let (n, l) = start_near m r s in record { near = n; small = l }

-- ---- the step by the first seven bits of m, of which the first is 1, and by whether m is 2 or more
pub serves_high : (j m : ℕ) → 64 ≤ j → j < 128 → j * 2 ^ 25 ≤ m → m ≤ (j + 1) * 2 ^ 25 → Serves (j - 64) m
serves_high j m a b l h =
    let i : j - 64 < 64 = omega arith in
    record { at = omega arith; from = rw (lt-ltb _ _ i) (omega arith); to = rw (lt-ltb _ _ i) (omega arith) }

pub serves_low : (j m : ℕ) → 64 ≤ j → j < 128 → j * 2 ^ 24 ≤ m → m ≤ (j + 1) * 2 ^ 24 → Serves j m
serves_low j m a b l h = record { at = b; from = rw (le-ltb _ _ a) (omega arith); to = rw (le-ltb _ _ a) (omega arith) }
