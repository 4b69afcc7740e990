-- What the parts of a number's text give together: its digits, its point and its exponent. Assumes nothing.
use Prim.Native.Nat.{ℕ, zero, suc, ◌+◌, ◌-◌, ◌*◌, ◌^◌, ◌≤◌, ◌<◌}
use mathlib.Core.Path.{◌≡◌, refl, sym, ap, ◌∙◌}
use mathlib.Core.Bool.{Bool}
use mathlib.Core.List.{List}
use native.Mathlib.Nat.{pow-suc}
use native.Mathlib.Omega.{arith}
use lib.IntN.{ℤ, pos, ◌+ℤ◌, ◌-ℤ◌}
use lib.ListN.{length, take, drop, get_or}
use lib.Pow.{pow-add}
use Rattle.std.specs.Int.Signed.{mag}
use Rattle.algebra.proofs.Integers.{add_z, sub_z, mag_z, mag_z_fact, eq_z_fact}
use Rattle.ieee_numeral_laws.specs.Numeral.{number}
use Rattle.std.specs.Prelude.{Option, Some}
use Rattle.ieee_numeral_laws.specs.Reading.{run, exponent_of, with_exponent, end_by, behind_by, point_by, ahead_by, unsigned_of}
use Rattle.hex_read.specs.declared.lead.Lead.{Lead}
use Rattle.hex_read.specs.declared.scan.Scan.{Scan}
use Rattle.hex_read.specs.declared.number.Number.{Number}
use Rattle.hex_read.specs.Scanned.{Holds, Scanned}
use Rattle.hex_read.specs.Found.{marked, NumberAs}
use Rattle.hex_read.proofs.Marked.{held_marks, held_enough}
use Rattle.text_numbers.proofs.Parts.{rest_whole}
use Rattle.hex_read.proofs.Texts.{end_exponent, point_behind, unsigned_run}

sixteenths : (n : ℕ) → 16 ^ n ≡ 2 ^ (4 * n)
sixteenths zero = refl
sixteenths (suc n) =
    let sum : 4 * suc n ≡ 4 * n + 4 = omega arith in
    let step : 2 ^ (4 * suc n) ≡ 2 ^ (4 * n) * 2 ^ 4 = ap (λ (m : ℕ). 2 ^ m) sum ∙ pow-add 2 (4 * n) 4 in
    omega (arith, pow-suc 16 n, sixteenths n, step)

power_small : (e : ℤ) (x k : ℕ) (z : ℤ) → x ≤ 64 → k ≤ 64 → mag e < 10 ^ 5 → z ≡ e +ℤ pos (4 * x) -ℤ pos (4 * k + 1) → mag z < 2 ^ 17
power_small e x k z l m small w =
    let a = add_z e (pos (4 * x)) in
    let b = sub_z (e +ℤ pos (4 * x)) (pos (4 * k + 1)) in
    let (p, q) = mag_z_fact e small in
    let same = eq_z_fact w in
    mag_z z (2 ^ 17) (omega arith) (omega arith)

-- the digits held and the exponent give the number
pub number_made : (neg : Bool) (d k : ℕ) {c : Lead} (e : ℤ) (r : Number) → Holds d c → c.extra ≤ 64 → k ≤ 64 → mag e < 10 ^ 5 → r.sig ≡ marked c.sig c.sticky
    → r.exp ≡ e +ℤ pos (4 * c.extra) -ℤ pos (4 * k + 1) → NumberAs neg (Some (number neg d k e)) (Some r)
number_made neg d k {c} e r h l m small s w = (
  refl,
  record {
    dropped = 4 * c.extra;
    marks = rw (s, ← sixteenths c.extra) (held_marks h);
    enough = rw s (held_enough h);
    power = w;
    small = power_small e c.extra k r.exp l m small w;
  },
)

-- `p` and the exponent
pub end_with : (neg : Bool) (d n k : ℕ) (s : List ℕ) (p : Option ℤ) → 1 ≤ length s → 1 ≤ n → get_or s 0 0 ≡ 112 → p ≡ exponent_of (take (length s - 1) (drop 1 s))
    → end_by neg d n k s ≡ with_exponent neg d k p
end_with neg d n k s p l m e i = end_exponent neg d n k s l m e ∙ ap (with_exponent neg d k) (sym (i ∙ ap exponent_of (rest_whole 1 s)))

-- the digits behind the point
pub point_scanned : (neg : Bool) (d n : ℕ) (s : List ℕ) (c : Scan) (r : Option Number) → 0 < length s → get_or s 0 0 ≡ 46
    → (q : Scanned d 0 (take (length s - 1) (drop 1 s)) c)
    → NumberAs neg (end_by neg q.spelt (n + c.end) c.end (take (length (take (length s - 1) (drop 1 s)) - c.end) (drop c.end (take (length s - 1) (drop 1 s))))) r
    → NumberAs neg (point_by neg d n s) r
point_scanned neg d n s c r l e q a = rw (point_behind neg d n s l e ∙ ap (behind_by neg n) scanned) a'
  where
    scanned : run 16 d 0 (drop 1 s) ≡ record { spelt = q.spelt; count = c.end; rest = drop c.end (take (length s - 1) (drop 1 s)) }
    scanned = let none : 0 + c.end ≡ c.end = omega arith in ap (run 16 d 0) (sym (rest_whole 1 s)) ∙ (rw none at q.runs)

    a' : NumberAs neg (end_by neg q.spelt (n + c.end) c.end (drop c.end (take (length s - 1) (drop 1 s)))) r
    a' = rw (rest_whole c.end (take (length s - 1) (drop 1 s))) at a

-- the digits behind `0x`
pub unsigned_scanned : (neg : Bool) (s : List ℕ) (c : Scan) (r : Option Number) → 2 ≤ length s → get_or s 0 0 ≡ 48 → get_or s 1 0 ≡ 120
    → (q : Scanned 0 0 (take (length s - 2) (drop 2 s)) c)
    → NumberAs neg (point_by neg q.spelt c.end (take (length (take (length s - 2) (drop 2 s)) - c.end) (drop c.end (take (length s - 2) (drop 2 s))))) r
    → NumberAs neg (unsigned_of neg s) r
unsigned_scanned neg s c r l e f q a = rw (unsigned_run neg s l e f ∙ ap (ahead_by neg) scanned) a'
  where
    scanned : run 16 0 0 (drop 2 s) ≡ record { spelt = q.spelt; count = c.end; rest = drop c.end (take (length s - 2) (drop 2 s)) }
    scanned = let none : 0 + c.end ≡ c.end = omega arith in ap (run 16 0 0) (sym (rest_whole 2 s)) ∙ (rw none at q.runs)

    a' : NumberAs neg (point_by neg q.spelt c.end (drop c.end (take (length s - 2) (drop 2 s)))) r
    a' = rw (rest_whole c.end (take (length s - 2) (drop 2 s))) at a
