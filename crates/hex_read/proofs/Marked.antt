-- The rounding of a number by its marked significand: the same in every format of at most 55 fraction bits. Assumes nothing.
use Prim.Native.Nat.{ℕ, suc, ◌+◌, ◌*◌, ◌%◌, ◌^◌, ◌≤◌, ◌<◌}
use mathlib.Core.Path.{◌≡◌, refl, sym, ap, ◌∙◌}
use mathlib.Core.Bool.{Bool, true, false}
use native.Mathlib.Omega.{arith}
use lib.IntN.{ℤ, pos, negsuc, ◌+ℤ◌, ◌-ℤ◌}
use lib.Pow.{pow-add, pow_pos, pow_mono}
use Rattle.algebra.proofs.Products.{order, times, times_le}
use Rattle.algebra.proofs.Integers.{up, dn, add_z, sub_z, eq_z, eq_z_fact}
use Rattle.ieee.specs.Format.{Format, low}
use Rattle.ieee.specs.Round.{Attribute, answer}
use Rattle.ieee.specs.Scalbn.{scaled}
use Rattle.round_step.specs.Mark.{Marks}
use Rattle.round_step.proofs.Scaled.{scaled_alike, scaled_moves}
use Rattle.round_step.proofs.MarkedAnswers.{sticky_answer}
use Rattle.ieee_numeral_laws.specs.Read.{exact_numeral}
use Rattle.hex_read.specs.declared.lead.Lead.{Lead}
use Rattle.hex_read.specs.declared.number.Number.{Number}
use Rattle.hex_read.specs.Scanned.{Holds}
use Rattle.hex_read.specs.Found.{marked, Reduces}

-- ---- the mark of what is held
pub held_marks : {v : ℕ} {c : Lead} → Holds v c → Marks (2 * v) (16 ^ c.extra) (marked c.sig c.sticky)
held_marks {v} {c} h = go c.sticky h.clean h.loose
  where
    go : (t : Bool) → (t ≡ false → h.rest ≡ 0) → (t ≡ true → 0 < h.rest) → Marks (2 * v) (16 ^ c.extra) (marked c.sig t)
    go false f g = record { exact = λ q. omega (arith, h.whole, f refl); more = λ q. absurd (omega arith); less = λ q. absurd (omega arith) }
    go true f g = record { exact = λ q. absurd (omega arith); more = λ q. omega (arith, h.whole, g refl); less = λ q. omega (arith, h.whole, h.below) }

pub held_enough : {v : ℕ} {c : Lead} → Holds v c → marked c.sig c.sticky % 2 ≡ 1 → 2 ^ 57 ≤ marked c.sig c.sticky
held_enough {v} {c} h = go c.sticky h.loose
  where
    go : (t : Bool) → (t ≡ true → 0 < h.rest) → marked c.sig t % 2 ≡ 1 → 2 ^ 57 ≤ marked c.sig t
    go false g q = absurd (omega arith)
    go true g q =
        order c.extra 0
        (λ l. let z : c.extra ≡ 0 = omega arith in
        let none : 16 ^ c.extra ≡ 1 = ap (λ n. 16 ^ n) z in
        absurd (omega (arith, none, h.below, g refl)))
        (λ l. omega (arith, h.full l))

-- ---- the rounding
marks_stretch : {v n s : ℕ} (t : ℕ) → 0 < t → Marks v n s → Marks (v * t) (n * t) s
marks_stretch {v} {n} {s} t p m =
    record {
      exact = λ q. omega (arith, times t (m.exact q));
      more = λ q. omega (arith, p, times_le t (m.more q));
      less = λ q. omega (arith, p, times_le t (m.less q));
    }

-- v times 2 ^ m rounds as its mark does, which counts it in steps of 2 ^ c
scaled_marked : (f : Format) (a : Attribute) (s : Bool) (v u c : ℕ) (m : ℤ) → 0 < v → Marks v (2 ^ c) u → 2 ^ (2 + f.frac) ≤ u
    → answer f a s (scaled s v m) ≡ answer f a s (scaled s u (m +ℤ pos c))
scaled_marked f a s v u c (pos p) l k h =
    let k' : Marks (v * 2 ^ p) (2 ^ (c + p)) u = rw (pow-add 2 c p) (marks_stretch (2 ^ p) (pow_pos p) k) in
    sticky_answer f a s s (v * 2 ^ p) u (c + p) 0 (pos p +ℤ pos c) (omega (arith, times_le (2 ^ p) l, pow_pos p)) (omega (arith, add_z (pos p) (pos c))) k' (λ q. h)
scaled_marked f a s v u c (negsuc p) l k h =
    sticky_answer f a s s v u c (suc p) (negsuc p +ℤ pos c) l (omega (arith, add_z (negsuc p) (pos c))) k (λ q. h)

-- the same for a mark that is exact or has enough bits
rounds_marked : (f : Format) (a : Attribute) (s : Bool) (v u c : ℕ) (m : ℤ) → Marks v (2 ^ c) u → (u % 2 ≡ 1 → 2 ^ (2 + f.frac) ≤ u)
    → answer f a s (scaled s v m) ≡ answer f a s (scaled s u (m +ℤ pos c))
rounds_marked f a s v u c m k h =
    order (u % 2) 0
    (λ l. ap (λ w. answer f a s (scaled s w m)) (k.exact (omega arith)) ∙ scaled_moves f a s u c m)
    (λ l. let q : u % 2 ≡ 1 = omega arith in
    let some : 0 < u = omega arith in
    scaled_marked f a s v u c m (omega (arith, k.more q, times_le (2 ^ c) some)) k (h q))

-- a number's exact value rounds as the significand and the power of two that the code has
pub number_rounds : (f : Format) (a : Attribute) (s : Bool) (d k : ℕ) (e : ℤ) (r : Number) → f.frac ≤ 55 → Reduces d k e r
    → answer f a s (scaled s r.sig (r.exp +ℤ pos (low f))) ≡ answer f a s (exact_numeral f s d k e)
number_rounds f a s d k e r l h =
    let at : ℤ = e +ℤ pos (low f) -ℤ pos (4 * k) in
    let half : ℤ = at -ℤ pos 1 in
    let o = sub_z at (pos 1) in
    let twice : answer f a s (scaled s d at) ≡ answer f a s (scaled s (2 * d) half) =
    scaled_alike f a s d (2 * d) at half (double d (up at + dn half) (up half + dn at) (omega arith)) in
    let power : half +ℤ pos h.dropped ≡ r.exp +ℤ pos (low f) = eq_z _ _ (omega (
      arith,
      o,
      eq_z_fact h.power,
      add_z e (pos h.dropped),
      sub_z (e +ℤ pos h.dropped) (pos (4 * k + 1)),
      add_z e (pos (low f)),
      sub_z (e +ℤ pos (low f)) (pos (4 * k)),
      add_z half (pos h.dropped),
      add_z r.exp (pos (low f)),
    )) in
    sym
    (twice
    ∙ rounds_marked f a s (2 * d) r.sig h.dropped half h.marks (λ q. omega (arith, h.enough q, pow_mono {i = 2 + f.frac} {j = 57} (omega arith)))
    ∙ ap (λ n. answer f a s (scaled s r.sig n)) power)
  where
    double : (d x y : ℕ) → x ≡ y + 1 → d * 2 ^ x ≡ 2 * d * 2 ^ y
    double d x y e = ap (λ n. d * 2 ^ n) e ∙ omega (arith, times d (pow-add 2 y 1))
