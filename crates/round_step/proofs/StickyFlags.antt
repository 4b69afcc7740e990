-- A value truncated to a count of steps with a sticky mark raises the flags of the count, where a step is at most an eighth of the smallest unit
-- or the count has two bits more than the format keeps. Assumes nothing.
use Prim.Native.Nat.{ℕ, zero, suc, ◌+◌, ◌-◌, ◌*◌, ◌^◌, ◌≤◌, ◌<◌}
use mathlib.Core.Path.{◌≡◌, sym, ap, ◌∙◌, subst}
use native.Mathlib.Nat.{two-pow-succ}
use native.Mathlib.Omega.{arith}
use lib.Pow.{pow-add, pow_pos}
use Rattle.algebra.proofs.Products.{order, times, times_le}
use Rattle.ieee.specs.Format.{Format, Fair, units}
use Rattle.ieee.specs.Exact.{Exact, ratio, root, Over, magnified}
use Rattle.ieee.specs.Round.{Way, middle}
use Rattle.ieee.specs.Flags.{raised_by}
use Rattle.ieee.proofs.Units.{units_at_lem}
use Rattle.ieee.proofs.Sides.{Sound, over_down}
use Rattle.ieee.proofs.Alike.{Beside}
use Rattle.ieee.proofs.Wider.{magnified_beside, magnified_sound}
use Rattle.ieee.proofs.Locations.{quarters}
use Rattle.ieee.proofs.FlagsAlike.{Level, flags_alike}
use Rattle.round_step.specs.Mark.{Marked}
use Rattle.round_step.proofs.Grid.{Multiple, start, start_units, twice_grid, middle_grid, beside_below}
use Rattle.round_step.proofs.Sticky.{beside_grid}

-- four times three quarters of the way to the least normal number
quarters_is : (f : Format) → quarters f (2 ^ f.frac - 1) ≡ 4 * 2 ^ f.frac - 1
quarters_is f =
    let p = pow_pos f.frac in
    let c : 2 ^ f.frac - 1 < 2 ^ f.frac = omega arith in
    let a : units f (2 ^ f.frac - 1) ≡ 2 ^ f.frac - 1 = ap (units f) (omega arith) ∙ units_at_lem f 0 (2 ^ f.frac - 1) c in
    let b : units f (suc (2 ^ f.frac - 1)) ≡ 2 ^ f.frac = ap (units f) (omega arith) ∙ units_at_lem f 1 0 (pow_pos f.frac) ∙ omega arith in
    omega arith

-- two values past the least normal number are past three quarters of the way to it
past_quarters : (f : Format) (x y : Exact) → Sound x → Sound y → Over x (2 * 2 ^ f.frac) → Over y (2 * 2 ^ f.frac) → Beside (magnified x 2) (magnified y 2) (quarters f (2 ^ f.frac - 1))
past_quarters f x y p q o v =
    beside_below (magnified x 2) (magnified y 2) (magnified_sound x 2 p) (magnified_sound y 2 q) {t = 2 * 2 ^ f.frac * 2} (omega (arith, quarters_is f, pow_pos f.frac))
    ((magnified_beside x (2 * 2 ^ f.frac) 2 (omega arith)).0.1 o) ((magnified_beside y (2 * 2 ^ f.frac) 2 (omega arith)).0.1 v)

module _ (x : Exact) (p : Sound x) (s a b : ℕ) (m : Marked (magnified x (2 ^ b)) (2 ^ a) s) where
  abbrev y : Exact
  y = ratio (s * 2 ^ a) (2 ^ b)

  -- a step is at most a quarter: every number and every middle is an even count
  near : a + 2 ≤ b → (t : ℕ) → Beside x y t
  near l t = subst (Beside x y) (omega arith) (beside_grid x p s a b m 0 (omega arith) t)

  -- the mark is at least 2 ^ (frac + c), and so is x
  module _ (f : Format) (c : ℕ) (e : b + c ≡ a + 2) (h : 2 ^ (2 + f.frac) ≤ s) where
    level : 2 ^ (f.frac + c) * 2 ^ b ≡ 2 ^ (2 + f.frac + a)
    level = sym (pow-add 2 (f.frac + c) b) ∙ ap (λ i. 2 ^ i) (omega arith)

    mark_past : Over y (2 * 2 ^ (f.frac + c))
    mark_past = omega (arith, level, pow-add 2 (2 + f.frac) a, times_le (2 ^ a) h)

    value_past : Over x (2 * 2 ^ (f.frac + c))
    value_past =
        let k : 2 * 2 ^ f.frac * 2 ^ c ≡ 2 * 2 ^ (f.frac + c) = omega (arith, pow-add 2 f.frac c) in
        subst (Over x) k ((beside_grid x p s a b m c (omega arith) (2 * 2 ^ f.frac)).above.1 (subst (Over y) (sym k) mark_past))

    on : (t : ℕ) → Multiple (2 ^ c) t → Beside x y t
    on t k = subst (Beside x y) (sym k.1) (beside_grid x p s a b m c (omega arith) k.0)

    off : (t : ℕ) → t < 2 * units f (start f c) → Beside x y t
    off t l = beside_below x y p (pow_pos b) (omega (arith, start_units f c)) value_past mark_past

    far : Level f x y
    far =
        let w = pow-add 2 f.frac c in
        let z = times_le {a = 1} {b = 2 ^ c} (2 ^ f.frac) (pow_pos c) in
        record {
          at_number = λ j _. twice_grid f c j (on (2 * units f j)) (off (2 * units f j));
          at_middle = λ j _. middle_grid f c j (on (middle f j)) (off (middle f j));
          at_quarters = past_quarters f x y p (pow_pos b) (over_down x (omega arith) value_past) (over_down y (omega arith) mark_past);
        }

-- a value doubled, with half as many steps to the unit
halved : (x : Exact) (b : ℕ) → magnified (magnified x 2) (2 ^ b) ≡ magnified x (2 ^ suc b)
halved (ratio n d) b = ap (λ c. ratio c d) (omega (arith, times n (two-pow-succ b)))
halved (root n) b = ap root (omega (arith, two-pow-succ b, squares (2 ^ b) (2 ^ suc b) (omega (arith, two-pow-succ b))))
  where
    squares : (c d : ℕ) → d ≡ 2 * c → n * (2 * 2) * (c * c) ≡ n * (d * d)
    squares c d e = rw e (omega arith)

module _ (x : Exact) (p : Sound x) (s a b : ℕ) (m : Marked (magnified x (2 ^ suc b)) (2 ^ a) s) where
  close : (f : Format) → a + 2 ≤ b → Level f x (ratio (s * 2 ^ a) (2 ^ suc b))
  close f l =
      record {
        at_number = λ j _. near x p s a (suc b) m (omega arith) (2 * units f j);
        at_middle = λ j _. near x p s a (suc b) m (omega arith) (middle f j);
        at_quarters = doubled (near (magnified x 2) (magnified_sound x 2 p) s a b (subst (λ e. Marked e (2 ^ a) s) (sym (halved x b)) m) l (quarters f (2 ^ f.frac - 1)));
      }
    where
      doubled : {t : ℕ} → Beside (magnified x 2) (ratio (s * 2 ^ a) (2 ^ b)) t → Beside (magnified x 2) (magnified (ratio (s * 2 ^ a) (2 ^ suc b)) 2) t
      doubled {t} k =
          let e = times t (two-pow-succ b) in
          record {
            above = (λ o. let h = k.above.0 o in omega arith, λ o. k.above.1 (omega arith));
            below = (λ o. let h = k.below.0 o in omega arith, λ o. k.below.1 (omega arith));
          }

-- the flags of x are those of s steps of 2 ^ a / 2 ^ b
pub sticky_flags : (f : Format) → Fair f → (w : Way) (x : Exact) → Sound x → (s a b : ℕ) → Marked (magnified x (2 ^ b)) (2 ^ a) s
    → (b < a + 3 → 2 ^ (2 + f.frac) ≤ s) → raised_by f w x ≡ raised_by f w (ratio (s * 2 ^ a) (2 ^ b))
sticky_flags f g w x p s a b m h = flags_alike f g w x (ratio (s * 2 ^ a) (2 ^ b)) p (pow_pos b) (go b m h)
  where
    go : (b : ℕ) → Marked (magnified x (2 ^ b)) (2 ^ a) s → (b < a + 3 → 2 ^ (2 + f.frac) ≤ s) → Level f x (ratio (s * 2 ^ a) (2 ^ b))
    go zero m h = far x p s a zero m f (a + 2) (omega arith) (h (omega arith))
    go (suc b) m h =
        order (a + 3) (suc b)
        (λ l. close x p s a b m f (omega arith))
        (λ l. far x p s a (suc b) m f (a + 2 - suc b) (omega arith) (h (omega arith)))
